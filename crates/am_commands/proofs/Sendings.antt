-- Messages that are sent, one more.
use Rattle.std.proofs.Common.{◌≡◌, ℕ, ◌+◌, ◌<◌, List, [], ◌∷◌, ◌++◌, length, take, get_or, Bool, true, false, Option, Some, None, Result, Ok, inl, inr, refl, sym, subst, ap, ◌∙◌, append-nil, append_assoc, arith}
use Rattle.std.specs.Prelude.{All, Contains, is_none, is_some, if◌then◌else◌, flat_map, map}
use Rattle.std.specs.declared.cmp.Ordering.{Ordering}
use Rattle.std.proofs.lemmas.List.Elements.{All-push, Contains-append_left, Contains-push}
use Rattle.std.proofs.lemmas.Grind.{flat_map-append}
use Rattle.std.proofs.lemmas.List.{map-append, take_more}
use Rattle.am_version_order.specs.Versions.{Version, is_below}
use Rattle.am_matcher.specs.declared.hazard.Hazard.{Hazard}
use Rattle.am_merge.specs.Maps.{IsJoin, at, greater_of}
use Rattle.am_merge.proofs.Keys.{IsKeyOrder, eq_itself}
use Rattle.am_wire.specs.Inputs.{sound}
use Rattle.am_wire.specs.Writing.{delimited}
use Rattle.am_wire.specs.declared.error.WireError.{WireError}
use Rattle.am_commands.specs.Sending.{is_sent, IsForSending, IsSettled, IsOver, IsSending, IsSendingOf}

module _ {K X : Type 0} (seen : X → Version K) where
  chosen : (b : Bool) (v w : X) → is_none (if b then Some w else Some v) ≡ false
  chosen true v w = refl
  chosen false v w = refl

  still_there : (a b : Option X) → is_none a ≡ false → is_none (greater_of seen a b) ≡ false
  still_there None b is = absurd cc
  still_there (Some v) None is = refl
  still_there (Some v) (Some w) is = chosen (is_below (seen v) (seen w)) v w

  then_there : (a : Option X) (w : X) → is_none (greater_of seen a (Some w)) ≡ false
  then_there None w = refl
  then_there (Some v) w = chosen (is_below (seen v) (seen w)) v w

  module _ (cmp : K → K → Ordering) (reads : ℕ → List ℕ → Result X WireError) (is_hazard : X → Option Hazard → Type 0) (all : List X) (now : ℕ) (held : List X) where
    pub none_sent : IsSending seen cmp reads is_hazard all now held [] [] []
    none_sent = record {
      sent = [];
      row = refl;
      each = λ k d less. absurd (omega (arith, less));
      among = λ k d less. absurd (omega (arith, less));
      over = λ k d less. absurd (omega (arith, less));
    }

    settled_yet : (old other new : List X) → IsJoin seen cmp old other new → (v : X) → IsSettled seen cmp reads is_hazard all now held old v
        → IsSettled seen cmp reads is_hazard all now held new v
    settled_yet old other new join v (inl unsent) = inl unsent
    settled_yet old other new join v (inr (inl hazard)) = inr (inl hazard)
    settled_yet old other new join v (inr (inr there)) =
        inr (inr (subst (λ (o : Option X). is_none o ≡ false) (sym (join (seen v).key)) (still_there (at seen cmp old (seen v).key) (at seen cmp other (seen v).key) there)))

    over_yet : (old other new : List X) → IsJoin seen cmp old other new → (messages : List (List ℕ))
        → All (IsOver seen cmp reads is_hazard all now held old) messages → All (IsOver seen cmp reads is_hazard all now held new) messages
    over_yet old other new join messages over = λ k d less.
        let one = over k d less in
        record { version = one.version; read = one.read; settled = settled_yet old other new join one.version one.settled }

    among_yet : (messages : List (List ℕ)) (message : List ℕ) (sent : List (List ℕ)) → All (Contains messages) sent → All (Contains (messages ++ message ∷ [])) sent
    among_yet messages message sent among = λ k d less. Contains-append_left messages (message ∷ []) _ (among k d less)

    module _ (messages : List (List ℕ)) (row : List ℕ) (versions : List X) (message : List ℕ) (v : X) (before : IsSending seen cmp reads is_hazard all now held messages row versions)
        (read : reads 0 message ≡ Ok v) where
      -- the message isn't sent
      pub not_sent : IsSettled seen cmp reads is_hazard all now held versions v → IsSending seen cmp reads is_hazard all now held (messages ++ message ∷ []) row versions
      not_sent settled = record {
        sent = before.sent;
        row = before.row;
        each = before.each;
        among = among_yet messages message before.sent before.among;
        over = All-push (IsOver seen cmp reads is_hazard all now held versions) messages message before.over (record { version = v; read = read; settled = settled });
      }

      -- it is, and its version is among those that are
      pub sent_more : (new : List ℕ) (put : List X) → IsKeyOrder cmp → is_sent seen cmp all now held v ≡ true → is_hazard v None → IsJoin seen cmp versions (v ∷ []) put
          → new ≡ row ++ delimited message → IsSending seen cmp reads is_hazard all now held (messages ++ message ∷ []) new put
      sent_more new put keys is harmless join appended =
          let own : at seen cmp (v ∷ []) (seen v).key ≡ Some v = rw (eq_itself seen cmp keys (seen v).key) refl in
          let there : is_none (at seen cmp put (seen v).key) ≡ false =
          subst (λ (o : Option X). is_none o ≡ false) (sym (join (seen v).key ∙ ap (λ (o : Option X). greater_of seen (at seen cmp versions (seen v).key) o) own))
          (then_there (at seen cmp versions (seen v).key) v) in
          record {
            sent = before.sent ++ message ∷ [];
            row =
                appended
                ∙ ap (λ r. r ++ delimited message) before.row
                ∙ ap (λ r. flat_map delimited before.sent ++ r) (sym (append-nil (delimited message)))
                ∙ sym (flat_map-append delimited before.sent (message ∷ []));
            each =
                All-push (IsForSending seen cmp reads is_hazard all now held) before.sent message before.each
                (record { version = v; read = read; sent = is; harmless = harmless });
            among = All-push (Contains (messages ++ message ∷ [])) before.sent message (among_yet messages message before.sent before.among) (Contains-push messages message);
            over =
                All-push (IsOver seen cmp reads is_hazard all now held put) messages message (over_yet versions (v ∷ []) put join messages before.over)
                (record { version = v; read = read; settled = inr (inr there) });
          }

    -- one message more of a row
    pub row_more : (of_row : List (Result (List ℕ) WireError)) (messages : List (List ℕ)) (left rest : List (Result (List ℕ) WireError)) (message : List ℕ)
        (begun row new : List ℕ) (start versions put : List X)
        → of_row ≡ map sound messages ++ left → left ≡ Ok message ∷ rest
        → ((before : List (List ℕ)) → IsSending seen cmp reads is_hazard all now held before begun start → IsSending seen cmp reads is_hazard all now held (before ++ messages) row versions)
        → ((before : List (List ℕ)) → IsSending seen cmp reads is_hazard all now held before row versions → IsSending seen cmp reads is_hazard all now held (before ++ message ∷ []) new put)
        → (more : List (List ℕ)) × (of_row ≡ map sound more ++ rest)
        × ((before : List (List ℕ)) → IsSending seen cmp reads is_hazard all now held before begun start → IsSending seen cmp reads is_hazard all now held (before ++ more) new put)
    row_more of_row messages left rest message begun row new start versions put parts first was adds = (
      messages ++ message ∷ [],
      parts
          ∙ ap (λ l. map sound messages ++ l) first
          ∙ sym (append_assoc (map sound messages) (Ok message ∷ []) rest)
          ∙ ap (λ l. l ++ rest) (sym (map-append sound messages (message ∷ []))),
      λ before sending.
          subst (λ l. IsSending seen cmp reads is_hazard all now held l new put) (append_assoc before messages (message ∷ []))
          (adds (before ++ messages) (was before sending)),
    )

    -- one row more
    pub rows_more : (read one : List (Result (List ℕ) WireError)) (row new : List ℕ) (versions put : List X) → IsSendingOf seen cmp reads is_hazard all now held read row versions
        → ((before : List (List ℕ)) → IsSending seen cmp reads is_hazard all now held before row versions
        → (messages : List (List ℕ)) × (one ≡ map sound messages) × IsSending seen cmp reads is_hazard all now held (before ++ messages) new put)
        → IsSendingOf seen cmp reads is_hazard all now held (read ++ one) new put
    rows_more read one row new versions put was adds =
        let (messages, of_one, sending) = adds was.messages was.sending in
        record {
          messages = was.messages ++ messages;
          whole = ap (λ l. l ++ one) was.whole ∙ ap (λ l. map sound was.messages ++ l) of_one ∙ sym (map-append sound was.messages messages);
          sending = sending;
        }

pub flat_more : {A B : Type 0} (f : A → List B) (xs : List A) (i : ℕ) (d : A) → i < length xs → flat_map f (take (i + 1) xs) ≡ flat_map f (take i xs) ++ f (get_or xs i d)
flat_more f xs i d less =
    ap (λ l. flat_map f l) (take_more xs i d less)
    ∙ flat_map-append f (take i xs) (get_or xs i d ∷ [])
    ∙ ap (λ l. flat_map f (take i xs) ++ l) (append-nil (f (get_or xs i d)))

-- a hazard that is there
pub hazardous : (P : Option Hazard → Type 0) (o : Option Hazard) → P o → true ≡ is_some o → (hazard : Hazard) × P (Some hazard)
hazardous P None is there = absurd cc
hazardous P (Some hazard) is there = (hazard, is)

-- none is there
pub harmless : (P : Option Hazard → Type 0) (o : Option Hazard) → P o → false ≡ is_some o → P None
harmless P None is none = is
harmless P (Some hazard) is none = absurd cc
