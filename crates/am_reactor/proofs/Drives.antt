-- Exchanges that go on, step by step, and one after the other.
use Rattle.std.proofs.Common.{◌≡◌, ◌≢◌, ◌∙◌, ◌<◌, ap, sym, subst, refl, arith, ℕ, List, [], ◌∷◌, ◌++◌, length, take, drop, take-append-drop, append-nil, append_assoc, Option, None, Some, is_some, IsSome, IfSome, MatchOption, Result, Ok, Err, OnOk, OnErr, inl, inr}
use Rattle.std.proofs.Math.Seq.{drop-nil}
use Rattle.std.proofs.lemmas.Bool.{false≢true}
use Rattle.am_reactor.specs.declared.exchange.Exchange.{Exchange}
use Rattle.am_reactor.specs.declared.exchanges.Exchanges.{Exchanges}
use Rattle.am_reactor.specs.declared.fault.LinkFault.{LinkFault}
use Rattle.am_reactor.specs.declared.fault.LinkFault.TheVariants.{Time}
use Rattle.am_reactor.specs.Exchanges.{BreaksOff, ComesBack, Fails, GoesOn, IsDriven, IsHeard, IsTimedOut, IsTold, KeepsExchanges, OneByOne, exchange_with}
use Rattle.am_reactor.specs.SendBuffer.{Empties}
use Rattle.am_reactor.specs.Streams.{Arrival, HasEnded, Receives}
use Rattle.am_reactor.proofs.Passing.{receives_none, receives_on}
use Rattle.am_reactor.proofs.Sends.{empties_none, empties_on}

-- ---- where a call fails or doesn't

pub on_ok : {T E P : Type 0} (r : Result T E) → P → OnOk r P
on_ok (Ok x) p = p
on_ok (Err e) p = tt

pub on_err : {T E P : Type 0} (r : Result T E) → P → OnErr r P
on_err (Ok x) p = tt
on_err (Err e) p = p

pub ok_then : {T E P Q : Type 0} (r : Result T E) → (P → Q) → OnOk r P → OnOk r Q
ok_then (Ok x) f p = f p
ok_then (Err e) f p = tt

pub err_then : {T E P Q : Type 0} (r : Result T E) → (P → Q) → OnErr r P → OnErr r Q
err_then (Ok x) f p = tt
err_then (Err e) f p = f p

-- ---- what came back, read by read

-- nothing came yet
pub comes_none : (a : Arrival) (x : List ℕ) → ComesBack a a x x
comes_none a x = record { bytes = []; came = receives_none a; behind = sym (append-nil x) }

-- one read more
pub comes_on : (a b c : Arrival) (x y z : List ℕ) → ComesBack a b x y → ComesBack b c y z → ComesBack a c x z
comes_on a b c x y z h t = record {
  bytes = h.bytes ++ t.bytes;
  came = receives_on a b c _ _ h.came t.came;
  behind = t.behind ∙ (ap (λ l. l ++ t.bytes) h.behind ∙ append_assoc x h.bytes t.bytes);
}

-- one read more, of which these bytes are dropped
pub breaks_off : (a b c : Arrival) (x y z dropped : List ℕ) → ComesBack a b x y → Receives b c dropped → z ≡ y → BreaksOff a c x z
breaks_off a b c x y z dropped h came e = record { bytes = h.bytes; dropped = dropped; came = receives_on a b c _ _ h.came came; behind = e ∙ h.behind }

-- what came is kept, and then it fails
pub breaks_off_whole : (a b : Arrival) (x y : List ℕ) → ComesBack a b x y → BreaksOff a b x y
breaks_off_whole a b x y h = breaks_off a b b x y y [] h (receives_none b) refl

-- ---- an exchange, step by step

some_item : (x : ℕ) (xs : List ℕ) → x ∷ xs ≢ []
some_item x xs e = omega (arith, ap length e)

-- what came only behind all that was asked, and then more
behind_on : (more rest w v : List ℕ) (n : ℕ) → v ≡ drop n w → (more ≢ [] → w ≡ []) → (rest ≢ [] → v ≡ []) → more ++ rest ≢ [] → v ≡ []
behind_on [] rest w v n e h t some = t some
behind_on (x ∷ more) rest w v n e h t some = e ∙ (ap (drop n) (h (some_item x more)) ∙ drop-nil n)

-- where nothing is left, all is taken
taken_all : (n : ℕ) (waiting bytes : List ℕ) → waiting ≡ bytes → drop n waiting ≡ [] → take n waiting ≡ bytes
taken_all n waiting bytes e none = sym (append-nil (take n waiting)) ∙ (ap (λ l. take n waiting ++ l) (sym none) ∙ (take-append-drop n waiting ∙ e))

module _ {C : Type 0} (arrived : C → Arrival) (gone : C → List ℕ) where
  -- nothing was done yet
  pub exchange_rests : (b : Exchange C) → GoesOn arrived gone b b
  exchange_rests b = record {
    asked = empties_none (gone b.stream) b.buffer;
    more = [];
    came = receives_none (arrived b.stream);
    answer = sym (append-nil b.answer.items);
    behind = λ some. absurd (some refl);
  }

  -- a step more
  pub exchange_on : (a b c : Exchange C) → GoesOn arrived gone a b → GoesOn arrived gone b c → GoesOn arrived gone a c
  exchange_on a b c h t = record {
    asked = empties_on _ _ _ _ _ _ h.asked t.asked;
    more = h.more ++ t.more;
    came = receives_on (arrived a.stream) (arrived b.stream) (arrived c.stream) _ _ h.came t.came;
    answer = t.answer ∙ (ap (λ l. l ++ t.more) h.answer ∙ append_assoc a.answer.items h.more t.more);
    behind = behind_on h.more t.more b.buffer.waiting c.buffer.waiting t.asked.count t.asked.moved.rest h.behind t.behind;
  }

  -- what went out and what came back of an exchange in one step, where it is connected
  asked_by : (a m b : Exchange C) (s : C) → m.stream ≡ a.stream → m.buffer ≡ a.buffer → Empties (gone m.stream) (gone s) m.buffer b.buffer → gone b.stream ≡ gone s
      → Empties (gone a.stream) (gone b.stream) a.buffer b.buffer
  asked_by a m b s stream buffer out unwritten =
      subst (λ x. Empties x (gone b.stream) a.buffer b.buffer) (ap gone stream)
      (subst (λ x. Empties (gone m.stream) x a.buffer b.buffer) (sym unwritten) (subst (λ x. Empties (gone m.stream) (gone s) x b.buffer) buffer out))

  -- all that was to be asked went out, and more came
  pub step_heard : (a m b : Exchange C) (s : C) → m.stream ≡ a.stream → m.buffer ≡ a.buffer → m.answer ≡ a.answer → Empties (gone m.stream) (gone s) m.buffer b.buffer
      → arrived s ≡ arrived m.stream → gone b.stream ≡ gone s → b.buffer.waiting ≡ [] → ComesBack (arrived s) (arrived b.stream) m.answer.items b.answer.items → GoesOn arrived gone a b
  step_heard a m b s stream buffer answer out unread unwritten all h = record {
    asked = asked_by a m b s stream buffer out unwritten;
    more = h.bytes;
    came = subst (λ x. Receives x (arrived b.stream) h.bytes) (unread ∙ ap arrived stream) h.came;
    answer = h.behind ∙ ap (λ v. v.items ++ h.bytes) answer;
    behind = λ _. all;
  }

  -- all that was to be asked went out, and the exchange fails while more comes
  pub step_broken : (a m b : Exchange C) (s : C) → m.stream ≡ a.stream → m.buffer ≡ a.buffer → m.answer ≡ a.answer → Empties (gone m.stream) (gone s) m.buffer b.buffer
      → arrived s ≡ arrived m.stream → gone b.stream ≡ gone s → b.buffer.waiting ≡ [] → BreaksOff (arrived s) (arrived b.stream) m.answer.items b.answer.items → Fails arrived gone a b
  step_broken a m b s stream buffer answer out unread unwritten all h = record {
    asked = asked_by a m b s stream buffer out unwritten;
    more = h.bytes;
    dropped = h.dropped;
    came = subst (λ x. Receives x (arrived b.stream) (h.bytes ++ h.dropped)) (unread ∙ ap arrived stream) h.came;
    answer = h.behind ∙ ap (λ v. v.items ++ h.bytes) answer;
    behind = λ _. all;
  }

  -- nothing is read yet
  pub step_asked : (a m b : Exchange C) → m.stream ≡ a.stream → m.buffer ≡ a.buffer → b.answer ≡ a.answer → Empties (gone m.stream) (gone b.stream) m.buffer b.buffer
      → arrived b.stream ≡ arrived m.stream → GoesOn arrived gone a b
  step_asked a m b stream buffer answer out unread = record {
    asked = asked_by a m b b.stream stream buffer out refl;
    more = [];
    came = subst (λ x. Receives x (arrived b.stream) []) (unread ∙ ap arrived stream) (receives_none (arrived b.stream));
    answer = ap (λ v. v.items) answer ∙ sym (append-nil a.answer.items);
    behind = λ some. absurd (some refl);
  }

  -- nothing was dropped where it fails
  pub fails_whole : (a b : Exchange C) → GoesOn arrived gone a b → Fails arrived gone a b
  fails_whole a b h =
      let same : h.more ++ [] ≡ h.more = append-nil h.more in
      record {
        asked = h.asked;
        more = h.more;
        dropped = [];
        came = subst (Receives (arrived a.stream) (arrived b.stream)) (sym same) h.came;
        answer = h.answer;
        behind = λ some. h.behind (λ e. some (same ∙ e));
      }

  -- a step that fails
  pub exchange_fails : (a b c : Exchange C) → GoesOn arrived gone a b → Fails arrived gone b c → Fails arrived gone a c
  exchange_fails a b c h t =
      let same : (h.more ++ t.more) ++ t.dropped ≡ h.more ++ (t.more ++ t.dropped) = append_assoc h.more t.more t.dropped in
      record {
        asked = empties_on _ _ _ _ _ _ h.asked t.asked;
        more = h.more ++ t.more;
        dropped = t.dropped;
        came = subst (Receives (arrived a.stream) (arrived c.stream)) (sym same) (receives_on (arrived a.stream) (arrived b.stream) (arrived c.stream) _ _ h.came t.came);
        answer = t.answer ∙ (ap (λ l. l ++ t.more) h.answer ∙ append_assoc a.answer.items h.more t.more);
        behind = λ some. behind_on h.more (t.more ++ t.dropped) b.buffer.waiting c.buffer.waiting t.asked.count t.asked.moved.rest h.behind t.behind (λ e. some (same ∙ e));
      }

  module _ {S : Type 0} (answers : S → ℕ → List ℕ → S → Type 0) (loses : S → ℕ → LinkFault → S → Type 0) (room peer : ℕ) where
    -- what is said of an exchange with a peer, and of what stands there then
    abbrev Driven : S → S → Option (Exchange C) → Option (Exchange C) → Type 0
    Driven s s' was then = MatchOption was ((then ≡ None) × (s' ≡ s))
        (λ before. (begun : Exchange C) → GoesOn arrived gone begun before → IsHeard arrived gone answers loses room peer begun s s' then)

    -- all of an exchange is told, from its beginning on
    tells_whole : (begun a : Exchange C) (s s' : S) → GoesOn arrived gone begun a → a.buffer.waiting ≡ [] → (0 < room → HasEnded (arrived a.stream)) → answers s peer a.answer.items s'
        → IsTold arrived gone answers loses room peer begun s s' a
    tells_whole begun a s s' h asked ended told = record {
      asked = asked;
      ended = ended;
      told = told;
      question = λ bytes b. h.asked.written ∙ (ap (λ l. l ++ take h.asked.count begun.buffer.waiting) b.silent.unwritten
          ∙ taken_all h.asked.count begun.buffer.waiting bytes b.waiting (sym h.asked.moved.rest ∙ asked));
      answer = λ bytes b. h.answer ∙ (ap (λ l. l ++ h.more) b.unanswered ∙ sym (h.came ∙ ap (λ l. l ++ h.more) b.silent.unread));
    }

    -- it goes on
    pub driven_on : (s : S) (was then : Option (Exchange C)) → IsSome was → IsSome then
        → IfSome was (λ before. IfSome then (GoesOn arrived gone before)) → Driven s s was then
    driven_on s None then is there went = absurd (false≢true is)
    driven_on s (Some b) None is there went = absurd (false≢true there)
    driven_on s (Some b) (Some a) is there went = λ begun since. (a, inl (exchange_on begun b a since went, refl, refl))

    -- it has ended
    pub driven_told : (s s' : S) (was mid then : Option (Exchange C)) → IsSome was → IsSome mid
        → IfSome was (λ before. IfSome mid (GoesOn arrived gone before)) → IfSome mid (λ after. after.buffer.waiting ≡ [])
        → IfSome mid (λ after. 0 < room → HasEnded (arrived after.stream)) → IfSome mid (λ after. answers s peer after.answer.items s') → then ≡ None → Driven s s' was then
    driven_told s s' None mid then is there went asked ended told none = absurd (false≢true is)
    driven_told s s' (Some b) None then is there went asked ended told none = absurd (false≢true there)
    driven_told s s' (Some b) (Some a) then is there went asked ended told none =
        λ begun since. (a, inr (inl (exchange_on begun b a since went, none, tells_whole begun a s s' (exchange_on begun b a since went) asked ended told)))

    -- it has failed
    pub driven_lost : (s s' : S) (fault : LinkFault) (was mid then : Option (Exchange C)) → IsSome was → IsSome mid
        → IfSome was (λ before. IfSome mid (Fails arrived gone before)) → loses s peer fault s' → then ≡ None → Driven s s' was then
    driven_lost s s' fault None mid then is there went lost none = absurd (false≢true is)
    driven_lost s s' fault (Some b) None then is there went lost none = absurd (false≢true there)
    driven_lost s s' fault (Some b) (Some a) then is there went lost none =
        λ begun since. (a, inr (inr (exchange_fails begun b a since went, none, (fault, lost))))

    -- none is under way
    pub driven_none : (s : S) (was then : Option (Exchange C)) → was ≡ None → then ≡ None → Driven s s was then
    driven_none s None then is none = (none, refl)
    driven_none s (Some b) then is none = absurd (false≢true (sym (ap is_some is)))

  -- what the exchanges are matters by the one with the peer alone
  pub same_driven : {S : Type 0} (answers : S → ℕ → List ℕ → S → Type 0) (loses : S → ℕ → LinkFault → S → Type 0) (room peer : ℕ) (s : S) (l n : Exchanges C) (s' : S) (l' : Exchanges C)
      → exchange_with n peer ≡ exchange_with l peer → IsDriven arrived gone answers loses room peer s n s' l' → IsDriven arrived gone answers loses room peer s l s' l'
  same_driven answers loses room peer s l n s' l' e driven = subst (λ o. Driven answers loses room peer s s' o (exchange_with l' peer)) e driven

  -- with as much room
  pub driven_room : {S : Type 0} (answers : S → ℕ → List ℕ → S → Type 0) (loses : S → ℕ → LinkFault → S → Type 0) (room as_much peer : ℕ) (s : S) (l : Exchanges C) (s' : S) (l' : Exchanges C)
      → room ≡ as_much → IsDriven arrived gone answers loses room peer s l s' l' → IsDriven arrived gone answers loses as_much peer s l s' l'
  driven_room answers loses room as_much peer s l s' l' e driven = subst (λ n. Driven answers loses n peer s s' (exchange_with l peer) (exchange_with l' peer)) e driven

module _ {C S : Type 0} where
  -- what the exchanges are matters by the one with the peer alone
  pub same_timed_out : (loses : S → ℕ → LinkFault → S → Type 0) (peer : ℕ) (s : S) (l n : Exchanges C) (s' : S) (l' : Exchanges C)
      → exchange_with n peer ≡ exchange_with l peer → IsTimedOut loses peer s n s' l' → IsTimedOut loses peer s l s' l'
  same_timed_out loses peer s l n s' l' e out =
      (out.0, subst (λ o. MatchOption o (s' ≡ s) (λ before. loses s peer (Time (length before.buffer.gone)) s')) e out.1)

  module _ (step : ℕ → S → Exchanges C → S → Exchanges C → Type 0)
      (same : (peer : ℕ) (s : S) (l n : Exchanges C) (s' : S) (l' : Exchanges C) → exchange_with n peer ≡ exchange_with l peer → step peer s n s' l' → step peer s l s' l') where
    one_by_one_on : (peers : List ℕ) (peer : ℕ) (s : S) (l : Exchanges C) (m : S) (n k : Exchanges C) (s' : S) (l' : Exchanges C) → OneByOne step peers s l m n
        → ((other : ℕ) → exchange_with k other ≡ exchange_with n other) → KeepsExchanges peer k l' → step peer m k s' l' → OneByOne step (peers ++ peer ∷ []) s l s' l'
    one_by_one_on [] peer s l m n k s' l' none e others stepped = (
      s',
      l',
      λ other ne. others other ne ∙ (e other ∙ none.1 other),
      subst (λ (x : S). step peer x l s' l') none.0 (same peer m l k s' l' (e peer ∙ none.1 peer) stepped),
      (refl, λ _. refl),
    )
    one_by_one_on (first ∷ peers) peer s l m n k s' l' steps e others stepped =
        (steps.0, steps.1, steps.2, steps.3, one_by_one_on peers peer steps.0 steps.1 m n k s' l' steps.4 e others stepped)

    -- one peer more
    pub one_more : (peer : ℕ) (s : S) (l : Exchanges C) (m : S) (n k : Exchanges C) (s' : S) (l' : Exchanges C) → ((peers : List ℕ) × OneByOne step peers s l m n)
        → ((other : ℕ) → exchange_with k other ≡ exchange_with n other) → KeepsExchanges peer k l' → step peer m k s' l' → (peers : List ℕ) × OneByOne step peers s l s' l'
    one_more peer s l m n k s' l' steps e others stepped = (steps.0 ++ peer ∷ [], one_by_one_on steps.0 peer s l m n k s' l' steps.1 e others stepped)

  -- with none yet
  pub one_by_one_none : (step : ℕ → S → Exchanges C → S → Exchanges C → Type 0) (s : S) (l : Exchanges C) → (peers : List ℕ) × OneByOne step peers s l s l
  one_by_one_none step s l = ([], (refl, λ _. refl))

  -- what the exchanges are matters by those with the peers alone
  pub one_by_one_same : (step : ℕ → S → Exchanges C → S → Exchanges C → Type 0) (peers : List ℕ) (s : S) (l : Exchanges C) (m : S) (n k : Exchanges C) → OneByOne step peers s l m n
      → ((other : ℕ) → exchange_with k other ≡ exchange_with n other) → OneByOne step peers s l m k
  one_by_one_same step [] s l m n k none e = (none.0, λ other. e other ∙ none.1 other)
  one_by_one_same step (peer ∷ peers) s l m n k steps e = (steps.0, steps.1, steps.2, steps.3, one_by_one_same step peers steps.0 steps.1 m n k steps.4 e)
