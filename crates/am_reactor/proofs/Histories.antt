-- The history of a loop, by one more happening.
use Rattle.std.proofs.Common.{◌≡◌, ◌≢◌, ◌∙◌, ◌==◌, ap, sym, subst, ℕ, zero, suc, Bool, true, false, List, [], ◌∷◌, ◌++◌, length, take, refl, Option, None, Some, IsSome, option_map, arith, if◌then◌else◌, inl, inr, ◌⊎◌, take_at}
use Rattle.std.proofs.lemmas.Bool.Decides.{nat_tests}
use Rattle.am_reactor.specs.Deeds.{Deed, ending, feeds, joined, sends}
use Rattle.am_reactor.specs.declared.connection.Connection.{Connection}
use Rattle.am_reactor.specs.declared.connection.Phase.{Phase}
use Rattle.am_reactor.specs.declared.connection.Phase.TheVariants.{Open, Lingering}
use Rattle.am_reactor.specs.declared.service.Service.{Ghosts as Service}
use Rattle.am_reactor.specs.Connections.{KeepsOthers}
use Rattle.am_reactor.specs.History.{Line, Happening, line_of, lines, leaves_in, AreSame, fed_in, out_in, with_line, Acts, ActsOn, Calls, Closes, Stays, StaysUnder, Throws, Makes, Happens, Leads, LeadsOn, LeadsUnder}
use Rattle.am_reactor.specs.History.Happening.{Came, TurnedAway, Called, Thrown, Closed, Acted}
use Rattle.am_reactor.specs.Reading.{Hears}
use Rattle.am_reactor.specs.Sending.{IsFirstPart, SendsOn}
use Rattle.am_reactor.specs.Streams.{Appends, Arrival, IsSilent, Receives}
use Rattle.slab.specs.Slab.{Slab, Updates, get, with_value}
use Rattle.am_reactor.proofs.Passing.{appends_none, receives_none, receives_on}
use Rattle.slab.proofs.SlabLemmas.{Updates-with_value}

-- ---- calls for no session

acts_more : {S : Type 0} (acts : S → S → Type 0) (n : ℕ) (s m s' : S) → Acts acts n s m → acts m s' → (count : ℕ) × Acts acts count s s'
acts_more acts zero s m s' e h = (1, (s', subst (λ x. acts x s') e h, refl))
acts_more acts (suc n) s m s' e h = let more = acts_more acts n e.0 m s' e.2 h in (suc more.0, (e.0, e.1, more.1))

-- one call more
pub acts_once : {S : Type 0} (acts : S → S → Type 0) (m s' : S) → acts m s' → ActsOn acts m s'
acts_once acts m s' h = λ first a. acts_more acts a.0 first m s' a.1 h

-- ---- what is under keys

if_twice : {A : Type 0} (b : Bool) (one two old : A) → (if b then two else (if b then one else old)) ≡ (if b then two else old)
if_twice true one two old = refl
if_twice false one two old = refl

module _ {T C : Type 0} where
  same_at : (key : ℕ) (line : Option (Line T C)) (old new : ℕ → Option (Line T C)) → AreSame new old → AreSame (with_line key line new) (with_line key line old)
  same_at key line old new h other = ap (λ x. if other == key then line else x) (h other)

  -- what is put under one key twice
  pub with_twice : (key : ℕ) (one two : Option (Line T C)) (old : ℕ → Option (Line T C)) → AreSame (with_line key two (with_line key one old)) (with_line key two old)
  with_twice key one two old other = if_twice (other == key) one two (old other)

  -- what is there already, put there once more
  pub with_same : (key : ℕ) (line : Option (Line T C)) (old : ℕ → Option (Line T C)) → old key ≡ line → AreSame (with_line key line old) old
  with_same key line old e other = grind (arith, nat_tests, e)

  -- what is put under a key
  pub with_here : (key : ℕ) (line : Option (Line T C)) (old : ℕ → Option (Line T C)) → with_line key line old key ≡ line
  with_here key line old = grind (arith, nat_tests)

  -- this stands under one key, and the others are as they were
  pub same_with : (key : ℕ) (line : Option (Line T C)) (old new : ℕ → Option (Line T C)) → new key ≡ line → ((other : ℕ) → other ≢ key → new other ≡ old other)
      → AreSame new (with_line key line old)
  same_with key line old new e h other = grind (arith, nat_tests, e, h other)

module _ {S T C : Type 0} (law : Service S T) (acts : S → S → Type 0) (arrived : C → Arrival) (gone : C → List ℕ) where
  -- a happening, between what is the same
  makes_same : (h : Happening) (s : S) (t n : ℕ → Option (Line T C)) (s' : S) (t' n' : ℕ → Option (Line T C)) → AreSame n t → AreSame n' t'
      → Makes law acts arrived gone s n h s' t' → Makes law acts arrived gone s t h s' n'
  makes_same (Came key) s t n s' t' n' e f m =
      (m.0, sym (e key) ∙ m.1, m.2, m.3, m.4, λ other. f other ∙ (m.5 other ∙ same_at key _ t n e other))
  makes_same TurnedAway s t n s' t' n' e f m = (m.0, λ other. f other ∙ (m.1 other ∙ e other))
  makes_same (Called key deeds) s t n s' t' n' e f m =
      (m.0, m.1, sym (e key) ∙ m.2, m.3, λ other. f other ∙ (m.4 other ∙ same_at key _ t n e other))
  makes_same (Thrown key bytes) s t n s' t' n' e f m =
      (m.0, m.1, sym (e key) ∙ m.2, m.3, m.4, λ other. f other ∙ (m.5 other ∙ same_at key _ t n e other))
  makes_same Closed s t n s' t' n' e f m = (m.0, λ key. elim (m.1 key) [ inl p ↦ inl (f key ∙ (p ∙ e key)) | inr p ↦ inr (f key ∙ p) ])
  makes_same (Acted count) s t n s' t' n' e f m = (m.0, λ other. f other ∙ (m.1 other ∙ e other))

  pub happens_more : (hs : List Happening) (h : Happening) (s : S) (t : ℕ → Option (Line T C)) (m : S) (n : ℕ → Option (Line T C)) (s' : S) (t' : ℕ → Option (Line T C))
      → Happens law acts arrived gone s t hs m n → Makes law acts arrived gone m n h s' t'
      → Happens law acts arrived gone s t (hs ++ h ∷ []) s' t'
  happens_more [] h s t m n s' t' same makes =
      (s', t', subst (λ x. Makes law acts arrived gone x t h s' t') same.0 (makes_same h m t n s' t' t' same.1 (λ _. refl) makes), (refl, λ _. refl))
  happens_more (g ∷ gs) h s t m n s' t' happens makes =
      (happens.0, happens.1, happens.2, happens_more gs h happens.0 happens.1 m n s' t' happens.3 makes)

  pub happens_same : (hs : List Happening) (s : S) (t : ℕ → Option (Line T C)) (m : S) (n n' : ℕ → Option (Line T C)) → AreSame n' n
      → Happens law acts arrived gone s t hs m n → Happens law acts arrived gone s t hs m n'
  happens_same [] s t m n n' e same = (same.0, λ key. e key ∙ same.1 key)
  happens_same (g ∷ gs) s t m n n' e happens = (happens.0, happens.1, happens.2, happens_same gs happens.0 happens.1 m n n' e happens.3)

  -- nothing has happened yet
  pub leads_none : (s : S) (t : ℕ → Option (Line T C)) → Leads law acts arrived gone s t s t
  leads_none s t = record { happenings = []; happens = (refl, λ _. refl) }

  -- one happening more
  pub leads_more : (h : Happening) (m : S) (n : ℕ → Option (Line T C)) (s' : S) (t' : ℕ → Option (Line T C))
      → Makes law acts arrived gone m n h s' t' → LeadsOn law acts arrived gone m n s' t'
  leads_more h m n s' t' makes s t leads =
      record { happenings = leads.happenings ++ h ∷ []; happens = happens_more leads.happenings h s t m n s' t' leads.happens makes }

  -- what is the same is led to alike
  pub leads_same : (s' : S) (t' n' : ℕ → Option (Line T C)) → AreSame n' t' → LeadsOn law acts arrived gone s' t' s' n'
  leads_same s' t' n' e s t leads = record { happenings = leads.happenings; happens = happens_same leads.happenings s t s' t' n' e leads.happens }

  -- calls for one session more
  pub leads_calls : (deeds : List Deed) (s : S) (c : Line T C) (s' : S) (c' : Line T C) → Calls law acts arrived gone deeds s c s' c'
      → LeadsUnder law acts arrived gone s c s' c'
  leads_calls deeds s c s' c' calls key others =
      leads_more (Called key deeds) s _ s' _ (c, c', with_here key (Some c) others, calls, λ other. sym (with_twice key (Some c) (Some c') others other))

  -- bytes more that are thrown away
  pub leads_throws : (bytes : List ℕ) (s : S) (c c' : Line T C) → Throws arrived gone bytes c c'
      → LeadsUnder law acts arrived gone s c s c'
  leads_throws bytes s c c' throws key others =
      leads_more (Thrown key bytes) s _ s _ (c, c', with_here key (Some c) others, throws, refl, λ other. sym (with_twice key (Some c) (Some c') others other))

  -- connections more that are closed
  pub leads_closes : (s : S) (t t' : ℕ → Option (Line T C)) → Closes t t' → LeadsOn law acts arrived gone s t s t'
  leads_closes s t t' closes = leads_more Closed s t s t' (refl, closes)

  -- calls for no session more
  pub leads_acts : (s s' : S) (t : ℕ → Option (Line T C)) → ActsOn acts s s' → LeadsOn law acts arrived gone s t s' t
  leads_acts s s' t more = let all = more s (0, refl) in leads_more (Acted all.0) s t s' t (all.1, λ _. refl)

-- ---- what a connection's turn is, as calls

fed_end : (was is : Bool) → fed_in (ending was is) ≡ []
fed_end false false = refl
fed_end false true = refl
fed_end true false = refl
fed_end true true = refl

fed_pieces : (pieces : List (List ℕ)) (was is : Bool) → fed_in (feeds pieces ++ ending was is) ≡ joined pieces
fed_pieces [] was is = fed_end was is
fed_pieces (p ∷ ps) was is = ap (λ l. p ++ l) (fed_pieces ps was is)

out_end : (was is : Bool) → out_in (ending was is) ≡ []
out_end false false = refl
out_end false true = refl
out_end true false = refl
out_end true true = refl

out_pieces : (pieces : List (List ℕ)) (was is : Bool) → out_in (feeds pieces ++ ending was is) ≡ []
out_pieces [] was is = out_end was is
out_pieces (p ∷ ps) was is = out_pieces ps was is

fed_sends : (pieces : List (List ℕ)) → fed_in (sends pieces) ≡ []
fed_sends [] = refl
fed_sends (p ∷ ps) = fed_sends ps

out_sends : (pieces : List (List ℕ)) → out_in (sends pieces) ≡ joined pieces
out_sends [] = refl
out_sends (p ∷ ps) = ap (λ l. p ++ l) (out_sends ps)

-- bytes before the rest are a first part
first_part : (bytes rest whole : List ℕ) → whole ≡ bytes ++ rest → IsFirstPart bytes whole
first_part bytes rest whole e = sym (ap (take (length bytes)) e ∙ take_at bytes rest (length bytes) refl)

module _ {S T C : Type 0} (law : Service S T) (acts : S → S → Type 0) (arrived : C → Arrival) (gone : C → List ℕ) where
  -- what is read of a connection, as calls for its session
  pub leads_hears : (room : ℕ) (s : S) (c : Connection T C) (s' : S) (c' : Connection T C) → Hears law.does arrived gone room s c s' c' → leaves_in c.phase ≡ false
      → LeadsUnder law acts arrived gone s (line_of c) s' (line_of c')
  leads_hears room s c s' c' h stays =
      leads_calls law acts arrived gone (feeds h.pieces ++ ending c.ended c'.ended) s (line_of c) s' (line_of c')
      (record {
        did = h.did;
        came = subst (Receives (arrived c.stream) (arrived c'.stream)) (sym (fed_pieces h.pieces c.ended c'.ended)) h.came;
        heard = λ _. stays;
        went = subst (Appends (gone c.stream) (gone c'.stream)) (sym (out_pieces h.pieces c.ended c'.ended))
            (subst (λ x. Appends (gone c.stream) x []) (sym h.unwritten) (appends_none (gone c.stream)));
        first = subst (λ l. IsFirstPart l (law.pending c.session)) (sym (out_pieces h.pieces c.ended c'.ended)) refl;
        leaves = ap leaves_in h.phase;
      })

  -- what goes out over a connection, as calls for its session
  pub leads_tells : (s : S) (c : Line T C) (s' : S) (c' : Line T C) (counter next : ℕ)
      → SendsOn law.does law.pending s c.session s' c'.session (gone c.stream) (gone c'.stream) counter next → arrived c'.stream ≡ arrived c.stream → c'.leaves ≡ c.leaves
      → LeadsUnder law acts arrived gone s c s' c'
  leads_tells s c s' c' counter next sent unread leaves =
      leads_calls law acts arrived gone (sends sent.pieces) s c s' c'
      (record {
        did = sent.did;
        came = subst (Receives (arrived c.stream) (arrived c'.stream)) (sym (fed_sends sent.pieces)) (subst (λ x. Receives (arrived c.stream) x []) (sym unread) (receives_none (arrived c.stream)));
        heard = λ some. absurd (some (fed_sends sent.pieces));
        went = subst (Appends (gone c.stream) (gone c'.stream)) (sym (out_sends sent.pieces)) sent.out.written;
        first = subst (λ l. IsFirstPart l (law.pending c.session)) (sym (out_sends sent.pieces)) (first_part (joined sent.pieces) (law.pending c'.session) (law.pending c.session) sent.out.rest);
        leaves = leaves;
      })

  -- nothing is called, read or written
  pub leads_still : (s : S) (c c' : Line T C) → Stays arrived gone c c' → LeadsUnder law acts arrived gone s c s c'
  leads_still s c c' stays =
      leads_calls law acts arrived gone [] s c s c'
      (record {
        did = (refl, stays.session);
        came = subst (λ x. Receives (arrived c.stream) x []) (sym stays.unread) (receives_none (arrived c.stream));
        heard = λ some. absurd (some refl);
        went = subst (λ x. Appends (gone c.stream) x []) (sym stays.unwritten) (appends_none (gone c.stream));
        first = refl;
        leaves = stays.leaves;
      })

  -- one call that neither reads nor writes
  pub leads_call : (deed : Deed) (s : S) (c : Line T C) (s' : S) (c' : Line T C) → law.does s c.session deed s' c'.session → fed_in (deed ∷ []) ≡ [] → out_in (deed ∷ []) ≡ []
      → c'.stream ≡ c.stream → c'.leaves ≡ c.leaves → LeadsUnder law acts arrived gone s c s' c'
  leads_call deed s c s' c' did unfed unsent stream leaves =
      leads_calls law acts arrived gone (deed ∷ []) s c s' c'
      (record {
        did = (s', c'.session, did, (refl, refl));
        came = subst (Receives (arrived c.stream) (arrived c'.stream)) (sym unfed) (subst (λ x. Receives (arrived c.stream) (arrived x) []) (sym stream) (receives_none (arrived c.stream)));
        heard = λ some. absurd (some unfed);
        went = subst (Appends (gone c.stream) (gone c'.stream)) (sym unsent) (subst (λ x. Appends (gone c.stream) (gone x) []) (sym stream) (appends_none (gone c.stream)));
        first = subst (λ l. IsFirstPart l (law.pending c.session)) (sym unsent) refl;
        leaves = leaves;
      })

  -- what leads on for one connection leads on for the table in which it stands
  pub leads_table : (key : ℕ) (s : S) (c : Line T C) (s' : S) (c' : Line T C) (old new : ℕ → Option (Line T C)) → LeadsUnder law acts arrived gone s c s' c'
      → old key ≡ Some c → AreSame new (with_line key (Some c') old) → LeadsOn law acts arrived gone s old s' new
  leads_table key s c s' c' old new under here after first begun leads =
      leads_same law acts arrived gone s' (with_line key (Some c') old) new after first begun
      (under key old first begun (leads_same law acts arrived gone s old (with_line key (Some c) old) (with_same key (Some c) old here) first begun leads))

  -- nothing is called, read or written of what stands under a key
  pub leads_stays : (key : ℕ) (s : S) (old new : ℕ → Option (Line T C)) → StaysUnder arrived gone key old new → LeadsOn law acts arrived gone s old s new
  leads_stays key s old new (inl same) = leads_same law acts arrived gone s old new same
  leads_stays key s old new (inr stays) = leads_table key s stays.0 s stays.1 old new (leads_still s stays.0 stays.1 stays.3) stays.2 stays.4

  -- a connection more
  pub leads_came : (key : ℕ) (s s' : S) (c : Line T C) (old new : ℕ → Option (Line T C)) → law.begins s c.session s' → c.leaves ≡ false
      → IsSilent (arrived c.stream) (gone c.stream) → old key ≡ None → AreSame new (with_line key (Some c) old) → LeadsOn law acts arrived gone s old s' new
  leads_came key s s' c old new begun stays silent free after =
      leads_more law acts arrived gone (Came key) s old s' new (c, free, begun, stays, silent, after)

  -- one that is turned away
  pub leads_away : (s : S) (t : T) (s' : S) (old new : ℕ → Option (Line T C)) → law.begins s t s' → AreSame new old → LeadsOn law acts arrived gone s old s' new
  leads_away s t s' old new begun same = leads_more law acts arrived gone TurnedAway s old s' new ((t, begun), same)

-- ---- what is thrown away

leaves_here : (phase : Phase) → phase ≢ Open → leaves_in phase ≡ true
leaves_here Open stays = absurd (stays refl)
leaves_here (Lingering end) stays = refl

module _ {T C : Type 0} (arrived : C → Arrival) (gone : C → List ℕ) where
  -- nothing was thrown away yet
  pub throws_none : (c : Connection T C) → c.phase ≢ Open → Throws arrived gone [] (line_of c) (line_of c)
  throws_none c stays = record { session = refl; came = receives_none (arrived c.stream); unwritten = refl; leaves = leaves_here c.phase stays }

  -- what one read more brought is thrown away too
  pub throws_more : (bytes more : List ℕ) (a b c : Line T C) → Throws arrived gone bytes a b → c.session ≡ b.session
      → Receives (arrived b.stream) (arrived c.stream) more → gone c.stream ≡ gone b.stream → c.leaves ≡ true → (all : List ℕ) × Throws arrived gone all a c
  throws_more bytes more a b c h session came unwritten leaves = (
    bytes ++ more,
    record {
      session = session ∙ h.session;
      came = receives_on (arrived a.stream) (arrived b.stream) (arrived c.stream) bytes more h.came came;
      unwritten = unwritten ∙ h.unwritten;
      leaves = leaves;
    },
  )

  -- what is thrown away behind a change in which nothing came or went
  pub throws_behind : (bytes : List ℕ) (a b c : Line T C) → b.session ≡ a.session → arrived b.stream ≡ arrived a.stream → gone b.stream ≡ gone a.stream
      → Throws arrived gone bytes b c → Throws arrived gone bytes a c
  throws_behind bytes a b c session unread unwritten h = record {
    session = h.session ∙ session;
    came = subst (λ x. Receives x (arrived c.stream) bytes) unread h.came;
    unwritten = h.unwritten ∙ unwritten;
    leaves = h.leaves;
  }

-- ---- tables

here_or_there : (k key : ℕ) → (k ≡ key) ⊎ (k ≢ key)
here_or_there k key = grind (arith, nat_tests)

module _ {T C : Type 0} where
  -- a table in which this stands under one key, and the others are as they were
  pub lines_with : (old new : Slab (Connection T C)) (key : ℕ) (line : Option (Connection T C)) → get new key ≡ line → KeepsOthers key old new
      → AreSame (lines new) (with_line key (option_map line_of line) (lines old))
  lines_with old new key line here others =
      same_with key (option_map line_of line) (lines old) (lines new) (ap (option_map line_of) here) (λ other away. ap (option_map line_of) (others other away))

  -- one is closed
  pub closes_one : (old new : Slab (Connection T C)) (key : ℕ) → Updates old new key None → Closes (lines old) (lines new)
  closes_one old new key updates other = elim (here_or_there other key) [
    | inl e ↦ inr (ap (λ k. option_map line_of (get new k)) e ∙ ap (option_map line_of) updates.changed)
    | inr away ↦ inl (ap (option_map line_of) (updates.others other away))
  ]

  -- and others behind it
  pub closes_on : (a b c : ℕ → Option (Line T C)) → Closes a b → Closes b c → Closes a c
  closes_on a b c first more key = elim (more key) [
    | inl p ↦ elim (first key) [
      | inl q ↦ inl (p ∙ q)
      | inr q ↦ inr (p ∙ q)
    ]
    | inr p ↦ inr p
  ]

  -- none is closed
  pub closes_none : (a : ℕ → Option (Line T C)) → Closes a a
  closes_none a key = inl refl

-- a connection that is the same to its service
line_same : {T C : Type 0} (a b : Connection T C) → b.session ≡ a.session → b.stream ≡ a.stream → b.phase ≡ a.phase → line_of a ≡ line_of b
line_same a b session stream phase =
    subst (λ x. line_of a ≡ record { session = x; stream = b.stream; leaves = leaves_in b.phase }) (sym session)
    (subst (λ y. line_of a ≡ record { session = a.session; stream = y; leaves = leaves_in b.phase }) (sym stream)
    (subst (λ z. line_of a ≡ record { session = a.session; stream = a.stream; leaves = leaves_in z }) (sym phase) refl))

module _ {S T C : Type 0} (law : Service S T) (acts : S → S → Type 0) (arrived : C → Arrival) (gone : C → List ℕ) where
  -- what leads on for a connection, also where it is the same to its service
  pub under_same : (s : S) (c : Line T C) (s' : S) (a b : Connection T C) → b.session ≡ a.session → b.stream ≡ a.stream → b.phase ≡ a.phase
      → LeadsUnder law acts arrived gone s c s' (line_of a) → LeadsUnder law acts arrived gone s c s' (line_of b)
  under_same s c s' a b session stream phase under = subst (λ l. LeadsUnder law acts arrived gone s c s' l) (line_same a b session stream phase) under

  -- what leads on for the connection under a key, for the table
  pub leads_written : (key : ℕ) (s s' : S) (table : Slab (Connection T C)) (c c' : Connection T C) (new : Slab (Connection T C)) → new ≡ with_value table key c'
      → Some c ≡ get table key → LeadsUnder law acts arrived gone s (line_of c) s' (line_of c')
      → LeadsOn law acts arrived gone s (lines table) s' (lines new)
  leads_written key s s' table c c' new is here under =
      let updates = Updates-with_value table key c' (subst (λ x. IsSome x) here refl) in
      subst (λ t. LeadsOn law acts arrived gone s (lines table) s' (lines t)) (sym is)
      (leads_table law acts arrived gone key s (line_of c) s' (line_of c') (lines table) (lines (with_value table key c')) under
      (ap (option_map line_of) (sym here)) (lines_with table (with_value table key c') key (Some c') updates.changed updates.others))

  -- one call for no session more
  pub leads_act : (s s' : S) (t : ℕ → Option (Line T C)) → acts s s' → LeadsOn law acts arrived gone s t s' t
  leads_act s s' t act = leads_acts law acts arrived gone s s' t (acts_once acts s s' act)

module _ {T C : Type 0} (arrived : C → Arrival) (gone : C → List ℕ) where
  -- nothing is called, read or written of the connection under a key
  pub stays_written : (key : ℕ) (table : Slab (Connection T C)) (c c' : Connection T C) (new : Slab (Connection T C)) → new ≡ with_value table key c' → Some c ≡ get table key
      → Stays arrived gone (line_of c) (line_of c') → StaysUnder arrived gone key (lines table) (lines new)
  stays_written key table c c' new is here stays =
      let updates = Updates-with_value table key c' (subst (λ x. IsSome x) here refl) in
      subst (λ t. StaysUnder arrived gone key (lines table) (lines t)) (sym is) (inr (
        line_of c,
        line_of c',
        ap (option_map line_of) (sym here),
        stays,
        lines_with table (with_value table key c') key (Some c') updates.changed updates.others,
      ))
