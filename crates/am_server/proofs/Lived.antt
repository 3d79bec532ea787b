-- A loop's history, happening by happening, as a life.
use Rattle.std.proofs.Common.{◌≡◌, ◌≢◌, ◌⊎◌, ◌∙◌, ◌==◌, ◌+◌, ℕ, zero, suc, Bool, true, false, List, [], ◌∷◌, ◌++◌, Option, Some, ap, sym, subst, refl, length, inl, inr, arith, append-nil, append_assoc, if◌then◌else◌}
use Rattle.std.proofs.lemmas.Bool.Decides.{nat_tests}
use Rattle.std.proofs.lemmas.Bool.{false≢true}
use Rattle.std.proofs.lemmas.Option.{none-some}
use Rattle.am_http.specs.Sessions.{SessionPhase, fresh}
use Rattle.am_instance.specs.InstanceStates.{InstanceState}
use Rattle.am_member.specs.Lives.{Deed as LifeDeed, IsLife, Turn, session_phases_after, session_phases_in, turns_of}
use Rattle.am_member.specs.Lives.Deed.{Served, Own}
use Rattle.am_reactor.specs.declared.service.Service.{Ghosts as Service}
use Rattle.am_reactor.specs.Deeds.{Deed, Did}
use Rattle.am_reactor.specs.Deeds.Deed.{Fed, Ended, Sent, Resumed, Released, ReachedDeadline, AbandonedWait, BrokenOff}
use Rattle.am_reactor.specs.History.{Acts, AreSame, Calls, Happening, Happens, Line, Makes, Throws, fed_in, no_lines, out_in, with_line}
use Rattle.am_reactor.specs.History.Happening.{Came, TurnedAway, Called, Thrown, Closed, Acted}
use Rattle.am_reactor.specs.Streams.{Appends, Arrival, IsSilent, Receives}
use Rattle.am_reactor.proofs.Histories.{happens_more, happens_same}
use Rattle.am_server.specs.MemberService.{Accords, ActsAlone, AreOf, AreOwn, BeginsFresh, DoesForOne, IsAlwaysLived, IsCarried, IsLived, LivesOn, OwnsItsOwn, Passed, StandsUnder, count_after, count_by, nothing_passed, numbers_after, numbers_by, passed_after, passed_by, passed_on}

-- ---- lives one after the other

life_append : (ds es : List LifeDeed) (session_phases : ℕ → SessionPhase) (a b c : InstanceState) → IsLife session_phases a ds b → IsLife (session_phases_in session_phases ds) b es c
    → IsLife session_phases a (ds ++ es) c
life_append [] es session_phases a b c same life = subst (λ (x : InstanceState). IsLife session_phases x es c) same life
life_append (Served turn ∷ ds) es session_phases a b c first life = (first.0, life_append ds es (session_phases_after session_phases turn) turn.left b c first.1 life)
life_append (Own step ∷ ds) es session_phases a b c first life = (first.0, life_append ds es session_phases step.left b c first.1 life)

standings_append : (ds es : List LifeDeed) (session_phases : ℕ → SessionPhase) → session_phases_in session_phases (ds ++ es) ≡ session_phases_in (session_phases_in session_phases ds) es
standings_append [] es session_phases = refl
standings_append (Served turn ∷ ds) es session_phases = standings_append ds es (session_phases_after session_phases turn)
standings_append (Own step ∷ ds) es session_phases = standings_append ds es session_phases

if_append : {A : Type 0} (b : Bool) (x : A) (xs ys : List A) → (if b then x ∷ (xs ++ ys) else xs ++ ys) ≡ (if b then x ∷ xs else xs) ++ ys
if_append true x xs ys = refl
if_append false x xs ys = refl

turns_append : (n : ℕ) (ds es : List LifeDeed) → turns_of n (ds ++ es) ≡ turns_of n ds ++ turns_of n es
turns_append n [] es = refl
turns_append n (Served turn ∷ ds) es =
    ap (λ (l : List Turn). if n == turn.connection then turn ∷ l else l) (turns_append n ds es) ∙ if_append (n == turn.connection) turn (turns_of n ds) (turns_of n es)
turns_append n (Own step ∷ ds) es = turns_append n ds es

of_append : (n : ℕ) (ds es : List LifeDeed) → AreOf n ds → AreOf n es → AreOf n (ds ++ es)
of_append n [] es first more = more
of_append n (Served turn ∷ ds) es first more = (first.0, of_append n ds es first.1 more)
of_append n (Own step ∷ ds) es first more = (first.0, of_append n ds es first.1 more)

own_append : (ds es : List LifeDeed) → AreOwn ds → AreOwn es → AreOwn (ds ++ es)
own_append [] es first more = more
own_append (Served turn ∷ ds) es first more = absurd first
own_append (Own step ∷ ds) es first more = (first.0, own_append ds es first.1 more)

-- all that is made by itself is such steps
owns_append : (ds es : List LifeDeed) → OwnsItsOwn ds → OwnsItsOwn es → OwnsItsOwn (ds ++ es)
owns_append [] es first more = more
owns_append (Served turn ∷ ds) es first more = owns_append ds es first more
owns_append (Own step ∷ ds) es first more = (first.0, owns_append ds es first.1 more)

of_owns : (n : ℕ) (ds : List LifeDeed) → AreOf n ds → OwnsItsOwn ds
of_owns n [] of = tt
of_owns n (Served turn ∷ ds) of = of_owns n ds of.1
of_owns n (Own step ∷ ds) of = (inr of.0, of_owns n ds of.1)

own_owns : (ds : List LifeDeed) → AreOwn ds → OwnsItsOwn ds
own_owns [] own = tt
own_owns (Served turn ∷ ds) own = absurd own
own_owns (Own step ∷ ds) own = (inl own.0, own_owns ds own.1)

-- ---- a number, and another

-- which of two is chosen
abbrev Chosen : {A : Type 0} → ℕ → ℕ → A → A → A → Type 0
Chosen k key a b x = ((k ≡ key) × (x ≡ a)) ⊎ ((k ≢ key) × (x ≡ b))

here_or_there : (k key : ℕ) → (k ≡ key) ⊎ (k ≢ key)
here_or_there k key = grind (arith, nat_tests)

pub chosen_is : {A : Type 0} (k key : ℕ) (a b : A) → k ≡ key → (if k == key then a else b) ≡ a
chosen_is k key a b e = grind (arith, nat_tests, e)

chosen_not : {A : Type 0} (k key : ℕ) (a b : A) → k ≢ key → (if k == key then a else b) ≡ b
chosen_not k key a b away = grind (arith, nat_tests, away)

chosen : {A : Type 0} (k key : ℕ) (a b : A) → Chosen k key a b (if k == key then a else b)
chosen k key a b = elim (here_or_there k key) [
  | inl e ↦ inl (e, chosen_is k key a b e)
  | inr away ↦ inr (away, chosen_not k key a b away)
]

-- what isn't of a connection leaves it as it was
others_stay : (n m : ℕ) (ds : List LifeDeed) (session_phases : ℕ → SessionPhase) → AreOf n ds → m ≢ n → (session_phases_in session_phases ds m ≡ session_phases m) × (turns_of m ds ≡ [])
others_stay n m [] session_phases of away = (refl, refl)
others_stay n m (Served turn ∷ ds) session_phases of away =
    let off : m ≢ turn.connection = λ e. away (e ∙ of.0) in
    let rest = others_stay n m ds (session_phases_after session_phases turn) of.1 away in
    (rest.0 ∙ chosen_not m turn.connection _ (session_phases m) off, chosen_not m turn.connection _ _ off ∙ rest.1)
others_stay n m (Own step ∷ ds) session_phases of away = others_stay n m ds session_phases of.1 away

own_stay : (m : ℕ) (ds : List LifeDeed) (session_phases : ℕ → SessionPhase) → AreOwn ds → (session_phases_in session_phases ds m ≡ session_phases m) × (turns_of m ds ≡ [])
own_stay m [] session_phases own = (refl, refl)
own_stay m (Served turn ∷ ds) session_phases own = absurd own
own_stay m (Own step ∷ ds) session_phases own = own_stay m ds session_phases own.1

-- ---- what passed

abbrev both : List ℕ → List ℕ → Passed
both fed gone = record { fed = fed; gone = gone }

passed_same : (f f' g g' : List ℕ) → f ≡ f' → g ≡ g' → both f g ≡ both f' g'
passed_same f f' g g' e h = ap (λ (x : List ℕ). both x g) e ∙ ap (λ (y : List ℕ). both f' y) h

fed_more : (deed : Deed) (deeds : List Deed) → fed_in (deed ∷ []) ++ fed_in deeds ≡ fed_in (deed ∷ deeds)
fed_more (Fed piece) deeds = ap (λ l. l ++ fed_in deeds) (append-nil piece)
fed_more Ended deeds = refl
fed_more (Sent bytes) deeds = refl
fed_more Resumed deeds = refl
fed_more Released deeds = refl
fed_more ReachedDeadline deeds = refl
fed_more AbandonedWait deeds = refl
fed_more (BrokenOff broken) deeds = refl

out_more : (deed : Deed) (deeds : List Deed) → out_in (deed ∷ []) ++ out_in deeds ≡ out_in (deed ∷ deeds)
out_more (Fed piece) deeds = refl
out_more Ended deeds = refl
out_more (Sent bytes) deeds = ap (λ l. l ++ out_in deeds) (append-nil bytes)
out_more Resumed deeds = refl
out_more Released deeds = refl
out_more ReachedDeadline deeds = refl
out_more AbandonedWait deeds = refl
out_more (BrokenOff broken) deeds = refl

passed_none : (p : Passed) → p ≡ passed_on p []
passed_none p = passed_same p.fed (p.fed ++ []) p.gone (p.gone ++ []) (sym (append-nil p.fed)) (sym (append-nil p.gone))

passed_more : (p : Passed) (deed : Deed) (deeds : List Deed) → passed_on (passed_on p (deed ∷ [])) deeds ≡ passed_on p (deed ∷ deeds)
passed_more p deed deeds = passed_same _ _ _ _
    (append_assoc p.fed (fed_in (deed ∷ [])) (fed_in deeds) ∙ ap (λ l. p.fed ++ l) (fed_more deed deeds))
    (append_assoc p.gone (out_in (deed ∷ [])) (out_in deeds) ∙ ap (λ l. p.gone ++ l) (out_more deed deeds))

-- an accord, between what is the same
accord_at : {T : Type 0} (accords : T → Passed → SessionPhase → List Turn → Type 0) (t t' : T) (p p' : Passed) (s s' : SessionPhase) (u u' : List Turn) → t ≡ t' → p ≡ p' → s ≡ s' → u ≡ u' → accords t p s u → accords t' p' s' u'
accord_at accords t t' p p' s s' u u' et ep es eu a =
    subst (λ x. accords t' p' s' x) eu (subst (λ x. accords t' p' x u) es (subst (λ x. accords t' x s u) ep (subst (λ x. accords x p s u) et a)))

so_at : (is_so : Passed → SessionPhase → List Turn → Type 0) (p p' : Passed) (s s' : SessionPhase) (u u' : List Turn) → p ≡ p' → s ≡ s' → u ≡ u' → is_so p s u → is_so p' s' u'
so_at is_so p p' s s' u u' ep es eu is = subst (λ x. is_so p' s' x) eu (subst (λ x. is_so p' x u) es (subst (λ x. is_so x s u) ep is))

module _ {S T : Type 0} (instance_of : S → InstanceState) (accords : T → Passed → SessionPhase → List Turn → Type 0) where
  -- calls for one session, one after the other
  lives_calls : (does : S → T → Deed → S → T → Type 0) (so : (s : S) (t : T) (d : Deed) (s' : S) (t' : T) → does s t d s' t' → DoesForOne instance_of accords s t d s' t')
      → (deeds : List Deed) (s : S) (t : T) (s' : S) (t' : T) → Did does s t deeds s' t' → (n : ℕ) (session_phases : ℕ → SessionPhase) (passed : Passed) (turns : List Turn)
      → accords t passed (session_phases n) turns → LivesOn n session_phases (instance_of s) (instance_of s') turns (accords t' (passed_on passed deeds))
  lives_calls does so [] s t s' t' did n session_phases passed turns a = record {
    deeds = [];
    of = tt;
    life = ap instance_of did.0;
    accord = accord_at accords t t' passed (passed_on passed []) (session_phases n) (session_phases n) turns (turns ++ []) (sym did.1) (passed_none passed) refl (sym (append-nil turns)) a;
  }
  lives_calls does so (d ∷ ds) s t s' t' did n session_phases passed turns a =
      let first = so s t d did.0 did.1 did.2 n session_phases passed turns a in
      let rest = lives_calls does so ds did.0 did.1 s' t' did.3 n (session_phases_in session_phases first.deeds) (passed_on passed (d ∷ [])) (turns ++ turns_of n first.deeds) first.accord in
      record {
        deeds = first.deeds ++ rest.deeds;
        of = of_append n first.deeds rest.deeds first.of rest.of;
        life = life_append first.deeds rest.deeds session_phases (instance_of s) (instance_of did.0) (instance_of s') first.life rest.life;
        accord = accord_at accords t' t' _ _ _ _ _ _ refl (passed_more passed d ds)
            (sym (ap (λ (f : ℕ → SessionPhase). f n) (standings_append first.deeds rest.deeds session_phases)))
            (append_assoc turns (turns_of n first.deeds) (turns_of n rest.deeds) ∙ ap (λ l. turns ++ l) (sym (turns_append n first.deeds rest.deeds)))
            rest.accord;
      }

  -- calls for no session, one after the other
  lives_acts : (acts : S → S → Type 0) (so : (s s' : S) → acts s s' → ActsAlone instance_of s s') → (count : ℕ) (s s' : S) → Acts acts count s s'
      → (deeds : List LifeDeed) × AreOwn deeds × ((session_phases : ℕ → SessionPhase) → IsLife session_phases (instance_of s) deeds (instance_of s'))
  lives_acts acts so zero s s' same = ([], tt, λ session_phases. ap instance_of same)
  lives_acts acts so (suc count) s s' a =
      let first = so s a.0 a.1 in
      let rest = lives_acts acts so count a.0 s' a.2 in (
        first.deeds ++ rest.0,
        own_append first.deeds rest.0 first.own rest.1,
        λ session_phases. life_append first.deeds rest.0 session_phases (instance_of s) (instance_of a.0) (instance_of s') (first.life session_phases) (rest.2 (session_phases_in session_phases first.deeds)),
      )

-- ---- how connections stand behind one happening more

module _ {T C : Type 0} (arrived : C → Arrival) (gone : C → List ℕ) (accords : T → Passed → SessionPhase → List Turn → Type 0) (is_so : Passed → SessionPhase → List Turn → Type 0) where
  -- where each session that is there was there, and nothing of the life changed
  accords_still : (count : ℕ) (numbers : ℕ → ℕ) (passed : ℕ → Passed) (session_phases session_phases' : ℕ → SessionPhase) (turns turns' : ℕ → List Turn) (old new : ℕ → Option (Line T C))
      → ((key : ℕ) (line' : Line T C) → new key ≡ Some line' → (line : Line T C) × (old key ≡ Some line) × (line.session ≡ line'.session)
      × ((p : Passed) → IsCarried arrived gone p line → IsCarried arrived gone p line'))
      → ((n : ℕ) → session_phases' n ≡ session_phases n) → ((n : ℕ) → turns' n ≡ turns n)
      → Accords arrived gone accords is_so count numbers passed session_phases turns old → Accords arrived gone accords is_so count numbers passed session_phases' turns' new
  accords_still count numbers passed session_phases session_phases' turns turns' old new was stays kept a = record {
    each = λ key line e. let w = was key line e in
        accord_at accords _ _ _ _ _ _ _ _ w.2 refl (sym (stays (numbers key))) (sym (kept (numbers key))) (a.each key w.0 w.1);
    carried = λ key line e. let w = was key line e in w.3 (passed (numbers key)) (a.carried key w.0 w.1);
    given = λ key s. a.given key (let w = was key s.0 s.1 in (w.0, w.1));
    apart = λ one other s t e. a.apart one other (let w = was one s.0 s.1 in (w.0, w.1)) (let w = was other t.0 t.1 in (w.0, w.1)) e;
    unused = λ n below. let u = a.unused n below in (u.0, stays n ∙ u.1, kept n ∙ u.2);
    ever = λ n. so_at is_so _ _ _ _ _ _ refl (sym (stays n)) (sym (kept n)) (a.ever n);
  }

some_same : {A : Type 0} (x y : A) → Some x ≡ Some y → x ≡ y
some_same x y e = cc

-- ---- what a stream carried

some_item : (x : ℕ) (xs : List ℕ) → x ∷ xs ≢ []
some_item x xs e = omega (arith, ap length e)

-- what came behind what was thrown away: nothing, or else nothing was thrown away
carried_behind : (fed thrown more : List ℕ) → (more ≢ [] → thrown ≡ []) → (fed ++ thrown) ++ more ≡ (fed ++ more) ++ thrown
carried_behind fed thrown [] none = append-nil (fed ++ thrown) ∙ ap (λ l. l ++ thrown) (sym (append-nil fed))
carried_behind fed thrown (x ∷ xs) none = let e = none (some_item x xs) in
    ap (λ l. l ++ x ∷ xs) (ap (λ l. fed ++ l) e ∙ append-nil fed) ∙ (sym (append-nil (fed ++ x ∷ xs)) ∙ ap (λ l. (fed ++ x ∷ xs) ++ l) (sym e))

module _ {T C : Type 0} (arrived : C → Arrival) (gone : C → List ℕ) where
  carried_at : (line line' : Line T C) (p p' : Passed) → line ≡ line' → p ≡ p' → IsCarried arrived gone p line → IsCarried arrived gone p' line'
  carried_at line line' p p' el ep c = subst (λ x. IsCarried arrived gone x line') ep (subst (IsCarried arrived gone p) el c)

  -- a new connection
  carried_none : (line : Line T C) → IsSilent (arrived line.stream) (gone line.stream) → IsCarried arrived gone nothing_passed line
  carried_none line silent = record { went = silent.unwritten; thrown = []; came = silent.unread; whole = λ _. refl }

  -- calls for it
  carried_on : (p : Passed) (line line' : Line T C) (deeds : List Deed) → Receives (arrived line.stream) (arrived line'.stream) (fed_in deeds)
      → (fed_in deeds ≢ [] → line.leaves ≡ false) → Appends (gone line.stream) (gone line'.stream) (out_in deeds) → line'.leaves ≡ line.leaves
      → IsCarried arrived gone p line → IsCarried arrived gone (passed_on p deeds) line'
  carried_on p line line' deeds came heard went leaves c = record {
    went = went ∙ ap (λ l. l ++ out_in deeds) c.went;
    thrown = c.thrown;
    came = came ∙ (ap (λ l. l ++ fed_in deeds) c.came ∙ carried_behind p.fed c.thrown (fed_in deeds) (λ some. c.whole (heard some)));
    whole = λ stays. c.whole (sym leaves ∙ stays);
  }

  -- bytes of it that are thrown away
  carried_thrown : (bytes : List ℕ) (p : Passed) (line line' : Line T C) → Throws arrived gone bytes line line' → IsCarried arrived gone p line → IsCarried arrived gone p line'
  carried_thrown bytes p line line' throws c = record {
    went = throws.unwritten ∙ c.went;
    thrown = c.thrown ++ bytes;
    came = throws.came ∙ (ap (λ l. l ++ bytes) c.came ∙ append_assoc p.fed c.thrown bytes);
    whole = λ stays. absurd (false≢true (sym stays ∙ throws.leaves));
  }

-- what one happening is in a life
module _ {S T C : Type 0} (instance_of : S → InstanceState) (accords : T → Passed → SessionPhase → List Turn → Type 0) (is_so : Passed → SessionPhase → List Turn → Type 0)
    (law : Service S T) (acts : S → S → Type 0)
    (so_of_none : is_so nothing_passed fresh [])
    (so_of_accord : (t : T) (p : Passed) (session_phase : SessionPhase) (turns : List Turn) → accords t p session_phase turns → is_so p session_phase turns)
    (begins_so : (s : S) (t : T) (s' : S) → law.begins s t s' → BeginsFresh instance_of accords s t s')
    (acts_so : (s s' : S) → acts s s' → ActsAlone instance_of s s')
    (does_so : (s : S) (t : T) (d : Deed) (s' : S) (t' : T) → law.does s t d s' t' → DoesForOne instance_of accords s t d s' t')
    (arrived : C → Arrival) (gone : C → List ℕ) where
  -- how a life goes on from where connections stand
  record GoesOn (count : ℕ) (numbers : ℕ → ℕ) (passed : ℕ → Passed) (session_phases : ℕ → SessionPhase) (turns : ℕ → List Turn) (s s' : S) (new : ℕ → Option (Line T C)) : Type 0 where
    deeds : List LifeDeed
    life : IsLife session_phases (instance_of s) deeds (instance_of s')
    own : OwnsItsOwn deeds
    accord : Accords arrived gone accords is_so count numbers passed (session_phases_in session_phases deeds) (λ n. turns n ++ turns_of n deeds) new

  came_on : (key count : ℕ) (numbers : ℕ → ℕ) (passed : ℕ → Passed) (session_phases : ℕ → SessionPhase) (turns : ℕ → List Turn) (line : Line T C) (old new : ℕ → Option (Line T C))
      → accords line.session nothing_passed fresh [] → IsSilent (arrived line.stream) (gone line.stream) → AreSame new (with_line key (Some line) old)
      → Accords arrived gone accords is_so count numbers passed session_phases turns old
      → Accords arrived gone accords is_so (count + 1) (numbers_after count numbers (Came key)) passed session_phases (λ n. turns n ++ []) new
  came_on key count numbers passed session_phases turns line old new begun silent same a =
      let was : (k : ℕ) (x : Line T C) → k ≢ key → new k ≡ Some x → old k ≡ Some x = λ k x away e. sym (chosen_not k key (Some line) (old k) away) ∙ (sym (same k) ∙ e) in
      let number_here : (k : ℕ) → k ≡ key → numbers_after count numbers (Came key) k ≡ count = λ k e. chosen_is k key count (numbers k) e in
      let number_there : (k : ℕ) → k ≢ key → numbers_after count numbers (Came key) k ≡ numbers k = λ k e. chosen_not k key count (numbers k) e in
      let none = a.unused count (omega arith) in
      record {
        each = λ k x e. elim (chosen k key (Some line) (old k)) [
          | inl p ↦ accord_at accords line.session x.session nothing_passed _ fresh _ [] _ (ap (λ (l : Line T C). l.session) (some_same line x (sym p.1 ∙ (sym (same k) ∙ e))))
              (sym (ap passed (number_here k p.0) ∙ none.0)) (sym (ap session_phases (number_here k p.0) ∙ none.1)) (sym (append-nil _ ∙ (ap turns (number_here k p.0) ∙ none.2))) begun
          | inr p ↦ accord_at accords x.session x.session (passed (numbers k)) _ (session_phases (numbers k)) _ (turns (numbers k)) _ refl
              (sym (ap passed (number_there k p.0))) (sym (ap session_phases (number_there k p.0))) (sym (append-nil _ ∙ ap turns (number_there k p.0))) (a.each k x (was k x p.0 e))
        ];
        carried = λ k x e. elim (chosen k key (Some line) (old k)) [
          | inl p ↦ carried_at arrived gone line x nothing_passed _ (some_same line x (sym p.1 ∙ (sym (same k) ∙ e))) (sym (ap passed (number_here k p.0) ∙ none.0))
              (carried_none arrived gone line silent)
          | inr p ↦ carried_at arrived gone x x (passed (numbers k)) _ refl (sym (ap passed (number_there k p.0))) (a.carried k x (was k x p.0 e))
        ];
        given = λ k s. elim (chosen k key (Some line) (old k)) [
          | inl p ↦ omega (arith, number_here k p.0)
          | inr p ↦ omega (arith, number_there k p.0, a.given k (s.0, was k s.0 p.0 s.1))
        ];
        apart = λ one other s t e. elim (chosen one key (Some line) (old one)) [
          | inl p ↦ elim (chosen other key (Some line) (old other)) [
            | inl q ↦ p.0 ∙ sym q.0
            | inr q ↦ absurd (omega (arith, e, number_here one p.0, number_there other q.0, a.given other (t.0, was other t.0 q.0 t.1)))
          ]
          | inr p ↦ elim (chosen other key (Some line) (old other)) [
            | inl q ↦ absurd (omega (arith, e, number_there one p.0, number_here other q.0, a.given one (s.0, was one s.0 p.0 s.1)))
            | inr q ↦ a.apart one other (s.0, was one s.0 p.0 s.1) (t.0, was other t.0 q.0 t.1) (sym (number_there one p.0) ∙ (e ∙ number_there other q.0))
          ]
        ];
        unused = λ n below. let u = a.unused n (omega arith) in (u.0, u.1, append-nil _ ∙ u.2);
        ever = λ n. so_at is_so _ _ _ _ _ _ refl refl (sym (append-nil (turns n))) (a.ever n);
      }

  called_on : (key : ℕ) (deeds : List Deed) (count : ℕ) (numbers : ℕ → ℕ) (passed : ℕ → Passed) (session_phases : ℕ → SessionPhase) (turns : ℕ → List Turn) (s s' : S) (line line' : Line T C)
      (old new : ℕ → Option (Line T C)) → old key ≡ Some line → Calls law acts arrived gone deeds s line s' line' → AreSame new (with_line key (Some line') old)
      → Accords arrived gone accords is_so count numbers passed session_phases turns old → GoesOn count numbers (passed_after numbers passed (Called key deeds)) session_phases turns s s' new
  called_on key deeds count numbers passed session_phases turns s s' line line' old new here calls same a =
      let at : ℕ = numbers key in
      let l = lives_calls instance_of accords law.does does_so deeds s line.session s' line'.session calls.did at session_phases (passed at) (turns at) (a.each key line here) in
      let was : (k : ℕ) (x : Line T C) → k ≢ key → new k ≡ Some x → old k ≡ Some x = λ k x away e. sym (chosen_not k key (Some line') (old k) away) ∙ (sym (same k) ∙ e) in
      let stood_there : (k : ℕ) → StandsUnder new k → StandsUnder old k = λ k s. elim (chosen k key (Some line') (old k)) [
        | inl p ↦ (line, ap old p.0 ∙ here)
        | inr p ↦ (s.0, was k s.0 p.0 s.1)
      ] in
      let apart_from : (k : ℕ) → k ≢ key → StandsUnder new k → numbers k ≢ at = λ k away s e. away (a.apart k key (stood_there k s) (line, here) e) in
      let passed_here : (m : ℕ) → m ≡ at → passed_after numbers passed (Called key deeds) m ≡ passed_on (passed at) deeds =
      λ m e. chosen_is m at (passed_on (passed m) deeds) (passed m) e ∙ ap (λ n. passed_on (passed n) deeds) e in
      let passed_there : (m : ℕ) → m ≢ at → passed_after numbers passed (Called key deeds) m ≡ passed m = λ m away. chosen_not m at (passed_on (passed m) deeds) (passed m) away in
      let others : (m : ℕ) → m ≢ at → (session_phases_in session_phases l.deeds m ≡ session_phases m) × (turns m ++ turns_of m l.deeds ≡ turns m) =
      λ m away. let o = others_stay at m l.deeds session_phases l.of away in (o.0, ap (λ x. turns m ++ x) o.1 ∙ append-nil (turns m)) in
      record {
        deeds = l.deeds;
        life = l.life;
        own = of_owns at l.deeds l.of;
        accord = record {
          each = λ k x e. elim (chosen k key (Some line') (old k)) [
            | inl p ↦ accord_at accords line'.session x.session _ _ _ _ _ _ (ap (λ (l : Line T C). l.session) (some_same line' x (sym p.1 ∙ (sym (same k) ∙ e))))
                (sym (passed_here (numbers k) (ap numbers p.0))) (ap (λ n. session_phases_in session_phases l.deeds (numbers n)) (sym p.0))
                (ap (λ n. turns (numbers n) ++ turns_of (numbers n) l.deeds) (sym p.0)) l.accord
            | inr p ↦ let away = apart_from k p.0 (x, e) in let o = others (numbers k) away in
                accord_at accords x.session x.session (passed (numbers k)) _ (session_phases (numbers k)) _ (turns (numbers k)) _ refl
                (sym (passed_there (numbers k) away)) (sym o.0) (sym o.1) (a.each k x (was k x p.0 e))
          ];
          carried = λ k x e. elim (chosen k key (Some line') (old k)) [
            | inl p ↦ carried_at arrived gone line' x (passed_on (passed at) deeds) _ (some_same line' x (sym p.1 ∙ (sym (same k) ∙ e)))
                (sym (passed_here (numbers k) (ap numbers p.0)))
                (carried_on arrived gone (passed at) line line' deeds calls.came calls.heard calls.went calls.leaves (a.carried key line here))
            | inr p ↦ let away = apart_from k p.0 (x, e) in
                carried_at arrived gone x x (passed (numbers k)) _ refl (sym (passed_there (numbers k) away)) (a.carried k x (was k x p.0 e))
          ];
          given = λ k s. a.given k (stood_there k s);
          apart = λ one other s t e. a.apart one other (stood_there one s) (stood_there other t) e;
          unused = λ n below. let away : n ≢ at = λ e. absurd (omega (arith, e, a.given key (line, here))) in let o = others n away in let u = a.unused n below in
              (passed_there n away ∙ u.0, o.0 ∙ u.1, o.1 ∙ u.2);
          ever = λ n. elim (here_or_there n at) [
            | inl e ↦ so_at is_so _ _ _ _ _ _ (sym (passed_here n e)) (ap (session_phases_in session_phases l.deeds) (sym e)) (ap (λ m. turns m ++ turns_of m l.deeds) (sym e))
                (so_of_accord line'.session _ _ _ l.accord)
            | inr away ↦ so_at is_so _ _ _ _ _ _ (sym (passed_there n away)) (sym (others n away).0) (sym (others n away).1) (a.ever n)
          ];
        };
      }

  happening_on : (h : Happening) (count : ℕ) (numbers : ℕ → ℕ) (passed : ℕ → Passed) (session_phases : ℕ → SessionPhase) (turns : ℕ → List Turn) (s s' : S) (old new : ℕ → Option (Line T C))
      → Makes law acts arrived gone s old h s' new → Accords arrived gone accords is_so count numbers passed session_phases turns old
      → GoesOn (count_after count h) (numbers_after count numbers h) (passed_after numbers passed h) session_phases turns s s' new
  happening_on (Came key) count numbers passed session_phases turns s s' old new m a =
      let b = begins_so s m.0.session s' m.2 in
      record { deeds = []; life = b.same; own = tt; accord = came_on key count numbers passed session_phases turns m.0 old new b.accord m.4 m.5 a }
  happening_on TurnedAway count numbers passed session_phases turns s s' old new m a = record {
    deeds = [];
    life = (begins_so s m.0.0 s' m.0.1).same;
    own = tt;
    accord = accords_still arrived gone accords is_so count numbers passed session_phases session_phases turns _ old new (λ k x e. (x, sym (m.1 k) ∙ e, refl, λ p c. c)) (λ n. refl) (λ n. append-nil (turns n)) a;
  }
  happening_on (Called key deeds) count numbers passed session_phases turns s s' old new m a =
      called_on key deeds count numbers passed session_phases turns s s' m.0 m.1 old new m.2 m.3 m.4 a
  happening_on (Thrown key bytes) count numbers passed session_phases turns s s' old new m a = record {
    deeds = [];
    life = ap instance_of m.4;
    own = tt;
    accord = accords_still arrived gone accords is_so count numbers passed session_phases session_phases turns _ old new
        (λ k x e. elim (chosen k key (Some m.1) (old k)) [
          | inl p ↦ let is = some_same m.1 x (sym p.1 ∙ (sym (m.5 k) ∙ e)) in
              (m.0, ap old p.0 ∙ m.2, sym m.3.session ∙ ap (λ (l : Line T C). l.session) is, λ q c. subst (IsCarried arrived gone q) is (carried_thrown arrived gone bytes q m.0 m.1 m.3 c))
          | inr p ↦ (x, sym p.1 ∙ (sym (m.5 k) ∙ e), refl, λ q c. c)
        ])
        (λ n. refl) (λ n. append-nil (turns n)) a;
  }
  happening_on Closed count numbers passed session_phases turns s s' old new m a = record {
    deeds = [];
    life = ap instance_of m.0;
    own = tt;
    accord = accords_still arrived gone accords is_so count numbers passed session_phases session_phases turns _ old new
        (λ k x e. elim (m.1 k) [
          | inl p ↦ (x, sym p ∙ e, refl, λ q c. c)
          | inr p ↦ absurd (none-some x (sym p ∙ e))
        ])
        (λ n. refl) (λ n. append-nil (turns n)) a;
  }
  happening_on (Acted count') count numbers passed session_phases turns s s' old new m a =
      let l = lives_acts instance_of accords acts acts_so count' s s' m.0 in record {
        deeds = l.0;
        life = l.2 session_phases;
        own = own_owns l.0 l.1;
        accord = accords_still arrived gone accords is_so count numbers passed session_phases _ turns _ old new (λ k x e. (x, sym (m.1 k) ∙ e, refl, λ p c. c))
            (λ n. (own_stay n l.0 session_phases l.1).0) (λ n. ap (λ x. turns n ++ x) (own_stay n l.0 session_phases l.1).1 ∙ append-nil (turns n)) a;
      }

  happenings_on : (hs : List Happening) (count : ℕ) (numbers : ℕ → ℕ) (passed : ℕ → Passed) (session_phases : ℕ → SessionPhase) (turns : ℕ → List Turn) (s s' : S)
      (old new : ℕ → Option (Line T C)) → Happens law acts arrived gone s old hs s' new → Accords arrived gone accords is_so count numbers passed session_phases turns old
      → GoesOn (count_by count hs) (numbers_by count numbers hs) (passed_by count numbers passed hs) session_phases turns s s' new
  happenings_on [] count numbers passed session_phases turns s s' old new happens a = record {
    deeds = [];
    life = ap instance_of happens.0;
    own = tt;
    accord = accords_still arrived gone accords is_so count numbers passed session_phases session_phases turns _ old new (λ k x e. (x, sym (happens.1 k) ∙ e, refl, λ p c. c)) (λ n. refl) (λ n. append-nil (turns n)) a;
  }
  happenings_on (h ∷ hs) count numbers passed session_phases turns s s' old new happens a =
      let first = happening_on h count numbers passed session_phases turns s happens.0 old happens.1 happens.2 a in
      let rest = happenings_on hs _ _ _ (session_phases_in session_phases first.deeds) (λ n. turns n ++ turns_of n first.deeds) happens.0 s' happens.1 new happens.3 first.accord in
      record {
        deeds = first.deeds ++ rest.deeds;
        life = life_append first.deeds rest.deeds session_phases (instance_of s) (instance_of happens.0) (instance_of s') first.life rest.life;
        own = owns_append first.deeds rest.deeds first.own rest.own;
        accord = accords_still arrived gone accords is_so _ _ _ _ _ _ _ new new (λ k x e. (x, e, refl, λ p c. c))
            (λ n. ap (λ (f : ℕ → SessionPhase). f n) (standings_append first.deeds rest.deeds session_phases))
            (λ n. ap (λ x. turns n ++ x) (turns_append n first.deeds rest.deeds) ∙ sym (append_assoc (turns n) (turns_of n first.deeds) (turns_of n rest.deeds)))
            rest.accord;
      }

  -- what happened from the beginning on is a life
  history_lived : (hs : List Happening) (s s' : S) (new : ℕ → Option (Line T C)) → Happens law acts arrived gone s no_lines hs s' new
      → IsLived arrived gone instance_of accords is_so s hs s' new
  history_lived hs s s' new happens =
      let all = happenings_on hs 0 (λ _. 0) (λ _. nothing_passed) (λ _. fresh) (λ _. []) s s' no_lines new happens
      (record {
        each = λ k x e. absurd (none-some x e);
        carried = λ k x e. absurd (none-some x e);
        given = λ k s. absurd (none-some s.0 s.1);
        apart = λ one other s t e. absurd (none-some s.0 s.1);
        unused = λ n below. (refl, refl, refl);
        ever = λ n. so_of_none;
      }) in
      record { deeds = all.deeds; life = all.life; own = all.own; accord = all.accord }

  -- at each moment of it
  always_on : (before hs : List Happening) (first s s' : S) (old new : ℕ → Option (Line T C)) (begun : Happens law acts arrived gone first no_lines before s old)
      (happens : Happens law acts arrived gone s old hs s' new)
      → IsAlwaysLived law acts arrived gone instance_of accords is_so first before s old hs s' new happens
  always_on before [] first s s' old new begun same =
      history_lived before first s' new (subst (λ (x : S). Happens law acts arrived gone first no_lines before x new) (sym same.0)
      (happens_same law acts arrived gone before first no_lines s old new same.1 begun))
  always_on before (h ∷ hs) first s s' old new begun happens = (
    history_lived before first s old begun,
    always_on (before ++ h ∷ []) hs first happens.0 s' happens.1 new
        (happens_more law acts arrived gone before h first no_lines s old happens.0 happens.1 begun happens.2) happens.3,
  )

  pub history_always_lived : (hs : List Happening) (s s' : S) (new : ℕ → Option (Line T C)) (happens : Happens law acts arrived gone s no_lines hs s' new)
      → IsAlwaysLived law acts arrived gone instance_of accords is_so s [] s no_lines hs s' new happens
  history_always_lived hs s s' new happens = always_on [] hs s s s' no_lines new (refl, λ _. refl) happens
