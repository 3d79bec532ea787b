-- The states of members once a step is made.
use Rattle.std.proofs.Common.{◌≡◌, ◌≢◌, ◌↔◌, inl, inr, ℕ, ◌<◌, Bool, true, false, cond, eqb, List, [], ◌∷◌, ◌++◌, Option, Some, None, Result, Ok, Err, suc, zero, refl, sym, ap, ◌∙◌, subst, arith, length, slice_get, append_assoc, length-append, ◌-◌}
use Rattle.std.specs.Prelude.{MatchOption, slice_set, IsTrue, OnOk, is_err}
use Rattle.std.specs.declared.cmp.Ordering.{Ordering}
use Rattle.std.proofs.lemmas.Bool.{cases_eq, cases_lt, false≢true, ne_eqb}
use Rattle.std.proofs.lemmas.Option.{slice_get_within}
use Rattle.am_version_order.specs.Versions.{Version}
use Rattle.am_merge.specs.Maps.{at}
use Rattle.am_merge.proofs.Indexes.{some_is}
use Rattle.am_runs.specs.declared.member_index.MemberIndex.{MemberIndex}
use Rattle.am_runs.specs.Records.{lasts_seen}
use Rattle.am_runs.specs.MemberIndexes.{IsMemberIndex, IsJudged, AreMemberIndexes, Stays, fault_after}
use Rattle.am_runs.specs.Steps.{RunStep, EachStep, IsFirstWithout, is_at}
use Rattle.am_runs.specs.Steps.RunStep.{Took, Ticked, Back, Refused, Saved, Stopped, Started}
use Rattle.am_runs.specs.Tests.{LastCollection, MaxTaken, acted, last_after, last_from, runs_after, runs_from, lasted, lasts_after, lasts_from, topped, tops_after, tops_from, top_among, top_in, in_time, comes_in_time, StaysCalm}
use Rattle.am_runs.proofs.Cuts.{each_nil, each_push, each_weaker}
use Rattle.am_runs.proofs.Spreads.{get_left, get_right}

lasts_from-push : {X : Type 0} (q : ℕ) (l : LastCollection) (before : List (RunStep X)) (s : RunStep X) → lasts_from q l (before ++ s ∷ []) ≡ lasts_after q (lasts_from q l before) s
lasts_from-push q l [] s = refl
lasts_from-push q l (t ∷ before) s = lasts_from-push q (lasts_after q l t) before s

runs_from-push : {X : Type 0} (q : ℕ) (r : Bool) (before : List (RunStep X)) (s : RunStep X) → runs_from q r (before ++ s ∷ []) ≡ runs_after q (runs_from q r before) s
runs_from-push q r [] s = refl
runs_from-push q r (t ∷ before) s = runs_from-push q (runs_after q r t) before s

last_from-push : {X : Type 0} (q l : ℕ) (before : List (RunStep X)) (s : RunStep X) → last_from q l (before ++ s ∷ []) ≡ last_after q (last_from q l before) s
last_from-push q l [] s = refl
last_from-push q l (t ∷ before) s = last_from-push q (last_after q l t) before s

pub on_ok_told : {A E P : Type 0} (r : Result A E) → is_err r ≡ false → OnOk r P → P
on_ok_told (Ok a) e p = p
on_ok_told (Err x) e p = absurd (false≢true (sym e))

pub nil_of : {A : Type 0} (xs : List A) → length xs ≡ 0 → xs ≡ []
nil_of [] e = refl
nil_of (x ∷ xs) e = absurd (omega arith)

module _ {A : Type 0} where
  got_same : (xs : List A) (n : ℕ) (x : A) → n < length xs → slice_get (slice_set xs n x) n ≡ Some x
  got_same [] n x within = absurd (omega arith)
  got_same (y ∷ xs) zero x within = refl
  got_same (y ∷ xs) (suc n) x within = got_same xs n x (omega arith)

  got_other : (xs : List A) (n m : ℕ) (x : A) → m ≢ n → slice_get (slice_set xs n x) m ≡ slice_get xs m
  got_other [] n m x differs = refl
  got_other (y ∷ xs) zero zero x differs = absurd (differs refl)
  got_other (y ∷ xs) zero (suc m) x differs = refl
  got_other (y ∷ xs) (suc n) zero x differs = refl
  got_other (y ∷ xs) (suc n) (suc m) x differs = got_other xs n m x (λ e. differs (ap suc e))

-- a step of another member leaves a member running or not
apart_runs : {X : Type 0} (q : ℕ) (r : Bool) (s : RunStep X) → is_at q s ≡ false → runs_after q r s ≡ r
apart_runs q r (Took place now source versions frames) apart = refl
apart_runs q r (Ticked place now) apart = refl
apart_runs q r (Back place now) apart = refl
apart_runs q r (Refused now) apart = refl
apart_runs q r (Saved place) apart = refl
apart_runs q r (Stopped place) apart = ap (λ b. cond b false r) apart
apart_runs q r (Started place now) apart = ap (λ b. cond b true r) apart

module _ {A : Type 0} (P : List A → A → Type 0) where
  first_more : (xs : List A) (y : A) (n : ℕ) → IsFirstWithout xs P n → IsFirstWithout (xs ++ y ∷ []) P n
  first_more xs y n first = record {
    before = first.before;
    step = first.step;
    rest = first.rest ++ y ∷ [];
    parts = sym (append_assoc first.before (first.step ∷ first.rest) (y ∷ [])) ∙ ap (λ zs. zs ++ y ∷ []) first.parts;
    place = first.place;
    holds = first.holds;
    fails = first.fails;
  }

  -- what was found so far, and the next element
  fault_more : (fault : Option ℕ) (stays : Bool) (xs : List A) (y : A) → (IsTrue stays ↔ P xs y) → MatchOption fault (EachStep xs P) (IsFirstWithout xs P) → MatchOption (fault_after fault stays (length xs)) (EachStep (xs ++ y ∷ []) P) (IsFirstWithout (xs ++ y ∷ []) P)
  fault_more (Some n) stays xs y told found = first_more xs y n found
  fault_more None true xs y told each = each_push P xs y each (told.0 refl)
  fault_more None false xs y told each = record { before = xs; step = y; rest = []; parts = refl; place = refl; holds = each; fails = λ here. false≢true (told.1 here) }

fault_same : (fault : Option ℕ) (number : ℕ) → fault_after fault true number ≡ fault
fault_same None number = refl
fault_same (Some n) number = refl

module _ {K X : Type 0} (seen : X → Version K) (cmp : K → K → Ordering) where
  -- a step of another member leaves a member calm
  apart_stays : (q : ℕ) (before : List (RunStep X)) (s : RunStep X) → is_at q s ≡ false → StaysCalm seen cmp q before s
  apart_stays q before (Took place now source versions frames) apart = λ same. absurd (false≢true (sym apart ∙ same))
  apart_stays q before (Ticked place now) apart = tt
  apart_stays q before (Back place now) apart = apart
  apart_stays q before (Refused now) apart = tt
  apart_stays q before (Saved place) apart = tt
  apart_stays q before (Stopped place) apart = tt
  apart_stays q before (Started place now) apart = tt

  pub stands_none : AreMemberIndexes seen cmp [] []
  stands_none q index there = absurd cc

  tops_from-push : (q : ℕ) (key : K) (t : MaxTaken X) (before : List (RunStep X)) (s : RunStep X) → tops_from seen cmp q key t (before ++ s ∷ []) ≡ tops_after seen cmp q key (tops_from seen cmp q key t before) s
  tops_from-push q key t [] s = refl
  tops_from-push q key t (u ∷ before) s = tops_from-push q key (tops_after seen cmp q key t u) before s

  stands_apart : (q : ℕ) (index : MemberIndex X K) (before : List (RunStep X)) (s : RunStep X) → is_at q s ≡ false → IsMemberIndex seen cmp q index before → IsMemberIndex seen cmp q index (before ++ s ∷ [])
  stands_apart q index before s apart is =
      let P = StaysCalm seen cmp q in
      record {
        runs = is.runs ∙ sym (apart_runs q (runs_from q true before) s apart) ∙ sym (runs_from-push q true before s);
        acted = is.acted ∙ ap (λ b. cond b (acted (last_from q 0 before) s) (last_from q 0 before)) (sym apart) ∙ sym (last_from-push q 0 before s);
        lasts = is.lasts ∙ ap (λ b. cond b (lasted (lasts_from q (record { last = None; saved = None }) before) s) (lasts_from q (record { last = None; saved = None }) before)) (sym apart) ∙ sym (lasts_from-push q (record { last = None; saved = None }) before s);
        tops = λ key. is.tops key ∙ ap (λ b. cond b (topped seen cmp key (tops_from seen cmp q key (record { top = None; saved = None }) before) s) (tops_from seen cmp q key (record { top = None; saved = None }) before)) (sym apart) ∙ sym (tops_from-push q key (record { top = None; saved = None }) before s);
        fault = subst (λ f. MatchOption f (EachStep (before ++ s ∷ []) P) (IsFirstWithout (before ++ s ∷ []) P)) (fault_same index.fault (length before)) (fault_more P index.fault true before s (λ t. apart_stays q before s apart, λ h. refl) is.fault);
      }

  -- whether it stays calm is told by what stands of it
  stays_told : (q : ℕ) (index : MemberIndex X K) (before : List (RunStep X)) (s : RunStep X) → is_at q s ≡ true → IsMemberIndex seen cmp q index before → Stays seen cmp index s ↔ StaysCalm seen cmp q before s
  stays_told q index before (Took place now source versions frames) here is =
      let same = λ (done : List X) (v : X). ap (λ (t : MaxTaken X). in_time seen (top_among seen cmp (seen v).key t.top done) index.lasts.last now v) (is.tops (seen v).key) ∙ ap (λ (l : LastCollection). in_time seen (top_among seen cmp (seen v).key (top_in seen cmp q (seen v).key before) done) l.last now v) is.lasts in (
        λ stays own. each_weaker _ (λ done v. comes_in_time seen cmp q before now done v ≡ true) versions (λ done v calm. sym (same done v) ∙ calm) stays,
        λ stays. each_weaker _ (λ done v. in_time seen (top_among seen cmp (seen v).key (at seen cmp index.taken (seen v).key) done) index.lasts.last now v ≡ true) versions (λ done v calm. same done v ∙ calm) (stays here),
      )
  stays_told q index before (Ticked place now) here is = (λ t. tt, λ t. tt)
  stays_told q index before (Back place now) here is = (λ t. absurd t, λ apart. absurd (false≢true (sym apart ∙ here)))
  stays_told q index before (Refused now) here is = (λ t. tt, λ t. tt)
  stays_told q index before (Saved place) here is = (λ t. tt, λ t. tt)
  stays_told q index before (Stopped place) here is = (λ t. tt, λ t. tt)
  stays_told q index before (Started place now) here is = (λ t. tt, λ t. tt)

  -- a step of the member itself
  pub stands_own : (q : ℕ) (index judged new : MemberIndex X K) (before : List (RunStep X)) (s : RunStep X) (stays : Bool) → is_at q s ≡ true → IsJudged seen cmp index judged s stays → new.runs ≡ runs_after q judged.runs s → new.acted ≡ last_after q judged.acted s → lasts_seen new.lasts ≡ lasts_after q (lasts_seen judged.lasts) s → new.fault ≡ fault_after judged.fault stays (length before) → new.taken ≡ judged.taken → new.saved ≡ judged.saved → IsMemberIndex seen cmp q index before → IsMemberIndex seen cmp q new (before ++ s ∷ [])
  stands_own q index judged new before s stays here is_judged runs moment lasts fault taken saved is =
      let told = stays_told q index before s here is in
      record {
        runs = runs ∙ ap (λ r. runs_after q r s) (is_judged.runs ∙ is.runs) ∙ sym (runs_from-push q true before s);
        acted = moment ∙ ap (λ l. last_after q l s) (is_judged.acted ∙ is.acted) ∙ sym (last_from-push q 0 before s);
        lasts = lasts ∙ ap (λ l. lasts_after q l s) (ap lasts_seen is_judged.lasts ∙ is.lasts) ∙ sym (lasts_from-push q (record { last = None; saved = None }) before s);
        tops = λ key. ap (λ map. record { top = at seen cmp map key; saved = at seen cmp new.saved key }) taken ∙ ap (λ map. record { top = at seen cmp judged.taken key; saved = at seen cmp map key }) saved
            ∙ is_judged.tops key ∙ ap (λ t. topped seen cmp key t s) (is.tops key)
            ∙ ap (λ b. cond b (topped seen cmp key (tops_from seen cmp q key (record { top = None; saved = None }) before) s) (tops_from seen cmp q key (record { top = None; saved = None }) before)) (sym here) ∙ sym (tops_from-push q key (record { top = None; saved = None }) before s);
        fault = subst (λ f. MatchOption f (EachStep (before ++ s ∷ []) (StaysCalm seen cmp q)) (IsFirstWithout (before ++ s ∷ []) (StaysCalm seen cmp q))) (sym (fault ∙ ap (λ f. fault_after f stays (length before)) is_judged.fault))
            (fault_more (StaysCalm seen cmp q) index.fault stays before s ((λ t. told.0 (is_judged.calm.0 t)), λ h. is_judged.calm.1 (told.1 h)) is.fault);
      }

  -- no step of one of these members
  pub stands_kept : (indexes : List (MemberIndex X K)) (before : List (RunStep X)) (s : RunStep X) → ((q : ℕ) → q < length indexes → is_at q s ≡ false) → AreMemberIndexes seen cmp indexes before → AreMemberIndexes seen cmp indexes (before ++ s ∷ [])
  stands_kept indexes before s apart are q index there = stands_apart q index before s (apart q (slice_get_within indexes q index there)) (are q index there)

  -- a step of this member
  pub stands_noted : (indexes : List (MemberIndex X K)) (member : ℕ) (index new : MemberIndex X K) (before : List (RunStep X)) (s : RunStep X) → slice_get indexes member ≡ Some index → ((q : ℕ) → is_at q s ≡ eqb member q) → (IsMemberIndex seen cmp member index before → IsMemberIndex seen cmp member new (before ++ s ∷ [])) → AreMemberIndexes seen cmp indexes before → AreMemberIndexes seen cmp (slice_set indexes member new) (before ++ s ∷ [])
  stands_noted indexes member index new before s there own_only own are q one is = elim (cases_eq q member) [
    | inl same ↦
        let put : new ≡ one = some_is (sym (got_same indexes member new (slice_get_within indexes member index there)) ∙ ap (slice_get (slice_set indexes member new)) (sym same) ∙ is) in
        subst (λ p. IsMemberIndex seen cmp p one (before ++ s ∷ [])) (sym same) (subst (λ n. IsMemberIndex seen cmp member n (before ++ s ∷ [])) put (own (are member index there)))
    | inr differs ↦
        stands_apart q one before s (own_only q ∙ ne_eqb member q (λ e. differs (sym e))) (are q one (sym (got_other indexes member q new differs) ∙ is))
  ]

  -- one more of whom nothing is known yet
  abbrev pub unknown : List X → List X → MemberIndex X K
  unknown taken saved = record { runs = true; acted = 0; lasts = record { last = None; saved = None }; fault = None; taken = taken; saved = saved }

  stands_new : (q : ℕ) (taken saved : List X) → taken ≡ [] → saved ≡ [] → IsMemberIndex seen cmp q (unknown taken saved) []
  stands_new q taken saved none nothing =
      subst (λ map. IsMemberIndex seen cmp q (unknown map saved) []) (sym none)
      (subst (λ map. IsMemberIndex seen cmp q (unknown [] map) []) (sym nothing) (record { runs = refl; acted = refl; lasts = refl; tops = λ key. refl; fault = each_nil (StaysCalm seen cmp q) }))

  pub stands_more : (indexes : List (MemberIndex X K)) (taken saved : List X) → taken ≡ [] → saved ≡ [] → AreMemberIndexes seen cmp indexes [] → AreMemberIndexes seen cmp (indexes ++ unknown taken saved ∷ []) []
  stands_more indexes taken saved none nothing are q index there = elim (cases_lt q (length indexes)) [
    | inl within ↦ are q index (sym (get_left indexes (unknown taken saved ∷ []) q within) ∙ there)
    | inr past ↦
        let long = length-append indexes (unknown taken saved ∷ []) in
        let within = slice_get_within (indexes ++ unknown taken saved ∷ []) q index there in
        let alone : q - length indexes ≡ 0 = omega arith in
        let is : unknown taken saved ≡ index = some_is (sym (get_right indexes (unknown taken saved ∷ []) q past ∙ ap (slice_get (unknown taken saved ∷ [])) alone) ∙ there) in
        subst (λ s. IsMemberIndex seen cmp q s []) is (stands_new q taken saved none nothing)
  ]
