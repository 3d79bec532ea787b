-- A timely run keeps what is held and what flies good, so each step of it is calm.
use Rattle.std.proofs.Common.{◌≡◌, ◌⊎◌, inl, inr, ℕ, ◌+◌, ◌<◌, ◌≤◌, Bool, true, false, cond, List, [], ◌∷◌, ◌++◌, Option, Some, None, refl, sym, ◌∙◌, subst, arith, map, append_assoc, slice_get}
use Rattle.std.specs.Prelude.{Contains, All, IfSome, IsSomeAnd}
use Rattle.std.specs.declared.cmp.Ordering.{Ordering}
use Rattle.std.proofs.lemmas.Bool.{cases_lt}
use Rattle.std.proofs.lemmas.Grind.{flat_map-append}
use Rattle.std.proofs.lemmas.Option.{slice_get_within, get_or_from_slice_get}
use Rattle.std.proofs.lemmas.List.Elements.{All-contains, Contains-append_left, Contains-append_right, Contains-append_cases, Contains-push}
use Rattle.am_version_order.specs.Versions.{Version, is_below}
use Rattle.am_version_order.proofs.Ranks.{below_up, below-updated}
use Rattle.am_merge.proofs.Keys.{IsKeyOrder}
use Rattle.am_collect.specs.Events.{Events, taken, collections, last_moment}
use Rattle.am_collect.specs.Events.MapEvent.{Delivered, Collected, Passed}
use Rattle.am_collect.specs.Calm.{IsCalm, IsInTime}
use Rattle.am_runs.specs.declared.step.DeliverySource.{DeliverySource}
use Rattle.am_runs.specs.declared.step.DeliverySource.TheVariants.{Made, Written, Arrived, Lent}
use Rattle.am_runs.specs.Steps.{RunStep, EachStep, SentFrame, moment, clock_after, clock_from, delivered_by, delivered_in, flights_by, flights_of, is_at, is_back_at}
use Rattle.am_runs.specs.Steps.RunStep.{Took, Ticked, Back, Refused, Saved, Stopped, Started}
use Rattle.am_runs.specs.Members.{Member, passes, stepped, member_after, member_of, set_of, last_of, map_of}
use Rattle.am_runs.specs.Runs.{IsPossible, IsRun, AreFrom, IsSent, IsCalmStep, IsCalmAt, changed}
use Rattle.am_runs.specs.Timely.{IsTimely, IsSpread, IsSwift, IsSwiftFrom}
use Rattle.am_runs.proofs.Cuts.{carried}
use Rattle.am_runs.proofs.Loops.{all_from}
use Rattle.am_runs.proofs.Pasts.{member_of-push, flights_of-push, map_of-append, taken-passes, taken-tick, taken-pass, last-passes, last-one}
use Rattle.am_runs.proofs.Faults.{IsFit, fit_begin, fit_pass, fit_tick, fit_start}
use Rattle.am_runs.proofs.Views.{empty, one_same, collected_before, held_beaten, changed_unbeaten}

got_there : {A : Type 0} (xs : List A) (n : ℕ) (x : A) → slice_get xs n ≡ Some x → Contains xs x
got_there xs n x e = (n, slice_get_within xs n x e, get_or_from_slice_get xs n x x e)

module _ {X : Type 0} where
  clock_from-push : (clock : ℕ) (before : List (RunStep X)) (s : RunStep X) → clock_from clock (before ++ s ∷ []) ≡ clock_after (clock_from clock before) (moment s)
  clock_from-push clock [] s = refl
  clock_from-push clock (t ∷ before) s = clock_from-push (clock_after clock (moment t)) before s

  flown : (now : ℕ) (frames : List (List X)) (f : SentFrame X) → Contains (map (λ frame. record { sent = now; versions = frame }) frames) f → (frame : List X) × (Contains frames frame) × (◌≡◌ {A = SentFrame X} (record { sent = now; versions = frame }) f)
  flown now [] f c = absurd (empty f c)
  flown now (frame ∷ frames) f c = by (Contains-append_cases (record { sent = now; versions = frame } ∷ []) (map (λ g. record { sent = now; versions = g }) frames) f c) (flown now frames f) where
    by : Contains (record { sent = now; versions = frame } ∷ []) f ⊎ Contains (map (λ g. record { sent = now; versions = g }) frames) f → (Contains (map (λ g. record { sent = now; versions = g }) frames) f → (g : List X) × (Contains frames g) × (◌≡◌ {A = SentFrame X} (record { sent = now; versions = g }) f)) → (g : List X) × (Contains (frame ∷ frames) g) × (◌≡◌ {A = SentFrame X} (record { sent = now; versions = g }) f)
    by (inl here) rest = (frame, Contains-append_left (frame ∷ []) frames frame (Contains-push [] frame), one_same (record { sent = now; versions = frame }) f here)
    by (inr there) rest = let r = rest there in (r.0, Contains-append_right (frame ∷ []) frames r.0 r.1, r.2)

module _ {K X : Type 0} (seen : X → Version K) (cmp : K → K → Ordering) (keys : IsKeyOrder cmp) (members spread flight : ℕ) (all : List X) (positive : 0 < spread) (lasting : All (λ v. ((seen v).updated + spread) + flight ≤ (seen v).expires) all) where
  -- v can be delivered at a moment: what is greater is live then, or v isn't
  abbrev pub IsSafe : ℕ → X → Type 0
  IsSafe now v = (g : X) → Contains all g → (seen g).key ≡ (seen v).key → is_below (seen v) (seen g) ≡ true → (seen g).expires ≤ now → (seen v).expires ≤ now

  pub record IsGoodMember (clock : ℕ) (m : Member X) : Type 0 where
    pub fit : IsFit seen m
    pub past : last_of m ≤ clock
    pub within : (x : X) → Contains (set_of m) x → Contains all x
    pub within_saved : (x : X) → Contains (taken [] m.saved) x → Contains all x

  -- what was old when a frame was sent beats nothing live in it
  pub record IsGoodFlight (clock : ℕ) (f : SentFrame X) : Type 0 where
    pub past : f.sent ≤ clock
    pub unbeaten : (v : X) → Contains f.versions v → (g : X) → Contains all g → (seen g).key ≡ (seen v).key → is_below (seen v) (seen g) ≡ true → (seen g).updated + spread ≤ f.sent → (seen v).expires ≤ f.sent

  pub record IsGood (before : List (RunStep X)) : Type 0 where
    pub each_member : (q : ℕ) → IsGoodMember (clock_from 0 before) (member_of members q before)
    pub flights : (f : SentFrame X) → Contains (flights_of before) f → IsGoodFlight (clock_from 0 before) f

  later_member : (clock now : ℕ) (m : Member X) → clock ≤ now → IsGoodMember clock m → IsGoodMember now m
  later_member clock now m on h = record { fit = h.fit; past = (let past : last_of m ≤ clock = h.past in omega arith); within = h.within; within_saved = h.within_saved }

  later_flight : (clock now : ℕ) (f : SentFrame X) → clock ≤ now → IsGoodFlight clock f → IsGoodFlight now f
  later_flight clock now f on h = record { past = (let past : f.sent ≤ clock = h.past in omega arith); unbeaten = h.unbeaten }

  long : (g : X) → Contains all g → ((seen g).updated + spread) + flight ≤ (seen g).expires
  long g has = All-contains (λ v. ((seen v).updated + spread) + flight ≤ (seen v).expires) all g lasting has

  -- what is safe comes in time
  safe_in_time : (past : Events X) (set : List X) (now : ℕ) (v : X) → IsCalm seen [] 0 past → last_moment 0 past ≤ now → ((x : X) → Contains set x → Contains all x) → IsSafe now v → IsInTime seen set (collections past) (Delivered v) now
  safe_in_time past set now v calm forward within safe live g over = each_collection (collections past) (λ m c. by m (collected_before seen past calm m c)) where
    each_collection : (moments : List ℕ) → ((m : ℕ) → Contains moments m → m < (seen g).expires) → All (λ m. m < (seen g).expires) moments
    each_collection moments each = all_from (λ m. m < (seen g).expires) moments each

    by : (m : ℕ) → m ≤ last_moment 0 past → m < (seen g).expires
    by m upto = elim (cases_lt m (seen g).expires) [
      | inl before ↦ before
      | inr reached ↦ (let dead : (seen v).expires ≤ now = safe g (within g over.best.member) over.same_key over.above (omega arith) in absurd (omega arith))
    ]

  -- a member after a step, where all that it delivers is safe
  member_next : (m : Member X) (clock : ℕ) (s : RunStep X) → IsGoodMember clock m → IfSome (moment s) (λ now. clock ≤ now) → ((v : X) → Contains (delivered_by s) v → Contains all v) → IfSome (moment s) (λ now. (v : X) → Contains (delivered_by s) v → IsSafe now v) → IsGoodMember (clock_after clock (moment s)) (stepped m s)
  member_next m clock (Took place now source versions frames) h on known safe =
      let past : last_of m ≤ clock = h.past in
      let last = last-passes m.past now versions in
      record {
        fit = fit_pass seen m now versions (omega arith) (λ done v rest e. safe_in_time m.past (set_of m ++ done) now v h.fit.past (omega arith) (among done v rest e) (safe v (subst (λ vs. Contains vs v) e (Contains-append_right done (v ∷ rest) v (Contains-append_left (v ∷ []) rest v (Contains-push [] v)))))) h.fit;
        past = omega (arith, last);
        within = λ x c. elim (Contains-append_cases (set_of m) versions x (subst (λ set. Contains set x) (taken-passes m.past now versions) c)) [ inl old ↦ h.within x old | inr new ↦ known x new ];
        within_saved = h.within_saved;
      } where
        among : (done : List X) (v : X) (rest : List X) → done ++ v ∷ rest ≡ versions → (x : X) → Contains (set_of m ++ done) x → Contains all x
        among done v rest e x c = elim (Contains-append_cases (set_of m) done x c) [ inl old ↦ h.within x old | inr new ↦ known x (subst (λ vs. Contains vs x) e (Contains-append_left done (v ∷ rest) x new)) ]
  member_next m clock (Ticked place now) h on known safe =
      let past : last_of m ≤ clock = h.past in
      let last = last-one m.past Collected now in
      record { fit = fit_tick seen m now (omega arith) h.fit; past = omega (arith, last); within = λ x c. h.within x (subst (λ set. Contains set x) (taken-tick m.past now) c); within_saved = h.within_saved }
  member_next m clock (Back place now) h on known safe = later_member clock now m on h
  member_next m clock (Refused now) h on known safe = later_member clock now m on h
  member_next m clock (Saved place) h on known safe = record { fit = record { past = h.fit.past; saved = h.fit.past; last = omega arith }; past = h.past; within = h.within; within_saved = h.within }
  member_next m clock (Stopped place) h on known safe = record { fit = record { past = h.fit.past; saved = h.fit.saved; last = h.fit.last }; past = h.past; within = h.within; within_saved = h.within_saved }
  member_next m clock (Started place now) h on known safe =
      let past : last_of m ≤ clock = h.past in
      let last = last-one m.saved Passed now in
      record { fit = fit_start seen m now (omega arith) h.fit; past = omega (arith, last); within = λ x c. h.within_saved x (subst (λ set. Contains set x) (taken-pass m.saved now) c); within_saved = h.within_saved }

  clock_on : (clock : ℕ) (o : Option ℕ) → IfSome o (λ now. clock ≤ now) → clock ≤ clock_after clock o
  clock_on clock None on = omega arith
  clock_on clock (Some now) on = on

  member_where : (b : Bool) (clock : ℕ) (m n : Member X) → IsGoodMember clock m → IsGoodMember clock n → IsGoodMember clock (cond b n m)
  member_where true clock m n h k = k
  member_where false clock m n h k = h

  -- what a step delivers is safe, wherever it comes from
  module _ (before : List (RunStep X)) (good : IsGood before) (now : ℕ) (onward : clock_from 0 before ≤ now) (spreads : IsSpread seen spread members all before now) where
    safe_made : (v : X) → (seen v).updated ≡ now → IsSafe now v
    safe_made v made g has same below dead =
        let up : (seen v).updated ≤ (seen g).updated = below-updated (seen v) (seen g) below in
        let lasts : ((seen g).updated + spread) + flight ≤ (seen g).expires = long g has in
        absurd (omega arith)

    safe_written : (sent : ℕ) (v : X) → sent ≤ (seen v).updated → now ≤ sent + flight → IsSafe now v
    safe_written sent v made swift g has same below dead =
        let up : (seen v).updated ≤ (seen g).updated = below-updated (seen v) (seen g) below in
        let lasts : ((seen g).updated + spread) + flight ≤ (seen g).expires = long g has in
        absurd (omega arith)

    safe_arrived : (f : SentFrame X) (v : X) → Contains (flights_of before) f → Contains f.versions v → now ≤ f.sent + flight → IsSafe now v
    safe_arrived f v flies member swift g has same below dead =
        let lasts : ((seen g).updated + spread) + flight ≤ (seen g).expires = long g has in
        let old : (seen g).updated + spread ≤ f.sent = omega arith in
        let gone : (seen v).expires ≤ f.sent = (good.flights f flies).unbeaten v member g has same below old in
        let past : f.sent ≤ clock_from 0 before = (good.flights f flies).past in
        omega arith

    -- a member that runs has taken something greater than v, where such was old
    overtaken : (q : ℕ) (v g : X) → (member_of members q before).runs ≡ true → Contains all g → (seen g).key ≡ (seen v).key → is_below (seen v) (seen g) ≡ true → (seen g).updated + spread ≤ now → (h : X) × (Contains (set_of (member_of members q before)) h) × ((seen h).key ≡ (seen v).key) × (is_below (seen v) (seen h) ≡ true)
    overtaken q v g runs has same below old =
        let h = spreads g has old q runs in
        (h.version, h.member, h.same_key ∙ same, below_up (seen v) (seen g) (seen h.version) h.not_below below)

    safe_lent : (q : ℕ) (v : X) → (member_of members q before).runs ≡ true → map_of seen cmp (member_of members q before).past (seen v).key ≡ Some v → IsSafe now v
    safe_lent q v runs held g has same below dead =
        let lasts : ((seen g).updated + spread) + flight ≤ (seen g).expires = long g has in
        let h = overtaken q v g runs has same below (omega arith) in
        let m = good.each_member q in
        let gone : (seen v).expires ≤ last_of (member_of members q before) = held_beaten seen cmp keys (member_of members q before).past v h.0 m.fit.past held h.1 h.2 h.3 in
        let past : last_of (member_of members q before) ≤ clock_from 0 before = m.past in
        omega arith

    arrived : (number : ℕ) (vs : List X) (o : Option (SentFrame X)) → slice_get (flights_of before) number ≡ o → IsSomeAnd o (λ f. All (Contains f.versions) vs) → IfSome o (λ f. now ≤ f.sent + flight) → (v : X) → Contains vs v → IsSafe now v
    arrived number vs None e from swift v has = absurd from
    arrived number vs (Some f) e from swift v has = safe_arrived f v (got_there (flights_of before) number f e) (All-contains (Contains f.versions) vs v from has) swift

    safe_from : (source : DeliverySource) (vs : List X) → AreFrom seen cmp members before now source vs → IsSwiftFrom flight (flights_of before) now source → (v : X) → Contains vs v → IsSafe now v
    safe_from Made vs from swift v has = safe_made v (All-contains (λ w. (seen w).updated ≡ now) vs v from has)
    safe_from (Written sent) vs from swift v has = safe_written sent v (All-contains (λ w. sent ≤ (seen w).updated) vs v from has) swift
    safe_from (Arrived number) vs from swift v has = arrived number vs (slice_get (flights_of before) number) refl from swift v has
    safe_from (Lent q) vs from swift v has = safe_lent q v from.0 (All-contains (λ w. map_of seen cmp (member_of members q before).past (seen w).key ≡ Some w) vs v from.1 has)

    abbrev Possible : ℕ → List X → X → Type 0
    Possible place vs v = Contains (changed seen cmp now (map_of seen cmp (member_of members place before).past) vs) v ⊎ (map_of seen cmp ((member_of members place before).past ++ passes now vs) (seen v).key ≡ Some v)

    -- what a step sends is not beaten by what was old
    good_sent : (place : ℕ) (vs frame : List X) → (member_of members place before).runs ≡ true → IsCalm seen [] 0 ((member_of members place before).past ++ passes now vs) → IsSent seen cmp members before place now vs frame → IsGoodFlight now (record { sent = now; versions = frame })
    good_sent place vs frame runs calm sent = record {
      past = omega arith;
      unbeaten = λ v c g has same below old. (let h = overtaken place v g runs has same below old in by v h.0 h.1 h.2 h.3 (All-contains (Possible place vs) frame v sent c));
    } where
      by : (v h : X) → Contains (set_of (member_of members place before)) h → (seen h).key ≡ (seen v).key → is_below (seen v) (seen h) ≡ true → Possible place vs v → (seen v).expires ≤ now
      by v h has same below (inl new) =
          let m = member_of members place before in
          let first : map_of seen cmp (m.past ++ (Passed, now) ∷ []) ≡ map_of seen cmp m.past = map_of-append seen cmp m.past ((Passed, now) ∷ []) in
          absurd (changed_unbeaten seen cmp keys (m.past ++ (Passed, now) ∷ []) now vs v h
          (subst (IsCalm seen [] 0) (sym (append_assoc m.past ((Passed, now) ∷ []) (map (λ w. (Delivered w, now)) vs))) calm)
          (subst (λ held. Contains (changed seen cmp now held vs) v) (sym first) new)
          (subst (λ set. Contains set h) (sym (taken-pass m.past now)) has) same below)
      by v h has same below (inr held) =
          let m = member_of members place before in
          let gone : (seen v).expires ≤ last_moment 0 (m.past ++ passes now vs) = held_beaten seen cmp keys (m.past ++ passes now vs) v h calm held (subst (λ set. Contains set h) (sym (taken-passes m.past now vs)) (Contains-append_left (taken [] m.past) vs h has)) same below in
          let last = last-passes m.past now vs in
          omega (arith, gone, last)

  -- the moment of a step, and what holds when it begins
  pub record HasBegun (before : List (RunStep X)) (s : RunStep X) : Type 0 where
    pub can : IsPossible seen cmp members before s
    pub known : (v : X) → Contains (delivered_by s) v → Contains all v
    pub onward : IfSome (moment s) (λ now. clock_from 0 before ≤ now)
    pub swift : IsSwift flight before s
    pub spreads : IfSome (moment s) (IsSpread seen spread members all before)

  safe_step : (before : List (RunStep X)) (s : RunStep X) → IsGood before → HasBegun before s → IfSome (moment s) (λ now. (v : X) → Contains (delivered_by s) v → IsSafe now v)
  safe_step before (Took place now source versions frames) good b = safe_from before good now b.onward b.spreads source versions b.can.from b.swift
  safe_step before (Ticked place now) good b = λ v c. absurd (empty v c)
  safe_step before (Back place now) good b = λ v c. absurd (empty v c)
  safe_step before (Refused now) good b = λ v c. absurd (empty v c)
  safe_step before (Saved place) good b = tt
  safe_step before (Stopped place) good b = tt
  safe_step before (Started place now) good b = λ v c. absurd (empty v c)

  member_step : (before : List (RunStep X)) (s : RunStep X) (q : ℕ) → IsGood before → HasBegun before s → IsGoodMember (clock_after (clock_from 0 before) (moment s)) (member_after q (member_of members q before) s)
  member_step before s q good b =
      let m = member_of members q before in
      let clock = clock_from 0 before in
      member_where (is_at q s) (clock_after clock (moment s)) m (stepped m s) (later_member clock (clock_after clock (moment s)) m (clock_on clock (moment s) b.onward) (good.each_member q))
      (member_next m clock s (good.each_member q) b.onward b.known (safe_step before s good b))

  -- what a member that acts has done is calm
  took_calm : (before : List (RunStep X)) (place now : ℕ) (source : DeliverySource) (versions : List X) (frames : List (List X)) → IsGood before → HasBegun before (Took place now source versions frames) → IsCalm seen [] 0 ((member_of members place before).past ++ passes now versions)
  took_calm before place now source versions frames good b = (member_next (member_of members place before) (clock_from 0 before) (Took place now source versions frames) (good.each_member place) b.onward b.known (safe_step before (Took place now source versions frames) good b)).fit.past

  flight_new : (before : List (RunStep X)) (s : RunStep X) → IsGood before → HasBegun before s → (f : SentFrame X) → Contains (flights_by s) f → IsGoodFlight (clock_after (clock_from 0 before) (moment s)) f
  flight_new before (Took place now source versions frames) good b f c =
      let r = flown now frames f c in
      subst (IsGoodFlight now) r.2
      (good_sent before good now b.onward b.spreads place versions r.0 b.can.acts.runs (took_calm before place now source versions frames good b) (All-contains (IsSent seen cmp members before place now versions) frames r.0 b.can.sent r.1))
  flight_new before (Ticked place now) good b f c = absurd (empty f c)
  flight_new before (Back place now) good b f c = absurd (empty f c)
  flight_new before (Refused now) good b f c = absurd (empty f c)
  flight_new before (Saved place) good b f c = absurd (empty f c)
  flight_new before (Stopped place) good b f c = absurd (empty f c)
  flight_new before (Started place now) good b f c = absurd (empty f c)

  pub good_step : (before : List (RunStep X)) (s : RunStep X) → IsGood before → HasBegun before s → IsGood (before ++ s ∷ [])
  good_step before s good b =
      let clock = clock_from 0 before in
      let on = clock_on clock (moment s) b.onward in
      record {
        each_member = λ q. subst (λ m. IsGoodMember (clock_from 0 (before ++ s ∷ [])) m) (sym (member_of-push members q before s)) (subst (λ t. IsGoodMember t (member_after q (member_of members q before) s)) (sym (clock_from-push 0 before s)) (member_step before s q good b));
        flights = λ f c. subst (λ t. IsGoodFlight t f) (sym (clock_from-push 0 before s)) (elim (Contains-append_cases (flights_of before) (flights_by s) f (subst (λ fs. Contains fs f) (flights_of-push before s) c)) [
          | inl old ↦ later_flight clock (clock_after clock (moment s)) f on (good.flights f old)
          | inr new ↦ flight_new before s good b f new
        ]);
      }

  never_back : (before : List (RunStep X)) (s : RunStep X) (q : ℕ) → IsGood before → HasBegun before s → is_back_at q s ≡ false
  never_back before (Took place now source versions frames) q good b = refl
  never_back before (Ticked place now) q good b = refl
  never_back before (Back place now) q good b =
      let past : last_of (member_of members place before) ≤ clock_from 0 before = (good.each_member place).past in
      let on : clock_from 0 before ≤ now = b.onward in
      let back : now < last_of (member_of members place before) = b.can in
      absurd (omega arith)
  never_back before (Refused now) q good b = refl
  never_back before (Saved place) q good b = refl
  never_back before (Stopped place) q good b = refl
  never_back before (Started place now) q good b = refl

  pub calm_step : (before : List (RunStep X)) (s : RunStep X) (q : ℕ) → IsGood before → HasBegun before s → IsCalmStep seen members q before s
  calm_step before s q good b = record { past = ((good_step before s good b).each_member q).fit.past; forward = never_back before s q good b }

  good_begin : IsGood []
  good_begin = record {
    each_member = λ q. record { fit = fit_begin seen _; past = omega arith; within = λ x c. absurd (empty x c); within_saved = λ x c. absurd (empty x c) };
    flights = λ f c. absurd (empty f c);
  }

  -- of a run in which each step begins so
  pub good_upto : (steps : List (RunStep X)) → EachStep steps HasBegun → (before rest : List (RunStep X)) → before ++ rest ≡ steps → IsGood before
  good_upto steps begun before rest e = carried IsGood steps [] before rest e (λ b s after d good. good_step b s good (begun b s after d)) good_begin

-- ---- a timely run

module _ {K X : Type 0} (seen : X → Version K) (cmp : K → K → Ordering) (keys : IsKeyOrder cmp) (spread flight members : ℕ) (steps : List (RunStep X)) (positive : 0 < spread) (run : IsRun seen cmp members steps) (timely : IsTimely seen spread flight members steps) where
  delivered_there : (before : List (RunStep X)) (s : RunStep X) (rest : List (RunStep X)) → before ++ s ∷ rest ≡ steps → (v : X) → Contains (delivered_by s) v → Contains (delivered_in steps) v
  delivered_there before s rest e v c =
      subst (λ ss. Contains (delivered_in ss) v) e
      (subst (λ vs. Contains vs v) (sym (flat_map-append delivered_by before (s ∷ rest)))
      (Contains-append_right (delivered_in before) (delivered_in (s ∷ rest)) v (Contains-append_left (delivered_by s) (delivered_in rest) v c)))

  pub begun : EachStep steps (HasBegun seen cmp keys members spread flight (delivered_in steps) positive timely.lasting)
  begun before s rest e = record {
    can = run before s rest e;
    known = delivered_there before s rest e;
    onward = timely.onward before s rest e;
    swift = timely.swift before s rest e;
    spreads = timely.caught_up before s rest e;
  }

  pub good_at : (before rest : List (RunStep X)) → before ++ rest ≡ steps → IsGood seen cmp keys members spread flight (delivered_in steps) positive timely.lasting before
  good_at before rest e = good_upto seen cmp keys members spread flight (delivered_in steps) positive timely.lasting steps begun before rest e

  pub timely_calm : (place : ℕ) → IsCalmAt seen members place steps
  timely_calm place before s rest e = calm_step seen cmp keys members spread flight (delivered_in steps) positive timely.lasting before s place (good_at before (s ∷ rest) e) (begun before s rest e)
