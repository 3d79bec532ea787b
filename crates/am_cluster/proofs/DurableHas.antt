-- A durable member has whatever came to it live, whichever file it was started from.
use Rattle.std.proofs.Common.{◌≡◌, inl, inr, ℕ, ◌+◌, ◌<◌, ◌≤◌, Bool, true, false, ◌||◌, cond, eqb, ltb, List, [], ◌∷◌, ◌++◌, Option, Some, None, refl, sym, ap, ◌∙◌, subst, arith, append_assoc, append-nil}
use Rattle.std.specs.Prelude.{Contains, All, IfSome}
use Rattle.std.specs.List.{list_any}
use Rattle.std.specs.declared.cmp.Ordering.{Ordering}
use Rattle.std.proofs.lemmas.Bool.{cases_lt, eqb-true, false≢true}
use Rattle.std.proofs.lemmas.Grind.{flat_map-append}
use Rattle.std.proofs.lemmas.List.Elements.{All-contains, All-contains_itself, All-weaker, Contains-append_left, Contains-append_right, Contains-append_cases}
use Rattle.am_version_order.specs.Versions.{Version, is_below}
use Rattle.am_version_order.proofs.Ranks.{below-updated, tied}
use Rattle.am_collect.specs.Events.{taken}
use Rattle.am_runs.specs.Members.{Member, stepped, member_after, member_from, member_of, set_of}
use Rattle.am_runs.specs.Runs.{IsPossible, IsRun}
use Rattle.am_runs.specs.Steps.{RunStep, delivered_by, delivered_in, moment}
use Rattle.am_runs.specs.Steps.RunStep.{Took, Ticked, Back, Refused, Saved, Stopped, Started}
use Rattle.am_runs.specs.Timely.{HasCaughtUp, IsSpread, IsTimely}
use Rattle.am_cluster.specs.Durable.{saves, starts}
use Rattle.am_runs.proofs.Cuts.{carried, each_front}
use Rattle.am_runs.proofs.Pasts.{member_from-append, member_of-push, taken-passes, taken-pass, taken-tick}
use Rattle.am_runs.proofs.Views.{empty}
use Rattle.am_cluster.specs.Durable.{BringsLive, CameLive, HasComeLive, HaveCome, IsDurable, IsSaved, IsTimelyByWhatCame, came, came_by}

or_false : (b : Bool) → (b || false) ≡ true → b ≡ true
or_false true e = refl
or_false false e = e

or_apart : (a b c : Bool) → (a || (b || c)) ≡ true → ((a || b) || c) ≡ true
or_apart true b c e = refl
or_apart false b c e = e

-- ---- what a member has and has saved, with one step more

module _ {X : Type 0} where
  where_at : (here : Bool) (P : Member X → Type 0) (m n : Member X) → P m → (here ≡ true → P n) → P (cond here n m)
  where_at true P m n old new = new refl
  where_at false P m n old new = old

  -- a member has a version, and what is saved of it does where this says so
  pub record Has (v : X) (saved : Bool) (m : Member X) : Type 0 where
    pub has : Contains (set_of m) v
    pub kept : saved ≡ true → Contains (taken [] m.saved) v

  has_still : (v : X) (saved : Bool) (m : Member X) → Has v saved m → Has v (saved || false) m
  has_still v saved m h = record { has = h.has; kept = λ e. h.kept (or_false saved e) }

  has_saved : (place : ℕ) (v : X) (saved : Bool) (m : Member X) (here : Bool) → Has v saved m → Has v (saved || here) (cond here (stepped m (Saved place)) m)
  has_saved place v saved m true h = record { has = h.has; kept = λ e. h.has }
  has_saved place v saved m false h = has_still v saved m h

  has_after : (q : ℕ) (v : X) (saved : Bool) (m : Member X) (s : RunStep X) → Has v saved m → (starts q s ≡ true → saved ≡ true) → Has v (saved || saves q s) (member_after q m s)
  has_after q v saved m (Took place now source versions frames) h start =
      where_at (eqb place q) (Has v (saved || false)) m (stepped m (Took place now source versions frames)) (has_still v saved m h) (λ here. record {
        has = subst (λ set. Contains set v) (sym (taken-passes m.past now versions)) (Contains-append_left (set_of m) versions v h.has);
        kept = λ e. h.kept (or_false saved e);
      })
  has_after q v saved m (Ticked place now) h start =
      where_at (eqb place q) (Has v (saved || false)) m (stepped m (Ticked place now)) (has_still v saved m h) (λ here. record {
        has = subst (λ set. Contains set v) (sym (taken-tick m.past now)) h.has;
        kept = λ e. h.kept (or_false saved e);
      })
  has_after q v saved m (Back place now) h start = where_at (eqb place q) (Has v (saved || false)) m m (has_still v saved m h) (λ here. has_still v saved m h)
  has_after q v saved m (Refused now) h start = has_still v saved m h
  has_after q v saved m (Saved place) h start = has_saved place v saved m (eqb place q) h
  has_after q v saved m (Stopped place) h start =
      where_at (eqb place q) (Has v (saved || false)) m (stepped m (Stopped place)) (has_still v saved m h) (λ here. record { has = h.has; kept = λ e. h.kept (or_false saved e) })
  has_after q v saved m (Started place now) h start =
      where_at (eqb place q) (Has v (saved || false)) m (stepped m (Started place now)) (has_still v saved m h) (λ here. record {
        has = subst (λ set. Contains set v) (sym (taken-pass m.saved now)) (h.kept (start here));
        kept = λ e. h.kept (or_false saved e);
      })

  -- and with more steps, in which it is saved before it is started
  has_from : (q : ℕ) (v : X) (saved : Bool) (m : Member X) (steps : List (RunStep X)) → Has v saved m
      → ((between : List (RunStep X)) (start : RunStep X) (rest : List (RunStep X)) → between ++ start ∷ rest ≡ steps → starts q start ≡ true → (saved || list_any (saves q) between) ≡ true)
      → Contains (set_of (member_from q m steps)) v
  has_from q v saved m [] h before = h.has
  has_from q v saved m (s ∷ steps) h before =
      has_from q v (saved || saves q s) (member_after q m s) steps (has_after q v saved m s h (λ start. or_false saved (before [] s steps refl start)))
      (λ between start rest e starting. or_apart saved (saves q s) (list_any (saves q) between) (before (s ∷ between) start rest (ap (λ ss. s ∷ ss) e) starting))

  -- ---- what a member has is among what came to it

  came-push : (q : ℕ) (before : List (RunStep X)) (s : RunStep X) → came q (before ++ s ∷ []) ≡ came q before ++ came_by q s
  came-push q before s = flat_map-append (came_by q) before (s ∷ []) ∙ ap (λ vs. came q before ++ vs) (append-nil (came_by q s))

  -- what came to a member was delivered
  came_by_delivered : (q : ℕ) (s : RunStep X) (v : X) → Contains (came_by q s) v → Contains (delivered_by s) v
  came_by_delivered q (Took place now source versions frames) v c = by (eqb place q) c where
    by : (b : Bool) → Contains (cond b versions []) v → Contains versions v
    by true c = c
    by false c = absurd (empty v c)
  came_by_delivered q (Ticked place now) v c = c
  came_by_delivered q (Back place now) v c = c
  came_by_delivered q (Refused now) v c = c
  came_by_delivered q (Saved place) v c = c
  came_by_delivered q (Stopped place) v c = c
  came_by_delivered q (Started place now) v c = c

  pub came_delivered : (q : ℕ) (steps : List (RunStep X)) (v : X) → Contains (came q steps) v → Contains (delivered_in steps) v
  came_delivered q [] v c = c
  came_delivered q (s ∷ steps) v c = elim (Contains-append_cases (came_by q s) (came q steps) v c) [
    | inl here ↦ Contains-append_left (delivered_by s) (delivered_in steps) v (came_by_delivered q s v here)
    | inr there ↦ Contains-append_right (delivered_by s) (delivered_in steps) v (came_delivered q steps v there)
  ]

  pub record IsWithin (all : List X) (m : Member X) : Type 0 where
    pub has : (v : X) → Contains (set_of m) v → Contains all v
    pub kept : (v : X) → Contains (taken [] m.saved) v → Contains all v

  within_wider : (all more : List X) (m : Member X) → IsWithin all m → IsWithin (all ++ more) m
  within_wider all more m h = record { has = λ v c. Contains-append_left all more v (h.has v c); kept = λ v c. Contains-append_left all more v (h.kept v c) }

  within_took : (place now : ℕ) (m : Member X) (s : RunStep X) (versions all : List X) (here : Bool) → set_of (stepped m s) ≡ set_of m ++ versions → (stepped m s).saved ≡ m.saved → IsWithin all m → IsWithin (all ++ cond here versions []) (cond here (stepped m s) m)
  within_took place now m s versions all true set saved h = record {
    has = λ v c. elim (Contains-append_cases (set_of m) versions v (subst (λ vs. Contains vs v) set c)) [ inl old ↦ Contains-append_left all versions v (h.has v old) | inr new ↦ Contains-append_right all versions v new ];
    kept = λ v c. Contains-append_left all versions v (h.kept v (subst (λ past. Contains (taken [] past) v) saved c));
  }
  within_took place now m s versions all false set saved h = within_wider all [] m h

  within_after : (q : ℕ) (all : List X) (m : Member X) (s : RunStep X) → IsWithin all m → IsWithin (all ++ came_by q s) (member_after q m s)
  within_after q all m (Took place now source versions frames) h =
      within_took place now m (Took place now source versions frames) versions all (eqb place q) (taken-passes m.past now versions) refl h
  within_after q all m (Ticked place now) h =
      within_wider all [] _ (where_at (eqb place q) (IsWithin all) m (stepped m (Ticked place now)) h (λ here. record {
        has = λ v c. h.has v (subst (λ set. Contains set v) (taken-tick m.past now) c);
        kept = h.kept;
      }))
  within_after q all m (Back place now) h = within_wider all [] _ (where_at (eqb place q) (IsWithin all) m m h (λ here. h))
  within_after q all m (Refused now) h = within_wider all [] m h
  within_after q all m (Saved place) h = within_wider all [] _ (where_at (eqb place q) (IsWithin all) m (stepped m (Saved place)) h (λ here. record { has = h.has; kept = h.has }))
  within_after q all m (Stopped place) h = within_wider all [] _ (where_at (eqb place q) (IsWithin all) m (stepped m (Stopped place)) h (λ here. record { has = h.has; kept = h.kept }))
  within_after q all m (Started place now) h =
      within_wider all [] _ (where_at (eqb place q) (IsWithin all) m (stepped m (Started place now)) h (λ here. record {
        has = λ v c. h.kept v (subst (λ set. Contains set v) (taken-pass m.saved now) c);
        kept = h.kept;
      }))

  pub set_within : (members q : ℕ) (steps : List (RunStep X)) (v : X) → Contains (set_of (member_of members q steps)) v → Contains (came q steps) v
  set_within members q steps =
      let Q : List (RunStep X) → Type 0 = λ before. IsWithin (came q before) (member_of members q before) in
      let all : Q steps = carried Q steps [] steps [] (append-nil steps) next (record { has = λ v c. c; kept = λ v c. c }) in
      all.has where
        next : (before : List (RunStep X)) (s : RunStep X) (after : List (RunStep X)) → before ++ s ∷ after ≡ steps → IsWithin (came q before) (member_of members q before) → IsWithin (came q (before ++ s ∷ [])) (member_of members q (before ++ s ∷ []))
        next before s after e h =
            subst (λ all. IsWithin all (member_of members q (before ++ s ∷ []))) (sym (came-push q before s))
            (subst (IsWithin (came q before ++ came_by q s)) (sym (member_of-push members q before s)) (within_after q (came q before) (member_of members q before) s h))

  -- so what holds of all that was delivered holds of all that a member took
  pub taken_values : (P : X → Type 0) (members q : ℕ) (steps : List (RunStep X)) → All P (delivered_in steps) → All P (set_of (member_of members q steps))
  taken_values P members q steps all =
      let set = set_of (member_of members q steps) in
      All-weaker (Contains set) P (λ v within. All-contains P (delivered_in steps) v all (came_delivered q steps v (set_within members q steps v within))) set (All-contains_itself set)

some_map : {A : Type 0} (P Q : A → Type 0) (o : Option A) → ((a : A) → P a → Q a) → IfSome o P → IfSome o Q
some_map P Q None each holds = tt
some_map P Q (Some a) each holds = each a holds

module _ {K X : Type 0} (seen : X → Version K) where
  brought : (q : ℕ) (m : Member X) (s : RunStep X) (v : X) → BringsLive seen q s v → Contains (set_of (member_after q m s)) v
  brought q m (Took place now source versions frames) v brings =
      subst (λ here. Contains (set_of (cond here (stepped m (Took place now source versions frames)) m)) v) (sym brings.0)
      (subst (λ set. Contains set v) (sym (taken-passes m.past now versions)) (Contains-append_right (set_of m) versions v brings.1))
  brought q m (Ticked place now) v brings = absurd brings
  brought q m (Back place now) v brings = absurd brings
  brought q m (Refused now) v brings = absurd brings
  brought q m (Saved place) v brings = absurd brings
  brought q m (Stopped place) v brings = absurd brings
  brought q m (Started place now) v brings = absurd brings

  -- what came live to a durable member it has
  pub durable_has : (members q : ℕ) (steps : List (RunStep X)) (v : X) → IsDurable seen q steps → CameLive seen q steps v → Contains (set_of (member_of members q steps)) v
  durable_has members q steps v durable coming =
      let start : Member X = record { past = []; saved = []; runs = ltb q members } in
      subst (λ ss. Contains (set_of (member_of members q ss)) v) coming.parts
      (subst (λ m. Contains (set_of m) v) (sym (member_from-append q start coming.before (coming.step ∷ coming.rest)))
      (has_from q v false (member_after q (member_from q start coming.before) coming.step) coming.rest
      (record { has = brought q (member_from q start coming.before) coming.step v coming.brings; kept = λ e. absurd (false≢true e) })
      (λ between s rest e starting.
      durable (coming.before ++ coming.step ∷ between) s rest
      (append_assoc coming.before (coming.step ∷ between) (s ∷ rest) ∙ (ap (λ ss. coming.before ++ coming.step ∷ ss) e ∙ coming.parts))
      starting v (record { before = coming.before; step = coming.step; rest = between; parts = refl; brings = coming.brings }))))

  -- what came live before some steps came live with them
  pub live_more : (q : ℕ) (before rest : List (RunStep X)) (v : X) → CameLive seen q before v → CameLive seen q (before ++ rest) v
  live_more q before rest v coming = record {
    before = coming.before;
    step = coming.step;
    rest = coming.rest ++ rest;
    parts = sym (append_assoc coming.before (coming.step ∷ coming.rest) rest) ∙ ap (λ ss. ss ++ rest) coming.parts;
    brings = coming.brings;
  }

  come_more : (q : ℕ) (before rest : List (RunStep X)) (v : X) → HasComeLive seen q before v → HasComeLive seen q (before ++ rest) v
  come_more q before rest v h = record { version = h.version; live = live_more q before rest h.version h.live; same_key = h.same_key; not_below = h.not_below }

  -- of what counts for a version, the update is no earlier
  later_update : (v w : X) → (seen w).key ≡ (seen v).key → is_below (seen w) (seen v) ≡ false → (seen v).updated ≤ (seen w).updated
  later_update v w same above = by (is_below (seen v) (seen w)) refl where
    by : (b : Bool) → is_below (seen v) (seen w) ≡ b → (seen v).updated ≤ (seen w).updated
    by true e = below-updated (seen v) (seen w) e
    by false e = let is : (seen v).updated ≡ (seen w).updated = ap (λ (u : Version K). u.updated) (tied (seen v) (seen w) (sym same) e above) in omega arith

  module _ (cmp : K → K → Ordering) (spread flight members : ℕ) (steps : List (RunStep X)) where
    -- a timely run is so by what came
    pub timely_by_came : IsTimely seen spread flight members steps → IsTimelyByWhatCame seen spread flight members steps
    timely_by_came timely = record {
      onward = timely.onward;
      lasting = timely.lasting;
      swift = timely.swift;
      have_come = λ before step rest e.
          some_map (IsSpread seen spread members (delivered_in steps) before) (HaveCome seen spread members (delivered_in steps) before) (moment step)
          (λ now spreads v known old q runs. (let h = spreads v known old q runs in record { version = h.version; member = set_within members q before h.version h.member; same_key = h.same_key; not_below = h.not_below }))
          (timely.caught_up before step rest e);
    }

    module _ (run : IsRun seen cmp members steps) (timely : IsTimelyByWhatCame seen spread flight members steps) where
      delivered_there : (before : List (RunStep X)) (s : RunStep X) (after : List (RunStep X)) → before ++ s ∷ after ≡ steps → (v : X) → Contains (delivered_by s) v → Contains (delivered_in steps) v
      delivered_there before s after e v c =
          subst (λ ss. Contains (delivered_in ss) v) e
          (subst (λ vs. Contains vs v) (sym (flat_map-append delivered_by before (s ∷ after)))
          (Contains-append_right (delivered_in before) (delivered_in (s ∷ after)) v (Contains-append_left (delivered_by s) (delivered_in after) v c)))

      -- whatever came for a version that was delivered, something came for it live
      abbrev ComesLive : List (RunStep X) → Type 0
      ComesLive before = (v : X) → Contains (delivered_in steps) v → (q : ℕ) → HasCaughtUp seen (came q before) v → HasComeLive seen q before v

      live_now : (before : List (RunStep X)) (s : RunStep X) (after : List (RunStep X)) → before ++ s ∷ after ≡ steps → ComesLive before → (v : X) → Contains (delivered_in steps) v → (q : ℕ)
          → (w : X) → Contains (came_by q s) w → (seen w).key ≡ (seen v).key → is_below (seen w) (seen v) ≡ false → HasComeLive seen q (before ++ s ∷ []) v
      live_now before (Took place now source versions frames) after e old v known q w here same above = by (eqb place q) refl here where
        by : (b : Bool) → eqb place q ≡ b → Contains (cond b versions []) w → HasComeLive seen q (before ++ Took place now source versions frames ∷ []) v
        by false other c = absurd (empty w c)
        by true its c = elim (cases_lt now ((seen v).updated + spread)) [
          | inl early ↦ (
              let up : (seen v).updated ≤ (seen w).updated = later_update v w same above in
              let lasts : ((seen w).updated + spread) + flight ≤ (seen w).expires =
              All-contains (λ u. ((seen u).updated + spread) + flight ≤ (seen u).expires) (delivered_in steps) w timely.lasting (delivered_there before (Took place now source versions frames) after e w c) in
              let alive : now < (seen w).expires = omega arith in
              record {
                version = w;
                live = record { before = before; step = Took place now source versions frames; rest = []; parts = refl; brings = (its, c, alive) };
                same_key = same;
                not_below = above;
              }
              )
          | inr due ↦ (
              let runs : (member_of members q before).runs ≡ true = subst (λ p. (member_of members p before).runs ≡ true) (eqb-true place q its) (run before (Took place now source versions frames) after e).acts.runs in
              come_more q before (Took place now source versions frames ∷ []) v (old v known q (timely.have_come before (Took place now source versions frames) after e v known due q runs))
              )
        ]
      live_now before (Ticked place now) after e old v known q w here same above = absurd (empty w here)
      live_now before (Back place now) after e old v known q w here same above = absurd (empty w here)
      live_now before (Refused now) after e old v known q w here same above = absurd (empty w here)
      live_now before (Saved place) after e old v known q w here same above = absurd (empty w here)
      live_now before (Stopped place) after e old v known q w here same above = absurd (empty w here)
      live_now before (Started place now) after e old v known q w here same above = absurd (empty w here)

      live_next : (before : List (RunStep X)) (s : RunStep X) (after : List (RunStep X)) → before ++ s ∷ after ≡ steps → ComesLive before → ComesLive (before ++ s ∷ [])
      live_next before s after e old v known q h =
          elim (Contains-append_cases (came q before) (came_by q s) h.version (subst (λ set. Contains set h.version) (came-push q before s) h.member)) [
            | inl there ↦ come_more q before (s ∷ []) v (old v known q (record { version = h.version; member = there; same_key = h.same_key; not_below = h.not_below }))
            | inr here ↦ live_now before s after e old v known q h.version here h.same_key h.not_below
          ]

      pub comes_live : (before rest : List (RunStep X)) → before ++ rest ≡ steps → ComesLive before
      comes_live before rest e = carried ComesLive steps [] before rest e live_next (λ v known q h. absurd (empty h.version h.member))

      -- a member that isn't one of them isn't started
      never_started : (before : List (RunStep X)) (s : RunStep X) (q : ℕ) → members ≤ q → IsPossible seen cmp members before s → starts q s ≡ true → ⊥
      never_started before (Took place now source versions frames) q past can e = false≢true e
      never_started before (Ticked place now) q past can e = false≢true e
      never_started before (Back place now) q past can e = false≢true e
      never_started before (Refused now) q past can e = false≢true e
      never_started before (Saved place) q past can e = false≢true e
      never_started before (Stopped place) q past can e = false≢true e
      never_started before (Started place now) q past can e = let is : place ≡ q = eqb-true place q e in let within : place < members = can.member in omega arith

      durable_each : ((q : ℕ) → q < members → IsDurable seen q steps) → (q : ℕ) → IsDurable seen q steps
      durable_each durable q = elim (cases_lt q members) [
        | inl within ↦ durable q within
        | inr past ↦ λ before s rest e starting. absurd (never_started before s q past (run before s rest e) starting)
      ]

      -- where members are durable, a run that is timely by what came is so by what they have
      pub came_timely : ((q : ℕ) → q < members → IsDurable seen q steps) → IsTimely seen spread flight members steps
      came_timely durable = record {
        onward = timely.onward;
        lasting = timely.lasting;
        swift = timely.swift;
        caught_up = λ before step rest e.
            some_map (HaveCome seen spread members (delivered_in steps) before) (IsSpread seen spread members (delivered_in steps) before) (moment step)
            (λ now have v known old q runs. caught before (step ∷ rest) e q v (comes_live before (step ∷ rest) e v known q (have v known old q runs)))
            (timely.have_come before step rest e);
      } where
        caught : (before rest : List (RunStep X)) → before ++ rest ≡ steps → (q : ℕ) (v : X) → HasComeLive seen q before v → HasCaughtUp seen (set_of (member_of members q before)) v
        caught before rest e q v h = record {
          version = h.version;
          member = durable_has members q before h.version (each_front (λ front s. starts q s ≡ true → IsSaved seen q front) before rest (subst (λ ss. IsDurable seen q ss) (sym e) (durable_each durable q))) h.live;
          same_key = h.same_key;
          not_below = h.not_below;
        }
