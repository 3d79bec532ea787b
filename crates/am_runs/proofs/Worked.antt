-- The worked runs, computed.
use Rattle.std.proofs.Common.{◌≡◌, ℕ, ◌+◌, ◌<◌, ◌≤◌, zero, suc, true, false, List, [], ◌∷◌, ◌++◌, ◌⊎◌, Some, None, refl, sym, subst, arith, inl, inr, lit<, lit≤}
use Rattle.std.specs.Prelude.{All, Contains}
use Rattle.std.specs.declared.cmp.Ordering.TheVariants.{Equal}
use Rattle.std.specs.Ordering.{nat_cmp}
use Rattle.std.specs.Cmp.{ranked}
use Rattle.std.proofs.lemmas.Cmp.{nat_cmp_total}
use Rattle.std.proofs.lemmas.List.Elements.{All-cons, All-head, All-nil, Contains-append_left, Contains-push}
use Rattle.am_version_order.specs.Versions.{Version, is_below}
use Rattle.am_version_order.proofs.Ranks.{below_itself}
use Rattle.am_merge.specs.Maps.{if_live}
use Rattle.am_merge.proofs.Keys.{IsKeyOrder, key_order}
use Rattle.am_collect.specs.Events.MapEvent.{Delivered, Collected, Passed}
use Rattle.am_runs.specs.declared.step.DeliverySource.TheVariants.{Made, Written, Arrived}
use Rattle.am_runs.specs.Steps.{RunStep}
use Rattle.am_runs.specs.Steps.RunStep.{Took, Ticked, Stopped, Started}
use Rattle.am_runs.specs.Members.{member_of, map_of, passes}
use Rattle.am_runs.specs.Runs.{IsRun, IsSent, IsCalmAt, changed}
use Rattle.am_runs.specs.Timely.{IsTimely}
use Rattle.am_runs.specs.Tests.{ComesToAll, comes}
use Rattle.am_runs.specs.Examples.{version, greater, lesser, forgotten, spreading, restarted, behind, passing, late}
use Rattle.am_runs.proofs.Cuts.{each_cons, each_nil}
use Rattle.am_runs.proofs.Spreads.{timely_from}
use Rattle.am_runs.proofs.Views.{empty, one_same}

keys : IsKeyOrder nat_cmp
keys = key_order nat_cmp_total (λ j k e. ranked j k Equal (sym e))

-- what a step at a moment may be, where what it asks computes
written : (sent updated expires : ℕ) → sent ≤ updated → All (λ v. sent ≤ v.updated) (version updated expires ∷ [])
written sent updated expires le = All-cons (λ v. sent ≤ v.updated) (version updated expires) [] le (All-nil (λ v. sent ≤ v.updated))

pub forgotten_is_run : IsRun (λ v. v) nat_cmp 2 forgotten
forgotten_is_run =
    each_cons _ _ _ (record { acts = record { runs = refl; forward = lit≤ tt }; from = written 6 6 10 (lit≤ tt); sent = All-nil _ })
    (each_cons _ _ _ (record { runs = refl; forward = lit≤ tt })
    (each_cons _ _ _ (record { acts = record { runs = refl; forward = lit≤ tt }; from = written 3 3 100 (lit≤ tt); sent = All-nil _ })
    (each_cons _ _ _ (record { acts = record { runs = refl; forward = lit≤ tt }; from = written 3 3 100 (lit≤ tt); sent = All-nil _ })
    (each_cons _ _ _ (record { acts = record { runs = refl; forward = lit≤ tt }; from = written 6 6 10 (lit≤ tt); sent = All-nil _ })
    (each_cons _ _ _ (record { runs = refl; forward = lit≤ tt })
    (each_nil _))))))

pub forgotten_shows : if_live (λ v. v) 22 (map_of (λ v. v) nat_cmp (member_of 2 0 forgotten).past 0) ≡ Some lesser
unfolding is_below
forgotten_shows = refl

pub remembered_shows : if_live (λ v. v) 22 (map_of (λ v. v) nat_cmp (member_of 2 1 forgotten).past 0) ≡ None
unfolding is_below
remembered_shows = refl

pub forgotten_uncalm : ¬ IsCalmAt (λ v. v) 2 0 forgotten
unfolding is_below
forgotten_uncalm calm =
    let step = calm (Took 0 7 (Written 6) (greater ∷ []) [] ∷ (Ticked 0 12 ∷ [])) (Took 0 20 (Written 3) (lesser ∷ []) []) _ refl in
    let event = step.past ((Passed, 7) ∷ ((Delivered greater, 7) ∷ ((Collected, 12) ∷ ((Passed, 20) ∷ [])))) (Delivered lesser, 20) [] refl in
    let before : 12 < 10 = All-head (λ m. m < 10) 12 [] (event.in_time (lit< tt) greater (record {
      best = record { member = Contains-push [] greater; unbeaten = λ w c same. subst (λ y. is_below greater y ≡ false) (one_same greater w c) (below_itself greater) };
      same_key = refl;
      above = refl;
    })) in
    omega arith

pub restarted_is_run : IsRun (λ v. v) nat_cmp 2 restarted
restarted_is_run =
    each_cons _ _ _ (record { acts = record { runs = refl; forward = lit≤ tt }; from = written 10 10 200 (lit≤ tt); sent = All-nil _ })
    (each_cons _ _ _ (record { acts = record { runs = refl; forward = lit≤ tt }; from = written 10 10 200 (lit≤ tt); sent = All-nil _ })
    (each_cons _ _ _ refl
    (each_cons _ _ _ (record { member = lit< tt; stopped = refl; forward = lit≤ tt })
    (each_nil _))))

abbrev Lasting : Version ℕ → Type 0
Lasting v = (v.updated + 5) + 5 ≤ v.expires

single : {A : Type 0} (P : A → Type 0) (x : A) → P x → All P (x ∷ [])
single P x is = All-cons P x [] is (All-nil P)

-- a frame of one version, after these steps of two members
abbrev Possible : List (RunStep (Version ℕ)) → ℕ → ℕ → List (Version ℕ) → Version ℕ → Type 0
Possible before place now versions v =
    Contains (changed (λ w. w) nat_cmp now (map_of (λ w. w) nat_cmp (member_of 2 place before).past) versions) v
    ⊎ (map_of (λ w. w) nat_cmp ((member_of 2 place before).past ++ passes now versions) v.key ≡ Some v)

sent_one : (before : List (RunStep (Version ℕ))) (place now : ℕ) (versions : List (Version ℕ)) (v : Version ℕ) → Possible before place now versions v → All (IsSent (λ w. w) nat_cmp 2 before place now versions) ((v ∷ []) ∷ [])
sent_one before place now versions v is = single (IsSent (λ w. w) nat_cmp 2 before place now versions) (v ∷ []) (single (Possible before place now versions) v is)

-- of two members, the first and the second
abbrev comes_to_two : List (RunStep (Version ℕ)) → Version ℕ → Type 0
comes_to_two steps v = (comes (λ w. w) nat_cmp 5 0 v (record { runs = true; has = false; saved = false }) steps ≡ true) × (comes (λ w. w) nat_cmp 5 1 v (record { runs = true; has = false; saved = false }) steps ≡ true)

to_both : (steps : List (RunStep (Version ℕ))) (v : Version ℕ) → comes_to_two steps v → ComesToAll (λ w. w) nat_cmp 5 2 steps v
to_both steps v both zero within = both.0
to_both steps v both (suc zero) within = both.1
to_both steps v both (suc (suc q)) within = absurd (omega arith)

restarted_comes : comes_to_two restarted spreading
unfolding is_below
restarted_comes = (refl, refl)

pub restarted_timely : IsTimely (λ v. v) 5 5 2 restarted
restarted_timely =
    timely_from (λ v. v) nat_cmp keys 5 5 2 restarted restarted_is_run refl
    (All-cons Lasting spreading (spreading ∷ []) (lit≤ tt) (All-cons Lasting spreading [] (lit≤ tt) (All-nil Lasting)))
    refl
    (All-cons (ComesToAll (λ w. w) nat_cmp 5 2 restarted) spreading (spreading ∷ []) (to_both restarted spreading restarted_comes)
    (All-cons (ComesToAll (λ w. w) nat_cmp 5 2 restarted) spreading [] (to_both restarted spreading restarted_comes) (All-nil (ComesToAll (λ w. w) nat_cmp 5 2 restarted))))

there : (x : Version ℕ) (xs : List (Version ℕ)) → Contains (x ∷ xs) x
there x xs = Contains-append_left (x ∷ []) xs x (Contains-push [] x)

pub behind_untimely : ¬ IsTimely (λ v. v) 5 5 2 behind
behind_untimely timely =
    let h = timely.caught_up (Took 0 10 (Written 10) (spreading ∷ []) [] ∷ (Took 1 10 (Written 10) (spreading ∷ []) [] ∷ (Stopped 0 ∷ (Started 0 11 ∷ [])))) (Took 0 15 Made [] []) [] refl spreading (there spreading (spreading ∷ [])) (lit≤ tt) 0 refl in
    empty h.version h.member

late_is_run : IsRun (λ v. v) nat_cmp 2 late
unfolding is_below
late_is_run =
    each_cons _ _ _ (record { acts = record { runs = refl; forward = lit≤ tt }; from = single (λ v. v.updated ≡ 10) passing refl; sent = sent_one [] 0 10 (passing ∷ []) passing (inl (Contains-push [] passing)) })
    (each_cons _ _ _ (record { acts = record { runs = refl; forward = lit≤ tt }; from = single (Contains (passing ∷ [])) passing (Contains-push [] passing); sent = All-nil _ })
    (each_cons _ _ _ (record { acts = record { runs = refl; forward = lit≤ tt }; from = All-nil _; sent = sent_one (Took 0 10 Made (passing ∷ []) ((passing ∷ []) ∷ []) ∷ (Took 1 12 (Arrived 0) (passing ∷ []) [] ∷ [])) 0 25 [] passing (inr refl) })
    (each_cons _ _ _ (record { acts = record { runs = refl; forward = lit≤ tt }; from = single (Contains (passing ∷ [])) passing (Contains-push [] passing); sent = All-nil _ })
    (each_nil _))))

late_comes : comes_to_two late passing
unfolding is_below
late_comes = (refl, refl)

pub late_timely : IsRun (λ v. v) nat_cmp 2 late × IsTimely (λ v. v) 5 5 2 late
late_timely = (
  late_is_run,
  timely_from (λ v. v) nat_cmp keys 5 5 2 late late_is_run refl
      (All-cons Lasting passing (passing ∷ (passing ∷ [])) (lit≤ tt) (All-cons Lasting passing (passing ∷ []) (lit≤ tt) (All-cons Lasting passing [] (lit≤ tt) (All-nil Lasting))))
      refl
      (All-cons (ComesToAll (λ w. w) nat_cmp 5 2 late) passing (passing ∷ (passing ∷ [])) (to_both late passing late_comes)
      (All-cons (ComesToAll (λ w. w) nat_cmp 5 2 late) passing (passing ∷ []) (to_both late passing late_comes)
      (All-cons (ComesToAll (λ w. w) nat_cmp 5 2 late) passing [] (to_both late passing late_comes) (All-nil (ComesToAll (λ w. w) nat_cmp 5 2 late))))),
)
