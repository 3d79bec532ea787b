-- The first step with which a member isn't calm in both runs, from the first one of each.
use Rattle.std.proofs.Common.{◌≡◌, ◌⊎◌, inl, inr, ℕ, ◌<◌, ◌≤◌, List, ◌∷◌, ◌++◌, Option, Some, None, length, take, drop, min, ◌↔◌, sym, ap, ◌∙◌, subst, arith, length-append, length-take-le}
use Rattle.std.specs.Prelude.{MatchOption, IsTrue, false}
use Rattle.std.proofs.lemmas.Bool.{cases_lt, false≢true}
use Rattle.std.proofs.lemmas.List.{take-append-drop, take-append-le}
use Rattle.std.proofs.Math.Nat.{min-eq_left, min-eq_right}
use Rattle.std.proofs.Math.Seq.{take-append_seam}
use Rattle.am_silence.specs.Mesh.{Mesh, mesh_version}
use Rattle.am_nflog.specs.Mesh.{Mesh as LogMesh, mesh_version as entry_version}
use Rattle.am_runs.specs.Steps.{RunStep, EachStep, IsFirstWithout}
use Rattle.am_runs.specs.Runs.{IsCalmAt, IsCalmStep, IsFirstFault}
use Rattle.am_runs.proofs.Cuts.{each_front}
use Rattle.am_cluster.specs.Firsts.{earlier}
use Rattle.am_cluster.specs.Reports.{IsCalmInBoth, IsFirstUncalm}
use Rattle.am_cluster.specs.Twins.{AreTwins}
use Rattle.am_cluster.proofs.Twinned.{twin_length}

module _ {A : Type 0} (P : List A → A → Type 0) (steps : List A) where
  -- it holds of a front of what it holds of
  each_take : (n : ℕ) → EachStep steps P → EachStep (take n steps) P
  each_take n each = each_front P (take n steps) (drop n steps) (subst (λ all. EachStep all P) (sym (take-append-drop n steps)) each)

  -- of the steps before the first one of which it doesn't
  each_before : (n : ℕ) → IsFirstWithout steps P n → EachStep (take n steps) P
  each_before n first =
      let front : take n steps ≡ first.before = ap (λ k. take k steps) (sym first.place) ∙ (ap (λ all. take (length first.before) all) (sym first.parts) ∙ take-append_seam first.before (first.step ∷ first.rest)) in
      subst (λ all. EachStep all P) (sym front) first.holds

  first_within : (n : ℕ) → IsFirstWithout steps P n → n < length steps
  first_within n first =
      let whole : length (first.before ++ first.step ∷ first.rest) ≡ length steps = ap length first.parts in
      let parts = length-append first.before (first.step ∷ first.rest) in
      let place = first.place in
      omega (arith, whole, parts, place)

  first_not_each : (n : ℕ) → IsFirstWithout steps P n → EachStep steps P → ⊥
  first_not_each n first each = first.fails (each first.before first.step first.rest first.parts)

-- and of a front of a front
each_fewer : {A : Type 0} (P : List A → A → Type 0) (steps : List A) (m n : ℕ) → m ≤ n → n ≤ length steps → EachStep (take n steps) P → EachStep (take m steps) P
each_fewer P steps m n less within each =
    let long = length-take-le n steps within in
    let front : take m (take n steps) ≡ take m steps = sym (take-append-le m (take n steps) (drop n steps) (omega (arith, long))) ∙ ap (take m) (take-append-drop n steps) in
    subst (λ all. EachStep all P) front (each_take P (take n steps) m each)

module _ (members place : ℕ) (silences : List (RunStep Mesh)) (log : List (RunStep LogMesh)) where
  abbrev One : List (RunStep Mesh) → RunStep Mesh → Type 0
  One = IsCalmStep mesh_version members place

  abbrev Other : List (RunStep LogMesh) → RunStep LogMesh → Type 0
  Other = IsCalmStep entry_version members place

  lesser : (m n : ℕ) → (m ≤ n) ⊎ (n < m) → IsFirstFault mesh_version members place silences m → IsFirstFault entry_version members place log n → IsFirstUncalm members place silences log (min m n)
  lesser m n (inl first) one other =
      let within = first_within Other log n other in
      subst (IsFirstUncalm members place silences log) (sym (min-eq_left first))
      (record { calm_before = (each_before One silences m one, each_fewer Other log m n first (omega (arith, within)) (each_before Other log n other)); fails = inl one })
  lesser m n (inr later) one other =
      let within = first_within One silences m one in
      subst (IsFirstUncalm members place silences log) (sym (min-eq_right (omega arith)))
      (record { calm_before = (each_fewer One silences n m (omega arith) (omega (arith, within)) (each_before One silences m one), each_before Other log n other); fails = inr other })

  which : (m n : ℕ) → (m ≤ n) ⊎ (n < m)
  which m n = elim (cases_lt n m) [ inl later ↦ inr later | inr first ↦ inl first ]

  abbrev pub Told : Option ℕ → Type 0
  Told found = MatchOption found (IsCalmInBoth members place silences log) (IsFirstUncalm members place silences log)

  -- the lesser one of the first faults of both is the first step with which it isn't calm in both
  pub earlier_told : (first second : Option ℕ) → MatchOption first (IsCalmAt mesh_version members place silences) (IsFirstFault mesh_version members place silences) → MatchOption second (IsCalmAt entry_version members place log) (IsFirstFault entry_version members place log) → Told (earlier first second)
  earlier_told None None calm same = (calm, same)
  earlier_told None (Some n) calm other = record { calm_before = (each_take One silences n calm, each_before Other log n other); fails = inr other }
  earlier_told (Some m) None one calm = record { calm_before = (each_before One silences m one, each_take Other log m calm); fails = inl one }
  earlier_told (Some m) (Some n) one other = lesser m n (which m n) one other

  -- it is a step of both
  pub uncalm_within : AreTwins silences log → (n : ℕ) → IsFirstUncalm members place silences log n → n < length silences
  uncalm_within are n first = by first.fails where
    by : IsFirstFault mesh_version members place silences n ⊎ IsFirstFault entry_version members place log n → n < length silences
    by (inl one) = first_within One silences n one
    by (inr other) = subst (λ k. n < k) (sym (twin_length silences log are)) (first_within Other log n other)

  -- and the member isn't calm
  pub uncalm_not : (n : ℕ) → IsFirstUncalm members place silences log n → IsTrue false ↔ IsCalmInBoth members place silences log
  uncalm_not n first = (λ t. absurd (false≢true t), λ calm. absurd (by calm first.fails)) where
    by : IsCalmInBoth members place silences log → IsFirstFault mesh_version members place silences n ⊎ IsFirstFault entry_version members place log n → ⊥
    by calm (inl one) = first_not_each One silences n one calm.0
    by calm (inr other) = first_not_each Other log n other calm.1

  -- what was found, where the second run has as many members
  pub found_told : (others : ℕ) → members ≡ others → (first second found : Option ℕ) → MatchOption first (IsCalmAt mesh_version members place silences) (IsFirstFault mesh_version members place silences) → MatchOption second (IsCalmAt entry_version others place log) (IsFirstFault entry_version others place log) → found ≡ earlier first second → (is : Option ℕ) → found ≡ is → Told is
  found_told others same first second found one other earliest is what =
      subst Told (sym earliest ∙ what) (earlier_told first second one (subst (λ k. MatchOption second (IsCalmAt entry_version k place log) (IsFirstFault entry_version k place log)) (sym same) other))
