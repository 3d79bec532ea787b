-- The test of a durable member answers as the definition says.
use Rattle.std.proofs.Common.{◌≡◌, ◌↔◌, ◌⊎◌, inl, inr, ℕ, Bool, true, false, not, ◌&&◌, ◌||◌, eqb, List, [], ◌∷◌, ◌++◌, refl, sym, ap, ◌∙◌, subst, append_assoc, append-nil}
use Rattle.std.specs.List.{list_any}
use Rattle.std.proofs.lemmas.Bool.{and_from, and_parts, false≢true, ltb-true, lt-ltb, or_cases, or_left, or_right}
use Rattle.std.proofs.lemmas.List.Folds.{Any-from_list_any, list_any-append, list_any_at}
use Rattle.am_version_order.specs.Versions.{Version, is_live}
use Rattle.am_runs.specs.Steps.{RunStep, EachStep}
use Rattle.am_runs.specs.Steps.RunStep.{Took, Ticked, Back, Refused, Saved, Stopped, Started}
use Rattle.am_cluster.specs.Durable.{saves, starts}
use Rattle.am_runs.proofs.Cuts.{each_cons, each_nil, each_rest, each_weaker, never_empty}
use Rattle.am_cluster.specs.Durable.{BringsLive, IsDurable, IsSaved}
use Rattle.am_cluster.specs.DurableTests.{brings_live, durable_from, saved_after}

saved_of : (start saved : Bool) → not (start && not saved) ≡ true → start ≡ true → saved ≡ true
saved_of true true e starting = refl
saved_of true false e starting = absurd (false≢true e)
saved_of false saved e starting = absurd (false≢true starting)

of_saved : (start saved : Bool) → (start ≡ true → saved ≡ true) → not (start && not saved) ≡ true
of_saved true true h = refl
of_saved true false h = absurd (false≢true (h refl))
of_saved false saved h = refl

or_first : (a b : Bool) → b ≡ false → (a || (b || false)) ≡ true → a ≡ true
or_first true b unsaved e = refl
or_first false true unsaved e = absurd (false≢true (sym unsaved))
or_first false false unsaved e = e

-- a cut of a list with one more at its end: it is behind all, or it is one of the list
push_cut : {A : Type 0} (before : List A) (step : A) (rest past : List A) (s : A) → before ++ step ∷ rest ≡ past ++ s ∷ []
    → ((rest ≡ []) × (step ≡ s)) ⊎ ((less : List A) × (rest ≡ less ++ s ∷ []) × (before ++ step ∷ less ≡ past))
push_cut [] step rest [] s e = inl (cc, cc)
push_cut [] step rest (p ∷ past) s e = let first : step ≡ p = cc in inr (past, cc, ap (λ t. t ∷ past) first)
push_cut (b ∷ before) step rest [] s e = let none : before ++ step ∷ rest ≡ [] = cc in absurd (never_empty before step rest none)
push_cut (b ∷ before) step rest (p ∷ past) s e =
    let first : b ≡ p = cc in
    let others : before ++ step ∷ rest ≡ past ++ s ∷ [] = cc in
    elim (push_cut before step rest past s others) [
      | inl last ↦ inl last
      | inr one ↦ inr (one.0, one.1, ap (λ t. t ∷ (before ++ step ∷ one.0)) first ∙ ap (λ ss. p ∷ ss) one.2)
    ]

module _ {K X : Type 0} (seen : X → Version K) where
  to_brings : (q : ℕ) (s : RunStep X) (v : X) → BringsLive seen q s v → brings_live seen q s ≡ true
  to_brings q (Took place now source versions frames) v b =
      let live : X → Bool = λ w. is_live now (seen w) in
      and_from (eqb place q) (list_any live versions) b.0 (list_any_at live versions b.1.0 v b.1.1 (ap live b.1.2 ∙ lt-ltb now (seen v).expires b.2))
  to_brings q (Ticked place now) v b = absurd b
  to_brings q (Back place now) v b = absurd b
  to_brings q (Refused now) v b = absurd b
  to_brings q (Saved place) v b = absurd b
  to_brings q (Stopped place) v b = absurd b
  to_brings q (Started place now) v b = absurd b

  from_brings : (q : ℕ) (s : RunStep X) → brings_live seen q s ≡ true → (v : X) × BringsLive seen q s v
  from_brings q (Took place now source versions frames) e =
      let live : X → Bool = λ w. is_live now (seen w) in
      let both = and_parts (eqb place q) (list_any live versions) e in
      let one = Any-from_list_any live versions both.1 in
      (one.1, (both.0, (one.0, one.2, one.3), ltb-true now (seen one.1).expires one.4))
  from_brings q (Ticked place now) e = absurd (false≢true e)
  from_brings q (Back place now) e = absurd (false≢true e)
  from_brings q (Refused now) e = absurd (false≢true e)
  from_brings q (Saved place) e = absurd (false≢true e)
  from_brings q (Stopped place) e = absurd (false≢true e)
  from_brings q (Started place now) e = absurd (false≢true e)

  -- no save brings anything
  saves_nothing : (q : ℕ) (s : RunStep X) (v : X) → BringsLive seen q s v → saves q s ≡ true → ⊥
  saves_nothing q (Took place now source versions frames) v b e = false≢true e
  saves_nothing q (Ticked place now) v b e = b
  saves_nothing q (Back place now) v b e = b
  saves_nothing q (Refused now) v b e = b
  saves_nothing q (Saved place) v b e = b
  saves_nothing q (Stopped place) v b e = b
  saves_nothing q (Started place now) v b e = b

  module _ (q : ℕ) (saved : Bool) (past : List (RunStep X)) (told : (saved ≡ true) ↔ IsSaved seen q past) (s : RunStep X) where
    to_saved : saved_after seen q saved s ≡ true → IsSaved seen q (past ++ s ∷ [])
    to_saved e v coming = by (or_cases (saves q s) (saved && not (brings_live seen q s)) e) (push_cut coming.before coming.step coming.rest past s coming.parts) where
      last : (saves q s ≡ true) ⊎ ((saved && not (brings_live seen q s)) ≡ true) → coming.step ≡ s → ⊥
      last (inl saving) is = saves_nothing q s v (subst (λ t. BringsLive seen q t v) is coming.brings) saving
      last (inr old) is =
          let brings = to_brings q s v (subst (λ t. BringsLive seen q t v) is coming.brings) in
          false≢true (subst (λ b. not b ≡ true) brings (and_parts saved (not (brings_live seen q s)) old).1)

      by : (saves q s ≡ true) ⊎ ((saved && not (brings_live seen q s)) ≡ true)
          → ((coming.rest ≡ []) × (coming.step ≡ s)) ⊎ ((less : List (RunStep X)) × (coming.rest ≡ less ++ s ∷ []) × (coming.before ++ coming.step ∷ less ≡ past))
          → list_any (saves q) coming.rest ≡ true
      by either (inl end) = absurd (last either end.1)
      by (inl saving) (inr one) = ap (list_any (saves q)) one.1 ∙ (list_any-append (saves q) one.0 (s ∷ []) ∙ or_right (list_any (saves q) one.0) (saves q s || false) (or_left (saves q s) false saving))
      by (inr old) (inr one) =
          let before = told.0 (and_parts saved (not (brings_live seen q s)) old).0 v (record { before = coming.before; step = coming.step; rest = one.0; parts = one.2; brings = coming.brings }) in
          ap (list_any (saves q)) one.1 ∙ (list_any-append (saves q) one.0 (s ∷ []) ∙ or_left (list_any (saves q) one.0) (saves q s || false) before)

    from_saved : IsSaved seen q (past ++ s ∷ []) → saved_after seen q saved s ≡ true
    from_saved h = by (saves q s) refl where
      earlier : saves q s ≡ false → IsSaved seen q past
      earlier unsaved v coming =
          or_first (list_any (saves q) coming.rest) (saves q s) unsaved
          (sym (list_any-append (saves q) coming.rest (s ∷ []))
          ∙ h v (record {
            before = coming.before;
            step = coming.step;
            rest = coming.rest ++ s ∷ [];
            parts = sym (append_assoc coming.before (coming.step ∷ coming.rest) (s ∷ [])) ∙ ap (λ ss. ss ++ s ∷ []) coming.parts;
            brings = coming.brings;
          }))

      none : (b : Bool) → brings_live seen q s ≡ b → not b ≡ true
      none true e = let one = from_brings q s e in h one.0 (record { before = past; step = s; rest = []; parts = refl; brings = one.1 })
      none false e = refl

      by : (b : Bool) → saves q s ≡ b → saved_after seen q saved s ≡ true
      by true saving = or_left (saves q s) (saved && not (brings_live seen q s)) saving
      by false unsaved = or_right (saves q s) (saved && not (brings_live seen q s)) (and_from saved (not (brings_live seen q s)) (told.1 (earlier unsaved)) (none (brings_live seen q s) refl))

  told_from : (q : ℕ) (saved : Bool) (past steps : List (RunStep X)) → (saved ≡ true) ↔ IsSaved seen q past
      → (durable_from seen q saved steps ≡ true) ↔ EachStep steps (λ before step. starts q step ≡ true → IsSaved seen q (past ++ before))
  told_from q saved past [] told = (λ e. each_nil (λ before step. starts q step ≡ true → IsSaved seen q (past ++ before)), λ each. refl)
  told_from q saved past (s ∷ steps) told =
      let P : List (RunStep X) → RunStep X → Type 0 = λ before step. starts q step ≡ true → IsSaved seen q (past ++ before) in
      let Q : List (RunStep X) → RunStep X → Type 0 = λ before step. starts q step ≡ true → IsSaved seen q ((past ++ s ∷ []) ++ before) in
      let rest = told_from q (saved_after seen q saved s) (past ++ s ∷ []) steps (to_saved q saved past told s, from_saved q saved past told s) in (
        λ e.
            let both = and_parts (not (starts q s && not saved)) (durable_from seen q (saved_after seen q saved s) steps) e in
            each_cons P s steps (λ starting. subst (IsSaved seen q) (sym (append-nil past)) (told.0 (saved_of (starts q s) saved both.0 starting)))
            (each_weaker Q (λ before. P (s ∷ before)) steps (λ before step h starting. subst (IsSaved seen q) (append_assoc past (s ∷ []) before) (h starting)) (rest.0 both.1)),
        λ each.
            and_from (not (starts q s && not saved)) (durable_from seen q (saved_after seen q saved s) steps)
            (of_saved (starts q s) saved (λ starting. told.1 (subst (IsSaved seen q) (append-nil past) (each [] s steps refl starting))))
            (rest.1 (each_weaker (λ before. P (s ∷ before)) Q steps (λ before step h starting. subst (IsSaved seen q) (sym (append_assoc past (s ∷ []) before)) (h starting)) (each_rest P s steps each))),
      )

  pub durable_told : (q : ℕ) (steps : List (RunStep X)) → (durable_from seen q true steps ≡ true) ↔ IsDurable seen q steps
  durable_told q steps = told_from q true [] steps (λ e v coming. absurd (never_empty coming.before coming.step coming.rest coming.parts), λ h. refl)
