-- The held version of a key fits those that were taken: it is the greatest, or the greatest was collected and none of the key is live.
use Rattle.std.proofs.Common.{◌≡◌, ◌⊎◌, inl, inr, ℕ, ◌<◌, ◌≤◌, Bool, true, false, List, [], ◌∷◌, ◌++◌, Option, Some, None, refl, sym, ap, ◌∙◌, subst, arith}
use Rattle.std.specs.Prelude.{Contains}
use Rattle.std.proofs.lemmas.Bool.{cases_lt}
use Rattle.std.proofs.lemmas.List.Elements.{Contains-append_left, Contains-push}
use Rattle.am_version_order.specs.Versions.{Version, is_below}
use Rattle.am_version_order.proofs.Ranks.{below_past, tied-expires}
use Rattle.am_merge.specs.Maps.{greater_of, if_live}
use Rattle.am_collect.proofs.Greatest.{second_taken, first_kept, one_of, live_kept, dead_gone, live_from}

-- a collection came at this moment or later
pub record IsReached (collections : List ℕ) (moment : ℕ) : Type 0 where
  pub by : ℕ
  pub among : Contains collections by
  pub not_before : moment ≤ by

-- no collection came after this moment
abbrev pub IsUpTo : List ℕ → ℕ → Type 0
IsUpTo collections last = (moment : ℕ) → Contains collections moment → moment ≤ last

reached_upto : (collections : List ℕ) (moment last : ℕ) → IsReached collections moment → IsUpTo collections last → moment ≤ last
reached_upto collections moment last reached upto = let bound : reached.by ≤ last = upto reached.by reached.among in let past = reached.not_before in omega arith

module _ {K X : Type 0} (seen : X → Version K) where
  -- the greatest of a key was collected, and what is held of the key is neither live nor above it
  pub record IsGone (held best : Option X) (collections : List ℕ) (last : ℕ) : Type 0 where
    pub top : X
    pub is : best ≡ Some top
    pub reached : IsReached collections (seen top).expires
    pub dead : (x : X) → held ≡ Some x → (seen x).expires ≤ last
    pub within : (x : X) → held ≡ Some x → is_below (seen top) (seen x) ≡ false

  -- what is held of a key, the greatest taken of it, the collections so far, and the last moment
  abbrev pub Fits : Option X → Option X → List ℕ → ℕ → Type 0
  Fits held best collections last = (held ≡ best) ⊎ IsGone held best collections last

  pub fits_later : (held best : Option X) (collections : List ℕ) (last now : ℕ) → last ≤ now → Fits held best collections last → Fits held best collections now
  fits_later held best collections last now forward (inl same) = inl same
  fits_later held best collections last now forward (inr gone) = inr record {
    top = gone.top;
    is = gone.is;
    reached = gone.reached;
    dead = λ x e. let before : (seen x).expires ≤ last = gone.dead x e in omega arith;
    within = gone.within;
  }

  -- what is above the greatest of a key comes to be held
  over : (held : Option X) (top v : X) → ((x : X) → held ≡ Some x → is_below (seen top) (seen x) ≡ false) → is_below (seen top) (seen v) ≡ true → greater_of seen held (Some v) ≡ Some v
  over None top v within up = refl
  over (Some x) top v within up = second_taken seen x v (below_past (seen top) (seen x) (seen v) (within x refl) up)

  -- what comes after the greatest of its key was collected, and isn't above it, isn't live
  late : (top v : X) (collections : List ℕ) (now : ℕ) → IsUpTo collections now → IsReached collections (seen top).expires → (now < (seen v).expires → is_below (seen v) (seen top) ≡ true → ¬ IsReached collections (seen top).expires) → is_below (seen top) (seen v) ≡ false → (seen v).expires ≤ now
  late top v collections now upto reached calm not = by (cases_lt now (seen v).expires) (is_below (seen v) (seen top)) refl where
    by : (now < (seen v).expires) ⊎ ((seen v).expires ≤ now) → (b : Bool) → is_below (seen v) (seen top) ≡ b → (seen v).expires ≤ now
    by (inr dead) b e = dead
    by (inl live) true e = absurd (calm live e reached)
    by (inl live) false e = let same : (seen top).expires ≡ (seen v).expires = tied-expires (seen top) (seen v) not e in let bound : (seen top).expires ≤ now = reached_upto collections (seen top).expires now reached upto in omega arith

  -- a version of the key is taken
  pub fits_take : (held best : Option X) (collections : List ℕ) (last now : ℕ) (v : X) → last ≤ now → IsUpTo collections last → ((g : X) → best ≡ Some g → now < (seen v).expires → is_below (seen v) (seen g) ≡ true → ¬ IsReached collections (seen g).expires) → Fits held best collections last → Fits (greater_of seen held (Some v)) (greater_of seen best (Some v)) collections now
  fits_take held best collections last now v forward upto calm (inl same) = inl (ap (λ o. greater_of seen o (Some v)) same)
  fits_take held best collections last now v forward upto calm (inr gone) = by (is_below (seen gone.top) (seen v)) refl where
    upto_now : IsUpTo collections now
    upto_now moment c = let bound : moment ≤ last = upto moment c in omega arith

    by : (b : Bool) → is_below (seen gone.top) (seen v) ≡ b → Fits (greater_of seen held (Some v)) (greater_of seen best (Some v)) collections now
    by true up = inl (over held gone.top v gone.within up ∙ (sym (second_taken seen gone.top v up) ∙ ap (λ o. greater_of seen o (Some v)) (sym gone.is)))
    by false not =
        let dead_v : (seen v).expires ≤ now = late gone.top v collections now upto_now gone.reached (calm gone.top gone.is) not in
        inr record {
          top = gone.top;
          is = ap (λ o. greater_of seen o (Some v)) gone.is ∙ first_kept seen gone.top v not;
          reached = gone.reached;
          dead = λ x e. elim (one_of seen held (Some v) x e) [ inl old ↦ (let before : (seen x).expires ≤ last = gone.dead x old in omega arith) | inr new ↦ (let same : v ≡ x = cc in subst (λ y. (seen y).expires ≤ now) same dead_v) ];
          within = λ x e. elim (one_of seen held (Some v) x e) [ inl old ↦ gone.within x old | inr new ↦ (let same : v ≡ x = cc in subst (λ y. is_below (seen gone.top) (seen y) ≡ false) same not) ];
        }

  -- the map is swept
  pub fits_collect : (held best : Option X) (collections : List ℕ) (last now : ℕ) → last ≤ now → IsUpTo collections last → Fits held best collections last → Fits (if_live seen now held) best (collections ++ now ∷ []) now
  fits_collect held None collections last now forward upto (inl same) = inl (ap (if_live seen now) same)
  fits_collect held (Some g) collections last now forward upto (inl same) = by (cases_lt now (seen g).expires) where
    by : (now < (seen g).expires) ⊎ ((seen g).expires ≤ now) → Fits (if_live seen now held) (Some g) (collections ++ now ∷ []) now
    by (inl live) = inl (ap (if_live seen now) same ∙ live_kept seen now g live)
    by (inr dead) =
        let none : if_live seen now held ≡ None = ap (if_live seen now) same ∙ dead_gone seen now g dead in
        inr record {
          top = g;
          is = refl;
          reached = record { by = now; among = Contains-push collections now; not_before = dead };
          dead = λ x e. (let never : None ≡ Some x = sym none ∙ e in absurd cc);
          within = λ x e. (let never : None ≡ Some x = sym none ∙ e in absurd cc);
        }
  fits_collect held best collections last now forward upto (inr gone) = inr record {
    top = gone.top;
    is = gone.is;
    reached = record { by = gone.reached.by; among = Contains-append_left collections (now ∷ []) gone.reached.by gone.reached.among; not_before = gone.reached.not_before };
    dead = λ x e. (let from = live_from seen now held x e in let before : (seen x).expires ≤ last = gone.dead x from.0 in omega arith);
    within = λ x e. gone.within x (live_from seen now held x e).0;
  }

  -- what fits is in view where the greatest taken is
  pub fits_view : (held best : Option X) (collections : List ℕ) (last now : ℕ) → last ≤ now → IsUpTo collections last → Fits held best collections last → if_live seen now best ≡ if_live seen now held
  fits_view held best collections last now forward upto (inl same) = ap (if_live seen now) (sym same)
  fits_view held best collections last now forward upto (inr gone) =
      let bound : (seen gone.top).expires ≤ last = reached_upto collections (seen gone.top).expires last gone.reached upto in
      ap (if_live seen now) gone.is ∙ (dead_gone seen now gone.top (omega arith) ∙ sym (none held (λ x e. (let before : (seen x).expires ≤ last = gone.dead x e in omega arith)))) where
        none : (o : Option X) → ((x : X) → o ≡ Some x → (seen x).expires ≤ now) → if_live seen now o ≡ None
        none None dead = refl
        none (Some x) dead = dead_gone seen now x (dead x refl)
