-- A property of each element of a list and those before it.
use Rattle.std.proofs.Common.{◌≡◌, ℕ, ◌<◌, ◌+◌, List, [], ◌∷◌, ◌++◌, suc, ◌≤◌, drop-cons, length-take-le, refl, sym, ap, ◌∙◌, subst, arith, map, take, drop, get_or, length, append_assoc, append-nil}
use Rattle.std.proofs.lemmas.List.{length-map, take_more, take_all, take-append-drop, map-append}
use Rattle.am_runs.specs.Steps.{EachStep, IsFirstWithout}

module _ {A : Type 0} where
  head_same : (x y : A) (xs ys : List A) → x ∷ xs ≡ y ∷ ys → x ≡ y
  head_same x y xs ys e = cc

  tail_same : (x y : A) (xs ys : List A) → x ∷ xs ≡ y ∷ ys → xs ≡ ys
  tail_same x y xs ys e = cc

  pub never_empty : (before : List A) (t : A) (rest : List A) → before ++ t ∷ rest ≡ [] → ⊥
  never_empty [] t rest e = cc
  never_empty (b ∷ before) t rest e = cc

  pub each_nil : (P : List A → A → Type 0) → EachStep [] P
  each_nil P before t rest e = absurd (never_empty before t rest e)

  -- of the first element, and of the rest with that before it
  pub each_cons : (P : List A → A → Type 0) (x : A) (xs : List A) → P [] x → EachStep xs (λ before. P (x ∷ before)) → EachStep (x ∷ xs) P
  each_cons P x xs here later [] t rest e = subst (P []) (sym (head_same t x rest xs e)) here
  each_cons P x xs here later (b ∷ before) t rest e =
      subst (λ y. P (y ∷ before) t) (sym (head_same b x (before ++ t ∷ rest) xs e)) (later before t rest (tail_same b x (before ++ t ∷ rest) xs e))

  pub each_rest : (P : List A → A → Type 0) (x : A) (xs : List A) → EachStep (x ∷ xs) P → EachStep xs (λ before. P (x ∷ before))
  each_rest P x xs each before t rest e = each (x ∷ before) t rest (ap (λ zs. x ∷ zs) e)

  -- of one list after another
  pub each_append : (P : List A → A → Type 0) (xs ys : List A) → EachStep xs P → EachStep ys (λ before. P (xs ++ before)) → EachStep (xs ++ ys) P
  each_append P [] ys front back = back
  each_append P (x ∷ xs) ys front back = each_cons P x (xs ++ ys) (front [] x xs refl) (each_append (λ bs. P (x ∷ bs)) xs ys (each_rest P x xs front) back)

  pub each_front : (P : List A → A → Type 0) (xs ys : List A) → EachStep (xs ++ ys) P → EachStep xs P
  each_front P xs ys each before t rest e = each before t (rest ++ ys) (sym (append_assoc before (t ∷ rest) ys) ∙ ap (λ zs. zs ++ ys) e)

  pub each_back : (P : List A → A → Type 0) (xs ys : List A) → EachStep (xs ++ ys) P → EachStep ys (λ before. P (xs ++ before))
  each_back P xs ys each before t rest e = each (xs ++ before) t rest (append_assoc xs before (t ∷ rest) ∙ ap (λ zs. xs ++ zs) e)

  pub each_one : (P : List A → A → Type 0) (x : A) → P [] x → EachStep (x ∷ []) P
  each_one P x here = each_cons P x [] here (each_nil (λ before. P (x ∷ before)))

  -- one more at the end
  pub each_push : (P : List A → A → Type 0) (xs : List A) (x : A) → EachStep xs P → P xs x → EachStep (xs ++ x ∷ []) P
  each_push P xs x each here = each_append P xs (x ∷ []) each (each_one (λ before. P (xs ++ before)) x (subst (λ ys. P ys x) (sym (append-nil xs)) here))

  pub each_last : (P : List A → A → Type 0) (xs : List A) (x : A) → EachStep (xs ++ x ∷ []) P → P xs x
  each_last P xs x each = each xs x [] refl

  pub each_weaker : (P Q : List A → A → Type 0) (xs : List A) → ((before : List A) (x : A) → P before x → Q before x) → EachStep xs P → EachStep xs Q
  each_weaker P Q xs weaker each before t rest e = weaker before t (each before t rest e)

  -- the cut at a place
  pub cut_at : (xs : List A) (n : ℕ) (x : A) → n < length xs → x ≡ get_or xs n x → take n xs ++ x ∷ drop (n + 1) xs ≡ xs
  cut_at xs n x within is =
      let next : n + 1 ≡ suc n = omega arith in
      ap (λ ys. take n xs ++ ys) (ap (λ y. y ∷ drop (n + 1) xs) is ∙ ap (λ m. get_or xs n x ∷ drop m xs) next ∙ sym (drop-cons xs n x within))
      ∙ take-append-drop n xs

  pub each_take_more : (P : List A → A → Type 0) (xs : List A) (n : ℕ) (x : A) → n < length xs → x ≡ get_or xs n x → EachStep (take n xs) P → P (take n xs) x → EachStep (take (n + 1) xs) P
  each_take_more P xs n x within is each here =
      let more : take (n + 1) xs ≡ take n xs ++ x ∷ [] = take_more xs n x within ∙ ap (λ y. take n xs ++ y ∷ []) (sym is) in
      subst (λ ys. EachStep ys P) (sym more) (each_push P (take n xs) x each here)

  pub first_at : (P : List A → A → Type 0) (xs : List A) (n : ℕ) (x : A) → n < length xs → x ≡ get_or xs n x → EachStep (take n xs) P → ¬ P (take n xs) x → IsFirstWithout xs P n
  first_at P xs n x within is each fails = record {
    before = take n xs;
    step = x;
    rest = drop (n + 1) xs;
    parts = cut_at xs n x within is;
    place = length-take-le n xs (omega arith);
    holds = each;
    fails = fails;
  }

  pub not_each : (P : List A → A → Type 0) (xs : List A) (n : ℕ) (x : A) → n < length xs → x ≡ get_or xs n x → ¬ P (take n xs) x → ¬ EachStep xs P
  not_each P xs n x within is fails each = fails (each (take n xs) x (drop (n + 1) xs) (cut_at xs n x within is))

  pub each_all : (P : List A → A → Type 0) (xs : List A) (n : ℕ) → length xs ≤ n → EachStep (take n xs) P → EachStep xs P
  each_all P xs n past each = subst (λ ys. EachStep ys P) (take_all n xs past) each

  -- what holds at first, and goes on from each element to the next, holds all along
  pub carried : (Q : List A → Type 0) (steps past more rest : List A) → past ++ (more ++ rest) ≡ steps → ((before : List A) (s : A) (after : List A) → before ++ s ∷ after ≡ steps → Q before → Q (before ++ s ∷ [])) → Q past → Q (past ++ more)
  carried Q steps past [] rest e next here = subst Q (sym (append-nil past)) here
  carried Q steps past (s ∷ more) rest e next here =
      subst Q (append_assoc past (s ∷ []) more)
      (carried Q steps (past ++ s ∷ []) more rest (append_assoc past (s ∷ []) (more ++ rest) ∙ e) next (next past s (more ++ rest) e here))

-- of a list of images
pub each_map : {A B : Type 0} (f : A → B) (P : List B → B → Type 0) (xs : List A) → EachStep xs (λ before x. P (map f before) (f x)) → EachStep (map f xs) P
each_map f P [] each = each_nil P
each_map f P (x ∷ xs) each = each_cons P (f x) (map f xs) (each [] x xs refl) (each_map f (λ bs. P (f x ∷ bs)) xs (each_rest (λ before y. P (map f before) (f y)) x xs each))

pub each_unmap : {A B : Type 0} (f : A → B) (P : List B → B → Type 0) (xs : List A) → EachStep (map f xs) P → EachStep xs (λ before x. P (map f before) (f x))
each_unmap f P xs each before x rest e = each (map f before) (f x) (map f rest) (sym (map-append f before (x ∷ rest)) ∙ ap (map f) e)

pub first_map : {A B : Type 0} (f : A → B) (P : List B → B → Type 0) (xs : List A) (n : ℕ) → IsFirstWithout xs (λ before x. P (map f before) (f x)) n → IsFirstWithout (map f xs) P n
first_map f P xs n first = record {
  before = map f first.before;
  step = f first.step;
  rest = map f first.rest;
  parts = sym (map-append f first.before (first.step ∷ first.rest)) ∙ ap (map f) first.parts;
  place = length-map first.before f ∙ first.place;
  holds = each_map f P first.before first.holds;
  fails = first.fails;
}

-- of two properties that are one where the first has held so far
pub first_same : {A : Type 0} (P Q : List A → A → Type 0) (xs : List A) (n : ℕ) → ((before : List A) (x : A) (rest : List A) → before ++ x ∷ rest ≡ xs → (EachStep before P → EachStep before Q) × (Q before x → P before x)) → IsFirstWithout xs P n → IsFirstWithout xs Q n
first_same P Q xs n same first =
    let both = same first.before first.step first.rest first.parts in
    record {
      before = first.before;
      step = first.step;
      rest = first.rest;
      parts = first.parts;
      place = first.place;
      holds = both.0 first.holds;
      fails = λ q. first.fails (both.1 q);
    }
