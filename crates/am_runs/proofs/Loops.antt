-- The elements that a loop over steps has seen so far.
use Rattle.std.proofs.Common.{◌≡◌, ℕ, ◌<◌, ◌≤◌, ◌+◌, List, [], ◌∷◌, ◌++◌, sym, ap, ◌∙◌, subst, map, take, drop, get_or, length}
use Rattle.std.specs.Prelude.{All, Contains}
use Rattle.std.proofs.lemmas.Grind.{flat_map-append}
use Rattle.std.proofs.lemmas.List.{take_more, take_all, map-append}
use Rattle.std.proofs.lemmas.List.Elements.{All-append, All-contains, All-contains_itself, All-push, All-weaker, Contains-append_left, Contains-append_right}
use Rattle.am_runs.specs.Steps.{RunStep, delivered_by, delivered_in}
use Rattle.am_runs.proofs.Cuts.{cut_at}
use Rattle.am_runs.proofs.Pasts.{delivered_in-push}

module _ {X : Type 0} (P : X → Type 0) where
  pub all_from : (xs : List X) → ((x : X) → Contains xs x → P x) → All P xs
  all_from xs each = All-weaker (Contains xs) P each xs (All-contains_itself xs)

  pub all_left : (xs ys : List X) → All P (xs ++ ys) → All P xs
  all_left xs ys all = all_from xs (λ x c. All-contains P (xs ++ ys) x all (Contains-append_left xs ys x c))

  pub all_right : (xs ys : List X) → All P (xs ++ ys) → All P ys
  all_right xs ys all = all_from ys (λ x c. All-contains P (xs ++ ys) x all (Contains-append_right xs ys x c))

  pub all_more : (xs : List X) (n : ℕ) (x : X) → n < length xs → x ≡ get_or xs n x → All P (take n xs) → P x → All P (take (n + 1) xs)
  all_more xs n x within is all here =
      let more : take (n + 1) xs ≡ take n xs ++ x ∷ [] = take_more xs n x within ∙ ap (λ y. take n xs ++ y ∷ []) (sym is) in
      subst (All P) (sym more) (All-push P (take n xs) x all here)

-- of what steps delivered, where the steps are images
module _ {A X : Type 0} (f : A → RunStep X) (P : X → Type 0) where
  pub delivered_more : (steps : List A) (n : ℕ) (s : A) → n < length steps → s ≡ get_or steps n s → All P (delivered_in (map f (take n steps))) → All P (delivered_by (f s)) → All P (delivered_in (map f (take (n + 1) steps)))
  delivered_more steps n s within is all here =
      let more : take (n + 1) steps ≡ take n steps ++ s ∷ [] = take_more steps n s within ∙ ap (λ y. take n steps ++ y ∷ []) (sym is) in
      let seen : delivered_in (map f (take (n + 1) steps)) ≡ delivered_in (map f (take n steps)) ++ delivered_by (f s) =
      ap (λ ss. delivered_in (map f ss)) more ∙ (ap delivered_in (map-append f (take n steps) (s ∷ [])) ∙ delivered_in-push (map f (take n steps)) (f s)) in
      subst (All P) (sym seen) (All-append P (delivered_in (map f (take n steps))) (delivered_by (f s)) all here)

  pub delivered_one : (steps : List A) (n : ℕ) (s : A) → n < length steps → s ≡ get_or steps n s → All P (delivered_in (map f steps)) → All P (delivered_by (f s))
  delivered_one steps n s within is all =
      let cut : map f steps ≡ map f (take n steps) ++ f s ∷ map f (drop (n + 1) steps) = ap (map f) (sym (cut_at steps n s within is)) ∙ map-append f (take n steps) (s ∷ drop (n + 1) steps) in
      let seen : delivered_in (map f steps) ≡ delivered_in (map f (take n steps)) ++ (delivered_by (f s) ++ delivered_in (map f (drop (n + 1) steps))) =
      ap delivered_in cut ∙ flat_map-append delivered_by (map f (take n steps)) (f s ∷ map f (drop (n + 1) steps)) in
      all_left P (delivered_by (f s)) (delivered_in (map f (drop (n + 1) steps)))
      (all_right P (delivered_in (map f (take n steps))) (delivered_by (f s) ++ delivered_in (map f (drop (n + 1) steps))) (subst (All P) seen all))

  pub delivered_done : (steps : List A) (n : ℕ) → length steps ≤ n → All P (delivered_in (map f (take n steps))) → All P (delivered_in (map f steps))
  delivered_done steps n past all = subst (λ ss. All P (delivered_in (map f ss))) (take_all n steps past) all
