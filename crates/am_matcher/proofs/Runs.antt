-- A front that passes a test, all of it.
use Rattle.std.proofs.Common.{◌≡◌, ℕ, ◌+◌, ◌-◌, ◌≤◌, Bool, true, false, cond, ◌&&◌, List, [], ◌∷◌, ◌++◌, length, take, drop, reverse, refl, sym, ap, ap₂, ◌∙◌, subst, arith, true≢false, length-drop}
use Rattle.std.specs.List.{list_all, take_while, prefix_len}
use Rattle.std.proofs.lemmas.List.{take-append-drop, reverse-append, reverse-reverse, length-reverse}
use Rattle.std.proofs.lemmas.List.Folds.{length-prefix_len, list_all-append}
use Rattle.std.proofs.lemmas.List.Sums.{prefix_len-le-length}
use Rattle.std.proofs.lemmas.Grind.{common_steps}
use Rattle.std.proofs.Math.Seq.{take-append_seam, drop-append_seam}
use Rattle.am_matcher.specs.Filters.{begins_with, IsRun}

-- ---- the front is there
take-one : (n : ℕ) (x : ℕ) (xs : List ℕ) → take (1 + n) (x ∷ xs) ≡ x ∷ take n xs
take-one n x xs = grind (arith, common_steps)

drop-one : (n : ℕ) (x : ℕ) (xs : List ℕ) → drop (1 + n) (x ∷ xs) ≡ drop n xs
drop-one n x xs = grind (arith, common_steps)

one_passes : (test : ℕ → Bool) (x : ℕ) (xs : List ℕ) (n : ℕ) (b : Bool) → test x ≡ b → list_all test (take n xs) ≡ true → list_all test (take (cond b (1 + n) 0) (x ∷ xs)) ≡ true
one_passes test x xs n true e more = rw take-one (ap₂ (λ (a b : Bool). a && b) e more)
one_passes test x xs n false e more = refl

front_passes : (test : ℕ → Bool) (xs : List ℕ) → list_all test (take (prefix_len test xs) xs) ≡ true
front_passes test [] = refl
front_passes test (x ∷ xs) = one_passes test x xs _ (test x) refl (front_passes test xs)

one_stops : (test : ℕ → Bool) (x : ℕ) (xs : List ℕ) (n : ℕ) (b : Bool) → test x ≡ b → begins_with test (drop n xs) ≡ false → begins_with test (drop (cond b (1 + n) 0) (x ∷ xs)) ≡ false
one_stops test x xs n true e more = rw drop-one more
one_stops test x xs n false e more = e

rest_stops : (test : ℕ → Bool) (xs : List ℕ) → begins_with test (drop (prefix_len test xs) xs) ≡ false
rest_stops test [] = refl
rest_stops test (x ∷ xs) = one_stops test x xs _ (test x) refl (rest_stops test xs)

pub run_of : (test : ℕ → Bool) (xs : List ℕ) (n : ℕ) → n ≡ length (take_while test xs) → IsRun test xs (take n xs) (drop n xs)
run_of test xs n is =
    let long : prefix_len test xs ≡ n = sym (length-prefix_len test xs) ∙ sym is in
    record {
      joined = sym (take-append-drop n xs);
      pass = subst (λ (k : ℕ). list_all test (take k xs) ≡ true) long (front_passes test xs);
      stops = subst (λ (k : ℕ). begins_with test (drop k xs) ≡ false) long (rest_stops test xs);
    }

-- ---- it is there once
all_first : (a b : Bool) → (a && b) ≡ true → a ≡ true
all_first true b e = refl
all_first false b e = e

all_rest : (a b : Bool) → (a && b) ≡ true → b ≡ true
all_rest true b e = e
all_rest false b e = absurd (true≢false (sym e))

cons_first : (x y : ℕ) (xs ys : List ℕ) → x ∷ xs ≡ y ∷ ys → x ≡ y
cons_first x y xs ys e = cc

cons_rest : (x y : ℕ) (xs ys : List ℕ) → x ∷ xs ≡ y ∷ ys → xs ≡ ys
cons_rest x y xs ys e = cc

fronts : (test : ℕ → Bool) (a b r s : List ℕ) → a ++ r ≡ b ++ s → list_all test a ≡ true → list_all test b ≡ true → begins_with test r ≡ false → begins_with test s ≡ false → (a ≡ b) × (r ≡ s)
fronts test [] [] r s e pa pb sr ss = (refl, e)
fronts test [] (y ∷ b) r s e pa pb sr ss = absurd (true≢false (sym (all_first _ _ pb) ∙ sym (ap (begins_with test) e) ∙ sr))
fronts test (x ∷ a) [] r s e pa pb sr ss = absurd (true≢false (sym (all_first _ _ pa) ∙ ap (begins_with test) e ∙ ss))
fronts test (x ∷ a) (y ∷ b) r s e pa pb sr ss =
    let more = fronts test a b r s (cons_rest x y _ _ e) (all_rest _ _ pa) (all_rest _ _ pb) sr ss in
    (ap₂ (λ (z : ℕ) (zs : List ℕ). z ∷ zs) (cons_first x y _ _ e) more.0, more.1)

pub same_run : (test : ℕ → Bool) (text other a b r s : List ℕ) → text ≡ other → IsRun test text a r → IsRun test other b s → (a ≡ b) × (r ≡ s)
same_run test text other a b r s e p q = fronts test a b r s (sym p.joined ∙ e ∙ q.joined) p.pass q.pass p.stops q.stops

-- ---- at the end
all_reverse : (test : ℕ → Bool) (xs : List ℕ) → list_all test xs ≡ true → list_all test (reverse xs) ≡ true
all_reverse test [] p = refl
all_reverse test (x ∷ xs) p =
    let ends : reverse (x ∷ xs) ≡ reverse xs ++ x ∷ [] = reverse-append (x ∷ []) xs in
    let one : list_all test (x ∷ []) ≡ true = ap (λ (b : Bool). b && true) (all_first _ _ p) in
    ap (list_all test) ends ∙ list_all-append test (reverse xs) (x ∷ []) ∙ ap₂ (λ (a b : Bool). a && b) (all_reverse test xs (all_rest _ _ p)) one

-- what is left once a run is cut off at the end
pub run_at_end : (test : ℕ → Bool) (xs : List ℕ) (k : ℕ) → k ≡ length (take_while test (reverse xs)) → IsRun test (reverse xs) (reverse (drop (length xs - k) xs)) (reverse (take (length xs - k) xs))
run_at_end test xs k is =
    let run = run_of test (reverse xs) k is in
    let least : k ≤ length xs =
    omega (arith, is, length-prefix_len test (reverse xs), prefix_len-le-length test (reverse xs), length-reverse xs) in
    let back = reverse (drop (length xs - k) xs) in
    let front = reverse (take (length xs - k) xs) in
    let parts : reverse xs ≡ back ++ front =
    ap reverse (sym (take-append-drop (length xs - k) xs)) ∙ reverse-append (take (length xs - k) xs) (drop (length xs - k) xs) in
    let long : length back ≡ k = length-reverse (drop (length xs - k) xs) ∙ omega (arith, length-drop (length xs - k) xs) in
    let at_front : take k (reverse xs) ≡ back = ap (take k) parts ∙ ap (λ (n : ℕ). take n (back ++ front)) (sym long) ∙ take-append_seam back front in
    let at_back : drop k (reverse xs) ≡ front = ap (drop k) parts ∙ ap (λ (n : ℕ). drop n (back ++ front)) (sym long) ∙ drop-append_seam back front in
    record {
      joined = parts;
      pass = subst (λ (l : List ℕ). list_all test l ≡ true) at_front run.pass;
      stops = subst (λ (l : List ℕ). begins_with test l ≡ false) at_back run.stops;
    }

-- the two ways to say that a run is cut off at the end
pub cut_of_run : (test : ℕ → Bool) (xs front behind : List ℕ) → IsRun test (reverse xs) behind (reverse front) → (xs ≡ front ++ reverse behind) × (list_all test (reverse behind) ≡ true)
cut_of_run test xs front behind run = (
  sym (reverse-reverse xs) ∙ ap reverse run.joined ∙ reverse-append behind (reverse front) ∙ ap (λ (l : List ℕ). l ++ reverse behind) (reverse-reverse front),
  all_reverse test behind run.pass,
)

pub run_of_cut : (test : ℕ → Bool) (front behind : List ℕ) → list_all test behind ≡ true → begins_with test (reverse front) ≡ false → IsRun test (reverse (front ++ behind)) (reverse behind) (reverse front)
run_of_cut test front behind pass stops = record { joined = reverse-append front behind; pass = all_reverse test behind pass; stops = stops }
