-- Entries of a cache.
use Rattle.std.proofs.Common.{◌≡◌, ℕ, ◌+◌, ◌^◌, ◌-◌, ◌<◌, ◌≤◌, Bool, true, false, not, true≢false, List, [], ◌∷◌, ◌++◌, length, take, drop, get_or, filter, Result, Ok, Err, All, Contains, min, sum_by, refl, sym, ap, ◌∙◌, subst, arith}
use Rattle.std.specs.Prelude.{IfOk, IfErr, insert}
use Rattle.std.specs.List.{HoldsAt}
use Rattle.std.specs.List.Sorted.{IsSearchInRange, IsBinarySearchResult}
use Rattle.std.specs.Ordering.{nat_cmp}
use Rattle.std.specs.Cmp.Lexicographic.{slice_cmp}
use Rattle.std.proofs.Math.Seq.{take-length}
use Rattle.std.proofs.lemmas.List.{get_or-map, length-map, take-append-drop}
use Rattle.std.proofs.lemmas.List.Elements.{All-map, All-filter, All-append, All-cons, All-take, All-drop, filter_passes, Contains-get_or, Contains-append_left, Contains-append_right}
use Rattle.std.proofs.lemmas.List.Filters.{sum_by-filter_both}
use Rattle.std.proofs.lemmas.List.Sums.{sum_by-cons, sum_by-insert, sum_by_more, sum_by_more_le}
use Rattle.std.proofs.lemmas.Map.Lookups.{exact_bytes}
use Rattle.am_matcher.specs.Sizes.{CompiledPattern, long_steps, long_steps_of_all, size_of, size_of_all}
use Rattle.am_matcher.specs.Uses.{TextsPass}
use Rattle.am_matcher.specs.Entries.{patterns_in, entry_size, entry_steps, MarkedPass}
use Rattle.am_matcher.specs.declared.entries.CacheEntry.{CacheEntry}
use Rattle.am_matcher.proofs.Members.{Contains-map, Contains-later}

-- ---- where a search ends

pub record IsPlace (text : List ℕ) (entries : List CacheEntry) (r : Result ℕ ℕ) : Type 0 where
  pub found : IfOk r (HoldsAt (λ e. e.kept.text ≡ text) entries)
  pub inside : IfOk r (λ place. place < length entries)
  pub within : IfErr r (λ place. place ≤ length entries)

pub searched : (text : List ℕ) (entries : List CacheEntry) (r : Result ℕ ℕ) → IsSearchInRange r (length entries) → IsBinarySearchResult (λ e. slice_cmp nat_cmp e.kept.text text) entries r → IsPlace text entries r
searched text entries (Ok i) range tie = record { found = λ d. exact_bytes (get_or entries i d).kept.text text (tie d); inside = range; within = tt }
searched text entries (Err i) range parted = record { found = tt; inside = tt; within = range }

-- ---- the patterns of entries

pub texts_of : (test : List ℕ → Bool) (entries : List CacheEntry) → All (λ e. test e.kept.text ≡ true) entries → TextsPass test (patterns_in entries)
texts_of test entries pass = All-map (λ p. test p.text ≡ true) (λ e. e.kept) entries pass

pub entries_of : (test : List ℕ → Bool) (entries : List CacheEntry) → TextsPass test (patterns_in entries) → All (λ e. test e.kept.text ≡ true) entries
entries_of test entries pass = λ k d within.
    let inside : k < length (patterns_in entries) = omega (arith, length-map entries (λ (e : CacheEntry). e.kept)) in
    subst (λ (p : CompiledPattern). test p.text ≡ true) (get_or-map (λ (e : CacheEntry). e.kept) entries k d d.kept within) (pass k d.kept inside)

-- one entry more
pub texts_put : (test : List ℕ → Bool) (entries : List CacheEntry) (i : ℕ) (e : CacheEntry) → test e.kept.text ≡ true → TextsPass test (patterns_in entries) → TextsPass test (patterns_in (insert entries i e))
texts_put test entries i e passes pass =
    let P : CacheEntry → Type 0 = λ x. test x.kept.text ≡ true in
    let old = entries_of test entries pass in
    texts_of test (insert entries i e) (All-append P (take i entries) (e ∷ drop i entries) (All-take P i entries old) (All-cons P e (drop i entries) passes (All-drop P i entries old)))

-- what was kept is kept
pub old_put : (entries : List CacheEntry) (i : ℕ) (e : CacheEntry) → All (Contains (patterns_in (insert entries i e))) (patterns_in entries)
old_put entries i e =
    let P : CacheEntry → Type 0 = λ x. Contains (patterns_in (insert entries i e)) x.kept in
    let at : (x : CacheEntry) → Contains (insert entries i e) x → P x = Contains-map (λ x. x.kept) (insert entries i e) in
    let both : All P (take i entries ++ drop i entries) = All-append P (take i entries) (drop i entries)
    (λ k d within. at _ (Contains-append_left (take i entries) (e ∷ drop i entries) _ (Contains-get_or (take i entries) k d within)))
    (λ k d within. at _ (Contains-append_right (take i entries) (e ∷ drop i entries) _ (Contains-later e (drop i entries) _ (Contains-get_or (drop i entries) k d within)))) in
    All-map (Contains (patterns_in (insert entries i e))) (λ x. x.kept) entries (subst (All P) (take-append-drop i entries) both)

pub old_stay : (patterns : List CompiledPattern) → All (Contains patterns) patterns
old_stay patterns = λ k d within. Contains-get_or patterns k d within

-- ---- what is counted

pub size_by_entries : (entries : List CacheEntry) → size_of_all (patterns_in entries) ≡ sum_by entry_size entries
size_by_entries [] = refl
size_by_entries (e ∷ es) = sum_by-cons size_of e.kept (patterns_in es) ∙ ap (λ n. size_of e.kept + n) (size_by_entries es) ∙ sym (sum_by-cons entry_size e es)

pub size_put : (entries : List CacheEntry) (i : ℕ) (e : CacheEntry) → size_of_all (patterns_in (insert entries i e)) ≡ size_of_all (patterns_in entries) + size_of e.kept
size_put entries i e = size_by_entries (insert entries i e) ∙ sum_by-insert entry_size entries i e ∙ ap (λ n. n + size_of e.kept) (sym (size_by_entries entries))

pub record IsCounted (entries : List CacheEntry) (i : ℕ) (bytes : ℕ) : Type 0 where
  pub fits : bytes < 2 ^ 64
  pub is : bytes ≡ sum_by entry_size (take i entries)

pub count_more : (entries : List CacheEntry) (i : ℕ) (e : CacheEntry) (bytes size : ℕ) → i < length entries → e ≡ get_or entries i e → size_of_all (patterns_in entries) < 2 ^ 64 →
    size ≡ min (size_of e.kept) (2 ^ 64 - 1) → bytes ≡ sum_by entry_size (take i entries) → IsCounted entries (i + 1) (bytes + size)
count_more entries i e bytes size within is fits sized counted =
    let whole = size_by_entries entries in
    let here : entry_size (get_or entries i e) ≡ entry_size e = ap entry_size (sym is) in
    let most = sum_by_more_le entry_size entries i e within in
    let least : size ≡ entry_size e = omega (arith, whole, here, most, sized, fits) in
    record {
      fits = omega (arith, whole, here, most, least, counted, fits);
      is = omega (arith, least, here, counted, sum_by_more entry_size entries i e within);
    }

pub counted_all : (entries : List CacheEntry) (i : ℕ) (bytes : ℕ) → length entries ≤ i → i ≤ length entries → bytes ≡ sum_by entry_size (take i entries) → bytes ≡ size_of_all (patterns_in entries)
counted_all entries i bytes past within counted =
    let whole : i ≡ length entries = omega arith in
    counted ∙ ap (λ (k : ℕ). sum_by entry_size (take k entries)) whole ∙ ap (λ (es : List CacheEntry). sum_by entry_size es) (take-length entries) ∙ sym (size_by_entries entries)

-- ---- the steps of long searches

pub steps_by_entries : (length_of : ℕ) (entries : List CacheEntry) → long_steps_of_all length_of (patterns_in entries) ≡ sum_by (entry_steps length_of) entries
steps_by_entries n [] = refl
steps_by_entries n (e ∷ es) = sum_by-cons (long_steps n) e.kept (patterns_in es) ∙ ap (λ k. long_steps n e.kept + k) (steps_by_entries n es) ∙ sym (sum_by-cons (entry_steps n) e es)

pub steps_more : (n : ℕ) (entries : List CacheEntry) (i : ℕ) (e : CacheEntry) (steps more sum : ℕ) → i < length entries → e ≡ get_or entries i e →
    more ≡ min (long_steps n e.kept) (2 ^ 64 - 1) → sum ≡ min (steps + more) (2 ^ 64 - 1) → steps ≡ min (sum_by (entry_steps n) (take i entries)) (2 ^ 64 - 1)
    → sum ≡ min (sum_by (entry_steps n) (take (i + 1) entries)) (2 ^ 64 - 1)
steps_more n entries i e steps more sum within is counted added before =
    let here : entry_steps n (get_or entries i e) ≡ entry_steps n e = ap (entry_steps n) (sym is) in
    omega (arith, here, counted, added, before, sum_by_more (entry_steps n) entries i e within)

pub steps_all : (n : ℕ) (entries : List CacheEntry) (i : ℕ) (steps : ℕ) → length entries ≤ i → i ≤ length entries → steps ≡ min (sum_by (entry_steps n) (take i entries)) (2 ^ 64 - 1)
    → steps ≡ min (long_steps_of_all n (patterns_in entries)) (2 ^ 64 - 1)
steps_all n entries i steps past within counted =
    let whole : i ≡ length entries = omega arith in
    counted ∙ ap (λ (k : ℕ). min (sum_by (entry_steps n) (take k entries)) (2 ^ 64 - 1)) whole
    ∙ ap (λ (es : List CacheEntry). min (sum_by (entry_steps n) es) (2 ^ 64 - 1)) (take-length entries)
    ∙ ap (λ (k : ℕ). min k (2 ^ 64 - 1)) (sym (steps_by_entries n entries))

-- ---- what stays

pub unmarked_pass : (test : List ℕ → Bool) (entries : List CacheEntry) → All (λ e. e.is_used ≡ false) entries → MarkedPass test entries
unmarked_pass test entries none = λ k d within. λ marked. absurd (true≢false (sym marked ∙ none k d within))

module _ (entries : List CacheEntry) where
  abbrev kept : List CacheEntry
  kept = filter (λ e. e.is_used) entries

  pub marked_stay : (test : List ℕ → Bool) → MarkedPass test entries → TextsPass test (patterns_in kept)
  marked_stay test pass = texts_of test kept
      (λ k d within. All-filter (λ e. e.is_used) (λ e. e.is_used ≡ true → test e.kept.text ≡ true) entries pass k d within (filter_passes (λ e. e.is_used) entries k d within))

  pub none_new : All (Contains (patterns_in entries)) (patterns_in kept)
  none_new = All-map (Contains (patterns_in entries)) (λ e. e.kept) kept
      (All-filter (λ e. e.is_used) (λ e. Contains (patterns_in entries) e.kept) entries
      (λ k d within. Contains-map (λ e. e.kept) entries (get_or entries k d) (Contains-get_or entries k d within)))

  pub fewer : size_of_all (patterns_in kept) ≤ size_of_all (patterns_in entries)
  fewer = omega (arith, size_by_entries kept, size_by_entries entries, sum_by-filter_both (λ e. e.is_used) (λ e. not e.is_used) (λ _. refl) entry_size entries)
