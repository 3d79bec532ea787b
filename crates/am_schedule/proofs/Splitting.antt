-- The lines of a text, from the front.
use Rattle.std.proofs.Common.{◌≡◌, ℕ, ◌+◌, ◌<◌, Bool, true, false, List, [], ◌∷◌, length, refl, arith}
use Rattle.std.specs.Prelude.{◌==◌, if◌then◌else◌}
use Rattle.std.specs.List.{slice_split, onto_first, position_or_len, before_first, after_first}
use Rattle.std.proofs.lemmas.List.Splits.{slice_split_first}
use Rattle.am_schedule.specs.Schedules.{lines_of}

one_part_by : (p : ℕ → Bool) (x : ℕ) (xs : List ℕ) (b : Bool) → p x ≡ b → position_or_len p (x ∷ xs) ≡ length (x ∷ xs) → (position_or_len p xs ≡ length xs → slice_split p xs ≡ xs ∷ []) → slice_split p (x ∷ xs) ≡ (x ∷ xs) ∷ []
one_part_by p x xs true is e later = let bad : 0 ≡ length (x ∷ xs) = rw is at e in absurd (omega arith)
one_part_by p x xs false is e later =
    let more : 1 + position_or_len p xs ≡ length (x ∷ xs) = rw is at e in
    rw (is, later (omega arith))

-- a text with no separator is one part
one_part : (p : ℕ → Bool) (xs : List ℕ) → position_or_len p xs ≡ length xs → slice_split p xs ≡ xs ∷ []
one_part p [] e = refl
one_part p (x ∷ xs) e = one_part_by p x xs (p x) refl e (one_part p xs)

some_of : (b : Bool) (x : ℕ) (rest : List (List ℕ)) → (part : List ℕ) × (parts : List (List ℕ)) × (if◌then◌else◌ b ([] ∷ rest) (onto_first x rest) ≡ part ∷ parts)
some_of true x rest = ([], rest, refl)
some_of false x [] = (x ∷ [], [], refl)
some_of false x (part ∷ parts) = (x ∷ part, parts, refl)

-- there is a part
some_part : (p : ℕ → Bool) (xs : List ℕ) → (part : List ℕ) × (parts : List (List ℕ)) × (slice_split p xs ≡ part ∷ parts)
some_part p [] = ([], [], refl)
some_part p (x ∷ xs) = some_of (p x) x (slice_split p xs)

-- the only line of a text without a line feed
pub last_line : (text : List ℕ) → 0 < length text → position_or_len (λ b. b == 10) text ≡ length text → lines_of text ≡ text ∷ lines_of []
unfolding lines_of
last_line [] some e = absurd (omega arith)
last_line (byte ∷ bytes) some e = rw (one_part (λ b. b == 10) (byte ∷ bytes) e)

-- the line before the first line feed
pub front_line : (text : List ℕ) → position_or_len (λ b. b == 10) text < length text → lines_of text ≡ before_first (λ b. b == 10) text ∷ lines_of (after_first (λ b. b == 10) text)
unfolding lines_of
front_line text e =
    let more = some_part (λ b. b == 10) (after_first (λ b. b == 10) text) in
    rw (slice_split_first (λ b. b == 10) text 0 e, more.2)
