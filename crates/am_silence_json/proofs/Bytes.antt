-- The bytes of a written text are ASCII.
use Rattle.std.proofs.Common.{ℕ, ◌<◌, ◌/◌, ◌%◌, ◌++◌, lit<, List, [], ◌∷◌, length, get_or, zero, suc, arith}
use Rattle.std.specs.Str.{IsUtf8}
use Rattle.std.proofs.lemmas.Str.{IsUtf8-from_ascii}
use Rattle.std.proofs.lemmas.Str.Ascii.{IsAscii-from_reads}
use Rattle.am_silence_json.specs.declared.moments.clock.Clock.{Clock}
use Rattle.am_silence_json.specs.Clocks.{IsReal}
use Rattle.am_silence_json.specs.Written.{digit, two_digits, three_digits, date_text, time_text, written_text}

abbrev AreLow : List ℕ → Type 0
AreLow [] = Unit {0}
AreLow (b ∷ bs) = (b < 128) × AreLow bs

low_at : (bs : List ℕ) → AreLow bs → (k : ℕ) → k < length bs → get_or bs k 0 < 128
low_at [] h k lt = absurd (omega arith)
low_at (b ∷ bs) h zero lt = h.0
low_at (b ∷ bs) h (suc k) lt = low_at bs h.1 k (omega arith)

low_append : (xs ys : List ℕ) → AreLow xs → AreLow ys → AreLow (xs ++ ys)
low_append [] ys h k = k
low_append (x ∷ xs) ys h k = (h.0, low_append xs ys h.1 k)

low_digit : (n : ℕ) → n < 10 → AreLow (digit n)
low_digit n h = (omega arith, tt)

low_two : (n : ℕ) → n < 100 → AreLow (two_digits n)
low_two n h = low_append (digit (n / 10)) (digit (n % 10)) (low_digit _ (omega arith)) (low_digit _ (omega arith))

-- a byte below 128 and two digits
low_marked : (mark n : ℕ) → mark < 128 → n < 100 → AreLow (mark ∷ two_digits n)
low_marked mark n low h = (low, low_two n h)

low_date : (c : Clock) → c.year < 10000 → c.month < 100 → c.day < 100 → AreLow (date_text c)
low_date c year month day =
    low_append (two_digits (c.year / 100)) (two_digits (c.year % 100) ++ 45 ∷ (two_digits c.month ++ 45 ∷ two_digits c.day)) (low_two _ (omega arith)) (
    low_append (two_digits (c.year % 100)) (45 ∷ (two_digits c.month ++ 45 ∷ two_digits c.day)) (low_two _ (omega arith)) (
    low_append (45 ∷ two_digits c.month) (45 ∷ two_digits c.day) (low_marked 45 _ (lit< tt) month) (low_marked 45 _ (lit< tt) day)))

low_time : (c : Clock) (millis : ℕ) → IsReal c → millis < 1000 → AreLow (time_text c millis)
low_time c millis real few =
    let hour : c.hour < 24 = real.hour in
    let minute : c.minute < 60 = real.minute in
    let second : c.second < 60 = real.second in
    low_append (two_digits c.hour) (58 ∷ (two_digits c.minute ++ 58 ∷ (two_digits c.second ++ 46 ∷ three_digits millis))) (low_two _ (omega arith)) (
    low_append (58 ∷ two_digits c.minute) (58 ∷ (two_digits c.second ++ 46 ∷ three_digits millis)) (low_marked 58 _ (lit< tt) (omega arith)) (
    low_append (58 ∷ two_digits c.second) (46 ∷ three_digits millis) (low_marked 58 _ (lit< tt) (omega arith)) (
    low_append (46 ∷ digit (millis / 100)) (two_digits (millis % 100)) (lit< tt, low_digit _ (omega arith)) (low_two _ (omega arith)))))

pub utf8_text :
    (c : Clock) (millis : ℕ) → IsReal c → c.year < 10000 → c.month < 100 → c.day < 100 → millis < 1000 → IsUtf8 (written_text c millis)
utf8_text c millis real year month day few =
    let text = written_text c millis in
    let time = low_append (time_text c millis) (90 ∷ []) (low_time c millis real few) (lit< tt, tt) in
    let low = low_append (date_text c) (84 ∷ (time_text c millis ++ 90 ∷ [])) (low_date c year month day) (lit< tt, time) in
    IsUtf8-from_ascii text (IsAscii-from_reads text 24 (omega arith) (λ k h. low_at text low k h))
