-- Numbers that follow the order of texts, so that most comparisons of two texts need only their numbers.
use Rattle.std.specs.Prelude.{ℕ, ◌+◌, ◌*◌, List, [], ◌∷◌, nat_lt, if◌then◌else◌}

-- the sum of the bytes times their weights, as far as there are weights; a byte of 255 or more counts as 255 and is the last
abbrev pub weighed : List ℕ → List ℕ → ℕ
weighed [] bytes = 0
weighed (weight ∷ weights) [] = 0
weighed (weight ∷ weights) (byte ∷ bytes) = if nat_lt byte 255 then byte * weight + weighed weights bytes else 255 * weight

-- the powers of 256, down from the seventh
abbrev pub weights : List ℕ
weights = 72_057_594_037_927_936 ∷ 281_474_976_710_656 ∷ 1_099_511_627_776 ∷ 4_294_967_296 ∷ 16_777_216 ∷ 65_536 ∷ 256 ∷ 1 ∷ []

-- the first eight bytes as one number
abbrev pub head_of_text : List ℕ → ℕ
head_of_text bytes = weighed weights bytes
