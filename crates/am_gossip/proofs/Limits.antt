-- A text that is over a limit makes what holds it over that limit.
use Rattle.std.proofs.Common.{◌≡◌, ℕ, ◌<◌, ◌≤◌, ◌+◌, List, [], ◌++◌, Bool, true, false, length, length-append, refl, arith, ◌==◌}
use Rattle.std.specs.Prelude.{nat_le, if◌then◌else◌}
use Rattle.std.proofs.lemmas.Bool.{lt-leb}
use Rattle.am_wire.specs.Varint.{shortest}
use Rattle.am_wire.specs.Writing.{tag, writes_text, writes_delimited}
use Rattle.am_gossip.specs.declared.frame.Part.{Part}
use Rattle.am_gossip.specs.Keys.{key_text}
use Rattle.am_gossip.specs.declared.frame.StateKey.TheVariants as keys
use Rattle.am_gossip.specs.Parts.{writes_part, writes_parts}
use Rattle.am_gossip.specs.Frames.{states}

delimited_holds : (n : ℕ) (bytes : List ℕ) → length bytes ≤ length (writes_delimited n bytes)
delimited_holds n bytes =
    let one = length-append (tag n 2) (shortest (length bytes) ++ bytes) in
    let two = length-append (shortest (length bytes)) bytes in
    omega (arith, one, two)

text_by : (n : ℕ) (bytes : List ℕ) (b : Bool) → (length bytes == 0) ≡ b → length bytes ≤ length (if b then [] else writes_delimited n bytes)
text_by n bytes true e = grind (arith, e)
text_by n bytes false e = delimited_holds n bytes

text_holds : (n : ℕ) (bytes : List ℕ) → length bytes ≤ length (writes_text n bytes)
text_holds n bytes = text_by n bytes (length bytes == 0) refl

pub part_holds : (part : Part) → length part.bytes ≤ length (writes_part part)
unfolding writes_part
part_holds part =
    let one = length-append (writes_text 1 (key_text part.key)) (writes_text 2 part.bytes) in
    let two = text_holds 2 part.bytes in
    omega (arith, one, two)

pub part_over : (part : Part) (limit : ℕ) → limit < length part.bytes → nat_le (length (writes_part part)) limit ≡ false
part_over part limit over =
    let holds = part_holds part in
    lt-leb (length (writes_part part)) limit (omega (arith, holds, over))

pub states_hold : (silences log : List ℕ) → length silences + length log ≤ length (writes_parts (states silences log))
unfolding writes_parts
states_hold silences log =
    let a : Part = record { key = keys.Sil; bytes = silences } in
    let b : Part = record { key = keys.Nfl; bytes = log } in
    let first = length-append (writes_delimited 1 (writes_part a)) (writes_delimited 1 (writes_part b) ++ []) in
    let second = length-append (writes_delimited 1 (writes_part b)) [] in
    omega (arith, first, second, delimited_holds 1 (writes_part a), delimited_holds 1 (writes_part b), part_holds a, part_holds b)

pub states_over : (silences log : List ℕ) (limit : ℕ) → limit < length silences + length log → nat_le (length (writes_parts (states silences log))) limit ≡ false
states_over silences log limit over =
    let hold = states_hold silences log in
    lt-leb (length (writes_parts (states silences log))) limit (omega (arith, hold, over))
