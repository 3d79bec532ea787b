-- Answers that are unpacked in stretches.
use Rattle.std.proofs.Common.{◌≡◌, ℕ, List, [], ◌∷◌, length, drop, Result, Ok, Err, refl, ap}
use Rattle.am_memberlist.proofs.Steps.{at_start}
use Rattle.am_memberlist.specs.declared.lzw_error.LzwError.{LzwError}
use Rattle.am_memberlist.specs.declared.unpacking.Stretch.{Stretch}
use Rattle.am_memberlist.specs.declared.unpacking.Stretch.TheVariants.{Whole, Part}
use Rattle.am_memberlist.specs.Lzw.{unpacked}
use Rattle.am_memberlist.specs.LzwStates.{LzwState}
use Rattle.am_memberlist.specs.LzwStretches.{rest, rest_of}
use Rattle.am_memberlist.specs.declared.error.AnswerError.{AnswerError}
use Rattle.am_memberlist.specs.Answers.{◌>>=◌, unpacking_fault}
use Rattle.am_memberlist.specs.Messages.{as_part, packed_in, plain_of, unpacked_in}
use Rattle.am_memberlist.specs.Stretches.{stretch_of, unpacked_from}

begun_by : (most : ℕ) (packed : Result (List ℕ) AnswerError) →
    (packed >>= λ bytes. as_part (rest bytes (record { most = most; codes = 0; index = 0; bit = 0; places = []; out = [] })))
    ≡ (packed >>= λ bytes. as_part (unpacked (length bytes) bytes most 0 0 [] []))
begun_by most (Ok bytes) = ap as_part (at_start bytes most)
begun_by most (Err e) = refl

-- before the first stretch
pub begun : (most : ℕ) (kind : ℕ) (bytes : List ℕ) → unpacked_from (kind ∷ bytes) (record { most = most; codes = 0; index = 0; bit = 0; places = []; out = [] }) ≡ unpacked_in most bytes
unfolding unpacked_in
begun most kind bytes = begun_by most (packed_in bytes)

pub begun_is : (most kind : ℕ) (bytes answer : List ℕ) (unpacked : LzwState) → unpacked ≡ record { most = most; codes = 0; index = 0; bit = 0; places = []; out = [] }
    → answer ≡ kind ∷ bytes → kind ≡ 9 → unpacked_from answer unpacked ≡ plain_of most answer
unfolding plain_of
begun_is most kind bytes answer unpacked starts is compressed = rw (starts, is, compressed) (begun most 9 bytes)

-- a stretch further
pub stretched : (answer packed : List ℕ) (stretch : Stretch) (unpacked : LzwState) → packed_in (drop 1 answer) ≡ Ok packed
    → rest_of packed stretch ≡ rest packed unpacked → stretch_of answer stretch ≡ unpacked_from answer unpacked
stretched answer packed (Whole message) unpacked is same = rw is (ap as_part same)
stretched answer packed (Part next) unpacked is same = rw is (ap as_part same)

-- a fault in what is compressed
pub at_fault : (answer packed : List ℕ) (unpacked : LzwState) (e : LzwError) → packed_in (drop 1 answer) ≡ Ok packed
    → rest packed unpacked ≡ Err e → unpacked_from answer unpacked ≡ Err (unpacking_fault e)
at_fault answer packed unpacked e is same = rw is (ap as_part same)

-- a fault in what says how it is compressed
pub not_packed : (answer : List ℕ) (unpacked : LzwState) (e : AnswerError) → packed_in (drop 1 answer) ≡ Err e → unpacked_from answer unpacked ≡ Err e
not_packed answer unpacked e is = rw is refl
