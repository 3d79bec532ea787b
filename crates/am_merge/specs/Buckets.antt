-- The entries of the index by bucket, and their position relative to what is searched for.
-- A key's place among the buckets is its bucket with the key; the bucket without a key is the front of the bucket.
use Rattle.std.specs.Prelude.{ℕ, ◌+◌, ◌*◌, ◌%◌, ◌^◌, List, [], ◌∷◌, Option, Some, None, fold, take_while, bytes_eq, if◌then◌else◌, ◌==◌}
use Rattle.std.specs.Option.{option_cmp, option_map}
use Rattle.std.specs.declared.cmp.Ordering.{Ordering}
use Rattle.std.specs.declared.cmp.Ordering.TheVariants.{Less, Equal, Greater}
use Rattle.std.specs.Ordering.{nat_cmp, ordering_then}
use Rattle.std.specs.Cmp.Lexicographic.{slice_cmp}
use Rattle.am_version_order.specs.Versions.{Version}
use Rattle.am_merge.specs.Entries.{key_entry, key_order}
use Rattle.am_merge.specs.declared.entry.BucketEntry.{BucketEntry}
use Rattle.am_merge.specs.declared.entry.KeyEntry.{KeyEntry}

-- the slot of the entry's version in the table
abbrev pub bucket_slot : BucketEntry → ℕ
bucket_slot e = e.key.slot

-- the number after one more byte
abbrev pub numbered : ℕ → ℕ → ℕ
numbered number byte = (number * 1_099_511_628_211 % 2 ^ 64 + byte) % 2 ^ 64

-- the number computed from bytes, which is 0 only if there are none
abbrev pub number_of : List ℕ → ℕ
number_of [] = 0
number_of (byte ∷ bytes) = let number = fold numbered 0 (byte ∷ bytes) in if number == 0 then 1 else number

-- the order of buckets by their numbers, and then by their bytes
abbrev pub bytes_cmp : List ℕ → List ℕ → Ordering
bytes_cmp one other = ordering_then (nat_cmp (number_of one) (number_of other)) (slice_cmp nat_cmp one other)

-- the entry by bucket of the version in the slot of an entry by key
abbrev pub bucket_at : {X : Type 0} → (X → List ℕ) → (ℕ → Option X) → KeyEntry → Option BucketEntry
bucket_at bucket_of table e = option_map (λ v. record { number = number_of (bucket_of v); key = e }) (table e.slot)

module _ {K : Type 0} (cmp : K → K → Ordering) where
  -- the order of places by their buckets, and then by their keys, which are behind the front
  abbrev pub bucket_cmp : (List ℕ × Option K) → (List ℕ × Option K) → Ordering
  bucket_cmp one other = ordering_then (bytes_cmp one.0 other.0) (option_cmp cmp one.1 other.1)

module _ {X : Type 0} (bucket_of : X → List ℕ) where
  -- the versions before the first one of another bucket
  abbrev pub run_of : List ℕ → List X → List X
  run_of bucket versions = take_while (λ v. bytes_eq (bucket_of v) bucket) versions

  -- the order of a slot's bucket and another; an empty slot is before all buckets
  abbrev pub bytes_tie : Option X → List ℕ → Ordering
  bytes_tie None bucket = Less
  bytes_tie (Some v) bucket = slice_cmp nat_cmp (bucket_of v) bucket

  -- the order of an entry and a bucket with its number: by the numbers, and then by the bytes unless the bucket is empty
  abbrev pub bytes_order : (ℕ → Option X) → ℕ → List ℕ → BucketEntry → Ordering
  bytes_order table number bucket e =
      ordering_then (nat_cmp e.number number) (if e.number == 0 then Equal else bytes_tie (table e.key.slot) bucket)

  -- the order of an entry and the front of a bucket
  abbrev pub front_order : (ℕ → Option X) → ℕ → List ℕ → BucketEntry → Ordering
  front_order table number bucket e = ordering_then (bytes_order table number bucket e) Greater

module _ {K X : Type 0} (seen : X → Version K) (bucket_of : X → List ℕ) where
  -- the version as one of its bucket and its key
  abbrev pub by_bucket : X → Version (List ℕ × Option K)
  by_bucket v =
      record { key = (bucket_of v, Some (seen v).key); updated = (seen v).updated; expires = (seen v).expires; content = (seen v).content }

  -- the entry by bucket of the version in a slot
  abbrev pub bucket_entry : (K → ℕ) → ℕ → X → BucketEntry
  bucket_entry head_of slot v = record { number = number_of (bucket_of v); key = key_entry seen head_of slot v }

  -- the order of an entry and a key in a bucket, both with their numbers
  abbrev pub bucket_order : (K → K → Ordering) → (ℕ → Option X) → ℕ → List ℕ → ℕ → K → BucketEntry → Ordering
  bucket_order cmp table number bucket head key e =
      ordering_then (bytes_order bucket_of table number bucket e) (key_order seen cmp table head key e.key)
