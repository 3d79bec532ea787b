-- The words that say by what a version is less than a greater one of its key. X is the type of versions, `seen` is what the merge
-- sees of one, `unknown` are the fields that its reader didn't know, and `known` is the version without them.
use Rattle.std.specs.Prelude.{ℕ, List, [], ◌++◌, Bool, true, codes}
use Rattle.std.specs.Str.{bytes_eq}
use Rattle.am_version_order.specs.Versions.{Version}
use Rattle.am_wire.specs.declared.unknown.UnknownFields.{UnknownFields}
use Rattle.am_report.specs.Groups.{part_between}
use Rattle.am_report.specs.declared.diff_field.DiffField.{DiffField}
use Rattle.am_report.specs.declared.diff_field.DiffField.TheVariants.{Update, Expiry, Bytes}
use Rattle.am_report.specs.UnknownFields.{differing}

-- the name of a part of the order
abbrev pub part_word : DiffField → List ℕ
part_word Update = codes "update"
part_word Expiry = codes "expiry"
part_word Bytes = codes "bytes"

-- `fields NUMBERS`, or `bytes` if no number differs, but only the order of the fields
abbrev pub word_of_numbers : List ℕ → List ℕ
word_of_numbers [] = codes "bytes"
word_of_numbers numbers = codes "fields " ++ numbers

-- the numbers of the unknown fields by which two versions differ
abbrev pub fields_word : {X : Type 0} → (X → UnknownFields) → X → X → List ℕ
fields_word unknown v w = word_of_numbers (differing (unknown v) (unknown w))

-- true if two versions are the same apart from their unknown fields
abbrev pub is_same_known : {K X : Type 0} → (X → Version K) → (X → X) → X → X → Bool
is_same_known seen known v w = bytes_eq (seen (known v)).content (seen (known w)).content

-- the numbers if only the last part tells versions apart that are the same apart from unknown fields, or else the name of the part
abbrev pub word_by : DiffField → Bool → List ℕ → List ℕ
word_by Bytes true numbers = numbers
word_by part same numbers = part_word part

-- the word that says by what a version is less than a greater one
unfoldable pub less_word : {K X : Type 0} → (X → Version K) → (X → UnknownFields) → (X → X) → X → X → List ℕ
less_word seen unknown known v greatest =
    word_by (part_between (seen v) (seen greatest)) (is_same_known seen known v greatest) (fields_word unknown v greatest)
