-- The buckets in which the silences that may mute an alert are looked up.
use Rattle.std.specs.Prelude.{ℕ, Bool, List, [], ◌∷◌, map, bytes_eq}
use Rattle.std.specs.List.{list_any}
use Rattle.am_silence.specs.declared.matcher.MatcherKind.TheVariants as kinds
use Rattle.am_silence.specs.Matchers.{writes_matcher}
use Rattle.am_silence.specs.Mesh.{Mesh, bucket_of}
use Rattle.am_matcher.specs.declared.labels.Label.{Label}

-- the bucket of the silences whose first wanted label is this one
abbrev pub label_bucket : Label → List ℕ
label_bucket label = writes_matcher (record { kind = kinds.Equal; name = label.name; pattern = label.value })

-- the empty bucket, and the buckets of the labels
abbrev pub buckets_for : List Label → List (List ℕ)
buckets_for labels = [] ∷ map label_bucket labels

-- the silence is in this bucket
abbrev pub is_at : List ℕ → Mesh → Bool
is_at bucket m = bytes_eq (bucket_of m.silence.matchers) bucket

-- the silence is in one of the buckets
abbrev pub is_in : List (List ℕ) → Mesh → Bool
is_in buckets m = list_any (λ bucket. is_at bucket m) buckets
