-- Silences that are gathered bucket by bucket.
use Rattle.std.proofs.Common.{◌≡◌, ℕ, ◌+◌, ◌<◌, true, List, ◌∷◌, ◌++◌, flat_map, filter, Contains, Any, sym, subst, ◌∙◌}
use Rattle.std.specs.Ordering.{nat_cmp}
use Rattle.std.specs.Cmp.Lexicographic.{slice_cmp}
use Rattle.am_merge.specs.Maps.{IsMap}
use Rattle.am_merge.proofs.Sweeps.{IsMap-filter}
use Rattle.am_silence.specs.Mesh.{Mesh, mesh_version}
use Rattle.am_matcher.specs.Buckets.{is_at, is_in}
use Rattle.am_matcher.proofs.Members.{Contains-filter, Contains-from_filter, Contains-each, Contains-from_each}
use Rattle.am_matcher.proofs.Orders.{same_silences, one_of_an_id}

-- what is gathered, in order and each once, is what the map has in the buckets
module _ (buckets : List (List ℕ)) (held found ordered : List Mesh) (is_map : IsMap mesh_version (slice_cmp nat_cmp) held) (whole : found ≡ flat_map (λ b. filter (is_at b) held) buckets) where
  module _ (rising : IsMap mesh_version (slice_cmp nat_cmp) ordered) (same : (m : Mesh) → Contains ordered m → Contains found m) (kept : (m : Mesh) → Contains found m → Any (λ other. other.silence.id ≡ m.silence.id) ordered) where
    from_buckets : (m : Mesh) → Contains ordered m → Contains held m × (is_in buckets m ≡ true)
    from_buckets m c = Contains-from_each is_at buckets held m (subst (λ ms. Contains ms m) whole (same m c))

    there : (m : Mesh) → Contains ordered m → Contains (filter (is_in buckets) held) m
    there m c = let both = from_buckets m c in Contains-filter (is_in buckets) held m both.0 both.1

    here : (m : Mesh) → Contains (filter (is_in buckets) held) m → Contains ordered m
    here m c =
        let both = Contains-from_filter (is_in buckets) held m c in
        let other = kept m (subst (λ ms. Contains ms m) (sym whole) (Contains-each is_at buckets held m both.0 both.1)) in
        let member : Contains ordered other.1 = (other.0, other.2, other.3) in
        let one = one_of_an_id held other.1 m is_map (from_buckets other.1 member).0 both.0 other.4 in
        subst (Contains ordered) one member

    pub gathered_all : ordered ≡ filter (is_in buckets) held
    gathered_all = same_silences ordered (filter (is_in buckets) held) rising (IsMap-filter mesh_version (slice_cmp nat_cmp) (is_in buckets) held is_map) there here
