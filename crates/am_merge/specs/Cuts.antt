-- A block cut in two.
use Rattle.std.specs.Prelude.{ℕ, List, [], ◌∷◌, ◌++◌, take, drop, suc, slice_index_or}

-- the blocks after the one with this number is cut before this offset
abbrev pub cut_at : {T : Type 0} → List (List T) → ℕ → ℕ → List (List T)
cut_at blocks block offset =
    take block blocks
    ++ take offset (slice_index_or blocks block []) ∷ drop offset (slice_index_or blocks block []) ∷ drop (suc block) blocks
