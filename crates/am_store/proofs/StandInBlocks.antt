-- A file of one block, or of none.
use Rattle.std.proofs.Common.{◌≡◌, ◌≤◌, ◌<◌, ◌^◌, ◌+◌, ◌-◌, ℕ, zero, suc, List, [], ◌∷◌, ◌++◌, length, replicate, refl, sym, ◌∙◌, ap, arith}
use Rattle.std.proofs.lemmas.List.{length-replicate}
use Rattle.std.specs.Int.{w64, to_le_bytes}
use Rattle.am_store.specs.Blocks.{recovered, recovered_within, blocks_length}
use Rattle.am_store.specs.StandIn.{stand_in}
use Rattle.am_store.proofs.BlockLemmas.{opens_written, recovered_opens}

none : recovered [] ≡ []
unfolding recovered recovered_within
none = refl

alone : (batch : List ℕ) → blocks_length (batch ∷ []) ≡ 9 + length batch
alone batch = omega arith

one_block : (batch : List ℕ) → length batch < 2 ^ 64 → blocks_length (recovered (1 ∷ to_le_bytes w64 (length batch) ++ batch ++ [])) ≡ 9 + length batch
one_block batch fits = ap blocks_length (recovered_opens _ batch [] (opens_written batch [] fits) ∙ ap (λ (l : List (List ℕ)). batch ∷ l) none) ∙ alone batch

-- its blocks end where they are to
pub stand_in_ends : (end : ℕ) → end < 2 ^ 64 → (0 < end → 9 ≤ end) → end ≡ blocks_length (recovered (stand_in end))
unfolding stand_in
stand_in_ends zero fits long = ap blocks_length (sym none)
stand_in_ends (suc more) fits long =
    let batch : List ℕ = replicate (more - 8) 0 in
    let size : length batch ≡ more - 8 = length-replicate {A = ℕ} (more - 8) 0 in
    let ends = one_block batch (omega (arith, fits, size)) in
    let nine : 9 ≤ suc more = long (omega arith) in
    sym (ap (λ (n : ℕ). blocks_length (recovered (1 ∷ to_le_bytes w64 n ++ batch ++ []))) (sym size) ∙ ends ∙ omega (arith, size, nine))
