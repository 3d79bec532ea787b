-- The rows of a log to which a batch is added.
use Rattle.std.proofs.Common.{◌≡◌, ℕ, List, [], ◌∷◌, ◌++◌, Some, refl, sym, ap, ◌∙◌, append_assoc}
use Rattle.std.proofs.lemmas.List.{append-nil}
use Rattle.am_store.specs.Blocks.{recovered, with_batch}
use Rattle.am_store.specs.Journal.{device_of}
use Rattle.am_store.specs.declared.device.Device.{Ghosts}
use Rattle.am_store.specs.declared.journal.Journal.{Journal}
use Rattle.am_store.specs.Appending.{acknowledged, rows_of}

pub rows_of-append : (xs ys : List (List ℕ)) → rows_of (xs ++ ys) ≡ rows_of xs ++ rows_of ys
rows_of-append [] ys = refl
rows_of-append (batch ∷ xs) ys = ap (λ (rows : List ℕ). batch ++ rows) (rows_of-append xs ys) ∙ sym (append_assoc batch (rows_of xs) (rows_of ys))

-- the batch's rows come behind those of the others
pub rows_of-with_batch : (batches : List (List ℕ)) (batch : List ℕ) → rows_of (with_batch batches batch) ≡ rows_of batches ++ batch
rows_of-with_batch batches [] = sym (append-nil (rows_of batches))
rows_of-with_batch batches (byte ∷ more) =
    rows_of-append batches ((byte ∷ more) ∷ []) ∙ ap (λ (rows : List ℕ). rows_of batches ++ rows) (append-nil (byte ∷ more))

-- a log that acknowledged a batch has its rows on the disk
pub committed : {D : Type 0} {g : Ghosts D} (old new : Journal D g) (given batch : List ℕ) → given ≡ batch
    → recovered (g.seen (device_of new)) ≡ with_batch (recovered (g.seen (device_of old))) given → acknowledged (Some new) ≡ acknowledged (Some old) ++ batch
committed {g = g} old new given batch same has =
    ap rows_of has ∙ rows_of-with_batch (recovered (g.seen (device_of old))) given ∙ ap (λ (rows : List ℕ). acknowledged (Some old) ++ rows) same
