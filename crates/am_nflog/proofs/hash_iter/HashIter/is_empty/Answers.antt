use Rattle.std.proofs.Common.{◌==◌, ℕ, List, length, sym, ap, subst, ◌∙◌}
use Rattle.am_nflog.specs.declared.hash_iter.Rest.{Rest}
use Rattle.am_nflog.specs.Packed.{hashes_in, IsSpelled}
use Rattle.am_nflog.proofs.Packs.{filled_alike}
use Rattle.am_nflog.proofs.hash_iter.HashIter.is_empty.Goals as goal

pub returns-in-Packed : goal.returns-in-Packed
returns-in-Packed c =
    let packed = subst IsSpelled c.in-Packed.is c.self.invariant in
    c.is_empty-in-Packed.ensures
    ∙ filled_alike c.in-Packed.bytes.now packed
    ∙ ap (λ (r : Rest). length (hashes_in r) == 0) (sym c.in-Packed.is)
    ∙ ap (λ (l : List ℕ). length l == 0) c.self.view_is
