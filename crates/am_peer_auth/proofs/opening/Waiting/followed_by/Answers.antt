use Rattle.std.proofs.Common.{ℕ, List, IfSome, subst, sym}
use Rattle.am_peer_auth.specs.Summings.{CoversIn}
use Rattle.am_peer_auth.proofs.Summed.{covers_on}
use Rattle.am_peer_auth.proofs.opening.Waiting.followed_by.Goals as goal

pub invariant_of-result : goal.invariant_of-result
invariant_of-result c =
    subst (λ (l : List ℕ). IfSome c.self.inside.summing (CoversIn l)) (sym c.in_ok-extend_from_slice.ensures.items)
    (covers_on c.self.inside.bytes.items c.args.piece.now c.self.inside.summing c.self.invariant)
