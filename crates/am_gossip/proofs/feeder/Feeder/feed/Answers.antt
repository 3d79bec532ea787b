use Rattle.std.proofs.Common.{◌≡◌, ℕ, take, ap, ◌∙◌}
use Rattle.am_gossip.proofs.feeder.Feeder.feed.Goals as goal

pub take_piece-requires : goal.take_piece-requires
take_piece-requires c = c.self.invariant _ c.in-Some.is

pub invariant_of-self : goal.invariant_of-self
invariant_of-self c = λ x is.
    let items : c.truncate.new.self.items ≡ c.self.inside.held.items = c.truncate.ensures.items ∙ ap (λ (n : ℕ). take n c.take_piece.new.held.items) c.len-waiting.ensures ∙ c.in-Err.ensures.kept in
    rw items (c.self.invariant x is)
