-- The limits of a loop.
use Rattle.std.specs.Prelude.{◌≡◌}
use Rattle.am_reactor.specs.declared.connections.Connections.{Connections}

-- the maximum numbers of connections and of bytes are as before
pub record KeepsLimits {T C : Type 0} (old new : Connections T C) : Type 0 where
  pub connections : new.limit ≡ old.limit
  pub bytes : new.most_held ≡ old.most_held
  pub replies : new.most_unread ≡ old.most_unread
