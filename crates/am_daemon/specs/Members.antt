-- A member as its connections come and go.
use Rattle.std.specs.Prelude.{◌≡◌}
use Rattle.am_daemon.specs.declared.running.Member.{Member}

-- The member's instance and the lock of its gates are unchanged.
abbrev pub IsSameMember : {A : Type 0} → Member A → Member A → Type 0
IsSameMember old new = (new.lock ≡ old.lock) × (new.instance ≡ old.instance)
