-- A log, as contracts see it.
use Rattle.std.specs.Prelude.{ℕ, Bool}
use Rattle.am_store.specs.declared.device.Device.{Ghosts}
use Rattle.am_store.specs.declared.journal.Journal.{Journal}

module _ {D : Type 0} {g : Ghosts D} where
  -- its file
  abbrev pub device_of : Journal D g → D
  device_of journal = journal.device

  -- the number of bytes in its whole blocks
  abbrev pub end_of : Journal D g → ℕ
  end_of journal = journal.end

  -- no call has failed
  abbrev pub usable : Journal D g → Bool
  usable journal = journal.is_usable
