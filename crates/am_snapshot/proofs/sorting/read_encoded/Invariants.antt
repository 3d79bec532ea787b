use Rattle.std.proofs.Common.{◌≤◌, ◌-◌, [], drop, length, map}
use Rattle.am_wire.specs.declared.unknown.Unknown.{Unknown}
use Rattle.am_wire.specs.Inputs.{messages_from}
use Rattle.am_snapshot.proofs.Rows.{HasRead}
use Rattle.am_snapshot.proofs.sorting.read_encoded.Given as goal

abbrev pub invariant-loop-at : goal.invariant-loop-at
invariant-loop-at g l =
    record {
      within : l.at ≤ length l.row;
      read : (unknown : Unknown) → HasRead (g.T.Owned.Message.reads unknown) l.row [] (messages_from (g.T.Owned.Message.reads unknown) l.at (drop l.at l.row)) (map g.T.EncodedVersion.version l.encodings.items);
    }

abbrev pub decreases-loop-at : goal.decreases-loop-at
decreases-loop-at g l = length l.row - l.at
