use Rattle.std.proofs.Common.{◌≡◌, ◌≤◌, ◌+◌, drop, length}
use Rattle.am_wire.specs.Limits.{most}
use Rattle.am_snapshot.specs.Encodings.{row_encoding}
use Rattle.am_snapshot.proofs.sorting.encoded_length.Given as goal

abbrev pub invariant-loop-encoding : goal.invariant-loop-encoding
invariant-loop-encoding g l =
    let seen = λ (encoding : g.row.T.Denot). g.T.Owned.Version.seen (g.T.EncodedVersion.version encoding) in
    record {
      count : l.total + length (row_encoding seen (drop l.encoding-index l.encodings)) ≡ length (row_encoding seen l.encodings);
      few : l.total ≤ most;
    }
