use Rattle.std.proofs.Common.{◌≡◌, ◌++◌, ℕ, List, drop}
use Rattle.am_snapshot.specs.Encodings.{row_encoding}
use Rattle.am_snapshot.specs.Writing.{Passes}
use Rattle.am_snapshot.proofs.sorting.send_encoded.Given as goal

abbrev pub invariant-loop-encoding : goal.invariant-loop-encoding
invariant-loop-encoding g l =
    let seen = λ (encoding : g.row.T.Denot). g.T.Owned.Version.seen (g.T.EncodedVersion.version encoding) in
    record {
      sent : List ℕ;
      whole : sent ++ row_encoding seen (drop l.encoding-index l.encodings) ≡ row_encoding seen l.encodings;
      passes : Passes (g.W.Write.contents l.fn.writer) (g.W.Write.contents l.writer) l.fn.out.gathered.items sent l.out.gathered.items l.fn.out.written l.out.written;
    }
