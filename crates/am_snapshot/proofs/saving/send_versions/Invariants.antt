use Rattle.std.proofs.Common.{◌≡◌, ◌++◌, ℕ, List}
use Rattle.am_snapshot.specs.Encodings.{row_encoding}
use Rattle.am_snapshot.specs.Writing.{Passes}
use Rattle.am_snapshot.proofs.saving.send_versions.Given as goal

abbrev pub invariant-loop-version : goal.invariant-loop-version
invariant-loop-version g l =
    record {
      sent : List ℕ;
      whole : sent ++ row_encoding g.V.Version.seen l.version-iterator ≡ row_encoding g.V.Version.seen l.held;
      passes : Passes (g.W.Write.contents l.fn.writer) (g.W.Write.contents l.writer) l.fn.out.gathered.items sent l.out.gathered.items l.fn.out.written l.out.written;
    }
