use Rattle.std.proofs.Common.{take}
use Rattle.std.specs.Prelude.{All}
use Rattle.am_silence.specs.Mesh.{IsMesh}
use Rattle.am_silence_json.proofs.laws.rows_are_values.Given as goal

-- the versions so far are values
abbrev pub invariant-loop-version : goal.invariant-loop-version
invariant-loop-version l = All (λ row. IsMesh row.0) (take l.version-index l.rows)
