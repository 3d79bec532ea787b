use Rattle.std.proofs.Common.{take, map}
use Rattle.std.specs.Prelude.{All}
use Rattle.serde_json.specs.View.{view}
use Rattle.am_silence.specs.Mesh.{IsMesh}
use Rattle.am_silence_json.specs.Shown.{AreShown, FitsMessage}
use Rattle.am_silence_json.proofs.shown.read_each.Given as goal

-- the objects so far show these versions
abbrev pub invariant-loop-place : goal.invariant-loop-place
invariant-loop-place l = AreShown (map view (take l.place l.objects)) l.silences.items × All IsMesh l.silences.items × All FitsMessage l.silences.items
