-- The kinds of frames: the first byte of each, and the maximum length of its payload.
use Rattle.std.specs.Prelude.{ℕ, Option, Some, None, ◌==◌, if◌then◌else◌}
use Rattle.am_gossip.specs.declared.kind.FrameKind.{FrameKind}
use Rattle.am_gossip.specs.declared.kind.FrameKind.TheVariants.{Delta, Push, Pull, Tick}

-- the first byte of a kind's frames
abbrev pub code_of : FrameKind → ℕ
code_of Delta = 1
code_of Push = 2
code_of Pull = 3
code_of Tick = 4

-- the kind that a byte names, if there is one
abbrev pub kind_at : ℕ → Option FrameKind
kind_at code =
    if code == 1 then Some Delta else
    if code == 2 then Some Push else
    if code == 3 then Some Pull else
    if code == 4 then Some Tick else None

-- the maximum length of a payload
abbrev pub limit : FrameKind → ℕ
limit Delta = 4_194_304
limit Push = 67_108_864
limit Pull = 67_108_864
limit Tick = 0
