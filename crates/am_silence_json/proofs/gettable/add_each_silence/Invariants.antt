use Rattle.std.proofs.Common.{List, take}
use Rattle.serde_json.specs.Data.{Data}
use Rattle.am_silence_json.specs.Gettables.{AreGettable}
use Rattle.am_silence_json.specs.Tokens.{Adds, row_tokens}
use Rattle.am_silence_json.proofs.gettable.add_each_silence.Given as goal

-- the silences so far are added
abbrev pub invariant-loop-version : goal.invariant-loop-version
invariant-loop-version l = (ds : List Data) × AreGettable (take l.version-index l.rows) ds × Adds l.initial.out l.out (row_tokens ds)
