use Rattle.std.proofs.Common.{map, take}
use Rattle.std.specs.Option.{option_copied}
use Rattle.serde_json.specs.Data.{string}
use Rattle.am_report.specs.Sources.{holding_of}
use Rattle.am_report.specs.ReportLine.{holders}
use Rattle.am_silence_json.specs.Tokens.{Adds, row_tokens}
use Rattle.am_report.proofs.json_lines.sources.add_holders.Given as goal

-- the names so far are added
abbrev pub invariant-loop-cursor : goal.invariant-loop-cursor
invariant-loop-cursor g l =
    Adds l.initial.out l.out (row_tokens (map string (holders g.V.Version.seen (option_copied l.here) (map holding_of (take l.cursor-index l.sides)))))
