use Rattle.std.proofs.Common.{take, map}
use Rattle.httparse.specs.Spans.{header_bytes}
use Rattle.am_http.specs.Heads.{values_of}
use Rattle.am_http.specs.Bodies.{NamedIn}
use Rattle.am_http.proofs.fields.field_named.Given as goal

abbrev pub invariant-loop-field : goal.invariant-loop-field
invariant-loop-field l = NamedIn (values_of l.name (map (header_bytes l.head) (take l.field-index l.fields))) l.found
