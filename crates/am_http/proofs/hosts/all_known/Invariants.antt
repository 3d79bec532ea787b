use Rattle.std.proofs.Common.{◌≡◌, take, map}
use Rattle.httparse.specs.Spans.{header_bytes}
use Rattle.am_http.specs.Hosts.{all_known, texts}
use Rattle.am_http.proofs.hosts.all_known.Given as goal

abbrev pub invariant-loop-field : goal.invariant-loop-field
invariant-loop-field l = l.known ≡ all_known l.what (texts l.names) (map (header_bytes l.head) (take l.field-index l.fields))
