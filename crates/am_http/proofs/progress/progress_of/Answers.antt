use Rattle.std.proofs.Common.{arith}
use Rattle.am_http.proofs.SessionPhases.{bad_fields, open_body, whole_request, method_text}
use Rattle.am_http.proofs.progress.progress_of.Goals as goal

pub returns-in-Err : goal.returns-in-Err
returns-in-Err c =
    bad_fields c.args.bytes.now c.window-front.result.now c.read_head.new.fields c.in-Whole.head c.window-front.ensures (omega arith) c.in-Whole.ensures c.in-Err.cause c.in-Err.ensures

pub returns-then-bytes-end : goal.returns-then-bytes-end
returns-then-bytes-end c =
    open_body c.args.bytes.now c.window-front.result.now c.read_head.new.fields c.in-Whole.head c.window-front.ensures (omega arith) c.in-Whole.ensures c.in-Ok.count c.in-Ok.ensures c.if-bytes-end.true

pub text_at-requires-clause-utf8 : goal.text_at-requires-clause-utf8
text_at-requires-clause-utf8 c = method_text c.args.bytes.now c.window-front.result.now c.read_head.new.fields c.in-Whole.head c.window-front.ensures (omega arith) c.in-Whole.ensures

pub returns : goal.returns
returns c =
    whole_request c.args.bytes.now c.window-front.result.now c.read_head.new.fields c.in-Whole.head c.window-front.ensures (omega arith) c.in-Whole.ensures c.in-Ok.count _ _ c.in-Ok.ensures c.if-bytes-end.false c.text_at.ensures c.text_at-2.ensures
