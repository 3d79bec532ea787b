use Rattle.std.proofs.Common.{arith}
use Rattle.am_http.specs.Hosts.{texts}
use Rattle.am_http.proofs.Screenings.{foreign_host, foreign_origin, nothing_foreign}
use Rattle.am_http.proofs.hosts.screen.Goals as goal

pub returns-then-not-may_ask : goal.returns-then-not-may_ask
returns-then-not-may_ask c =
    foreign_host c.args.bytes.now c.window-front.result.now c.read_head.new.fields c.in-Whole.head c.window-front.ensures (omega arith) c.in-Whole.ensures (texts c.args.names.now) c.of-2.result.now c.may_ask.result c.if-not-may_ask.true (c.of-2.ensures, c.may_ask.ensures)
    _ _ c.of.ensures c.is_head-to_head.ensures

pub returns-then-not-all_known : goal.returns-then-not-all_known
returns-then-not-all_known c =
    foreign_origin c.args.bytes.now c.window-front.result.now c.read_head.new.fields c.in-Whole.head c.window-front.ensures (omega arith) c.in-Whole.ensures (texts c.args.names.now) c.of-2.result.now c.may_ask.result c.all_known.result c.if-not-may_ask.false c.if-not-all_known.true (c.of-2.ensures, c.may_ask.ensures) c.all_known.ensures
    _ _ c.of.ensures c.is_head-to_head.ensures

pub returns : goal.returns
returns c =
    nothing_foreign c.args.bytes.now c.window-front.result.now c.read_head.new.fields c.in-Whole.head c.window-front.ensures (omega arith) c.in-Whole.ensures (texts c.args.names.now) c.of-2.result.now c.may_ask.result c.all_known.result c.if-not-may_ask.false c.if-not-all_known.false (c.of-2.ensures, c.may_ask.ensures) c.all_known.ensures
