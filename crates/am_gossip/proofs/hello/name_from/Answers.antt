use Rattle.am_gossip.proofs.Greeting.{name_whole, name_broken}
use Rattle.am_gossip.proofs.hello.name_from.Goals as goal

pub returns-in-Ok : goal.returns-in-Ok
returns-in-Ok c = name_whole c.args.size c.args.start c.args.bytes.now c.in-Ok.name.now c.if-bytes-size.false c.in-Ok.ensures.cases.0 c.in-Ok.ensures.cases.1

pub returns-in-Err : goal.returns-in-Err
returns-in-Err c = name_broken c.args.size c.args.start c.args.bytes.now c.if-bytes-size.false c.in-Err.ensures.cases.0
