use Rattle.am_instance.proofs.Named.{found_again, none_is, some_is, stands_there}
use Rattle.am_instance.proofs.config.Config.place_named.Goals as goal

pub returns-in_err-index-clause-only : goal.returns-in_err-index-clause-only
returns-in_err-index-clause-only c = λ place here.
    let again = found_again c.args.name.now c.args.self.now.members place c.members.ensures.sound.order here in
    cc (c.in_err-index.ensures, c.members.ensures.names)

pub returns-in_err-index-clause-nowhere : goal.returns-in_err-index-clause-nowhere
returns-in_err-index-clause-nowhere c = rw c.from_residual.ensures (none_is c.args.name.now c.args.self.now.members (cc (c.in_err-index.ensures, c.members.ensures.names)))

pub returns-clause-there : goal.returns-clause-there
returns-clause-there c = stands_there c.args.name.now c.args.self.now.members c.in_ok-index.index (cc (c.in_ok-index.ensures, c.members.ensures.names))

pub returns-clause-only : goal.returns-clause-only
returns-clause-only c = λ place here.
    let again = found_again c.args.name.now c.args.self.now.members place c.members.ensures.sound.order here in
    cc (c.in_ok-index.ensures, c.members.ensures.names)

pub returns-clause-nowhere : goal.returns-clause-nowhere
returns-clause-nowhere c = some_is c.args.name.now c.args.self.now.members c.in_ok-index.index (cc (c.in_ok-index.ensures, c.members.ensures.names))
