use Rattle.am_reactor.proofs.Histories.{acts_once}
use Rattle.am_reactor.proofs.running.watch_input.Goals as goal

pub returns-then-not-watch : goal.returns-then-not-watch
returns-then-not-watch g c = acts_once _ _ _ c.input_ended.ensures
