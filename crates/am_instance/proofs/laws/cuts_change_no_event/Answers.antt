use Rattle.std.proofs.Common.{ap}
use Rattle.am_instance.specs.Laws.{events_of_stream}
use Rattle.am_instance.proofs.laws.cuts_change_no_event.Goals as goal

pub returns : goal.returns
returns c = λ sender pieces. ap (events_of_stream sender) (c.cuts_change_nothing.ensures.pieces pieces)
