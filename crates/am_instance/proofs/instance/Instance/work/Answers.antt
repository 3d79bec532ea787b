use Rattle.am_instance.proofs.instance.Instance.work.Goals as goal

pub returns-in-Request : goal.returns-in-Request
returns-in-Request c = rw c.in-Request.is c.answer.ensures

pub returns-in-Frame : goal.returns-in-Frame
returns-in-Frame c = rw c.in-Frame.is c.receive.ensures

pub returns-in-Notified : goal.returns-in-Notified
returns-in-Notified c = rw c.in-Notified.is c.note.ensures

pub returns-in-Decide : goal.returns-in-Decide
returns-in-Decide c = rw c.in-Decide.is c.decide.ensures

pub returns-in-Mutes : goal.returns-in-Mutes
returns-in-Mutes c = rw c.in-Mutes.is c.mute.ensures

pub returns-in-Show : goal.returns-in-Show
returns-in-Show c = rw c.in-Show.is c.show.ensures

pub returns-in-Tick : goal.returns-in-Tick
returns-in-Tick c = rw c.in-Tick.is c.collect.ensures.tick

pub returns-in-PullFrom : goal.returns-in-PullFrom
returns-in-PullFrom c = rw c.in-PullFrom.is c.pull_from.ensures
