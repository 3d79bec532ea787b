use Rattle.std.proofs.Common.{refl}
use Rattle.am_daemon.proofs.Calling.{later_follows, made_follows, nothing_follows, refused_follows}
use Rattle.am_daemon.proofs.member.server_state.ServerState.follow_call.Goals as goal

pub returns-in-Nothing-clause-follows : goal.returns-in-Nothing-clause-follows
returns-in-Nothing-clause-follows g c = rw c.in-Nothing.is (nothing_follows _ _ refl)

pub returns-in-Later-clause-follows : goal.returns-in-Later-clause-follows
returns-in-Later-clause-follows g c = rw c.in-Later.is (later_follows c.in-Later.call _ _ c.put_off.ensures.puts)

pub returns-in-Refused-clause-follows : goal.returns-in-Refused-clause-follows
returns-in-Refused-clause-follows g c = rw c.in-Refused.is (refused_follows c.in-Refused.refusal _ _ c.refuse.ensures.told)

pub returns-in-Made-clause-follows : goal.returns-in-Made-clause-follows
returns-in-Made-clause-follows g c = rw c.in-Made.is (made_follows c.in-Made.making c.in-Made.changes _ _ c.reply_by.ensures.says)
