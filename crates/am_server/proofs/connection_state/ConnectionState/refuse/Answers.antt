use Rattle.std.proofs.Common.{◌∙◌, ap, inr}
use Rattle.am_server.specs.Talks.{Talk, gone_of}
use Rattle.am_server.proofs.Sayings.{keeps_line, line_made, line_told, next_gone, told_keeps}
use Rattle.am_server.proofs.connection_state.ConnectionState.refuse.Goals as goal

pub returns-clause-refused : goal.returns-clause-refused
returns-clause-refused c refuses = record {
  auth_phase = ap (λ (t : Talk). t.auth_phase) c.say.ensures.said;
  session = ap (λ (t : Talk). t.session) c.say.ensures.said ∙ c.stop.ensures;
  waiting = ap (λ (t : Talk). t.waiting) c.say.ensures.said;
  saying = keeps_line _ _ _ (ap (λ (t : Talk). t.saying) c.say.ensures.said) (line_made _ _ _ c.refuse-making.ensures refuses c.finish.ensures);
}

pub returns-clause-closes : goal.returns-clause-closes
returns-clause-closes c = record {
  auth_phase = ap (λ (t : Talk). t.auth_phase) c.say.ensures.said;
  session = ap (λ (t : Talk). t.session) c.say.ensures.said ∙ c.stop.ensures;
  waiting = inr (ap (λ (t : Talk). t.waiting) c.say.ensures.said);
}

pub returns-clause-gone : goal.returns-clause-gone
returns-clause-gone c = ap gone_of (ap (λ (t : Talk). t.saying) c.say.ensures.said) ∙ next_gone _ _

pub returns-clause-told : goal.returns-clause-told
returns-clause-told c = told_keeps _ _ _ _ _ c.refuse-making.ensures c.finish.ensures (ap (λ (t : Talk). t.saying) c.say.ensures.said)

pub returns-clause-line : goal.returns-clause-line
returns-clause-line c = (c.finish.result, line_told _ _ _ c.refuse-making.ensures c.finish.ensures, ap (λ (t : Talk). t.saying) c.say.ensures.said)
