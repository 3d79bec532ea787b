use Rattle.std.proofs.Common.{rules}
use Rattle.am_silence_json.proofs.post.read_rest.Goals as goal

pub returns-in_default-clause-wrong : goal.returns-in_default-clause-wrong
returns-in_default-clause-wrong c = λ id matchers.
    record { wrong = λ h. cc (c.in_default.ensures.only h.0 h.1); before = (id, (matchers, tt)) }

pub returns-in_default-moment_in-clause-wrong : goal.returns-in_default-moment_in-clause-wrong
returns-in_default-moment_in-clause-wrong c = λ id matchers.
    record { wrong = λ h. cc (c.in_default-moment_in.ensures.only h.0 h.1); before = (id, (matchers, ((_, c.in-Some.ensures.value), tt))) }

pub returns-in_default-text_in-2-clause-wrong : goal.returns-in_default-text_in-2-clause-wrong
returns-in_default-text_in-2-clause-wrong c = λ id matchers. record {
  wrong = λ h. let none = rw (← c.in_default-text_in-2.ensures) at h in search rules;
  before =
      (id, (matchers, ((_, c.in-Some.ensures.value), ((_, c.in-Some-moment_in.ensures.value), (rw (← c.in-Some-text_in.ensures) (search rules), tt)))));
}
