use Rattle.std.proofs.Common.{refl, rules}
use Rattle.am_silence_json.proofs.shown.read_shown.Goals as goal

pub returns-in_default-cut_in-clause-wrong : goal.returns-in_default-cut_in-clause-wrong
returns-in_default-cut_in-clause-wrong c =
    record { wrong = λ h. c.in_default-cut_in.ensures.none refl h.0 h.1; before = (rw (← c.in-Some.ensures) (search rules), tt) }

pub returns-in_default-cut_in-2-clause-wrong : goal.returns-in_default-cut_in-2-clause-wrong
returns-in_default-cut_in-2-clause-wrong c = record {
  wrong = λ h. c.in_default-cut_in-2.ensures.none refl h.0 h.1;
  before = (rw (← c.in-Some.ensures) (search rules), ((_, c.in-Some-cut_in.ensures.value.here), tt));
}

pub returns-in_default-cut_in-3-clause-wrong : goal.returns-in_default-cut_in-3-clause-wrong
returns-in_default-cut_in-3-clause-wrong c = record {
  wrong = λ h. c.in_default-cut_in-3.ensures.none refl h.0 h.1;
  before =
      (rw (← c.in-Some.ensures) (search rules), ((_, c.in-Some-cut_in.ensures.value.here), ((_, c.in-Some-cut_in-2.ensures.value.here), tt)));
}

pub returns-in_default-text_in-clause-wrong : goal.returns-in_default-text_in-clause-wrong
returns-in_default-text_in-clause-wrong c = record {
  wrong = λ h. let none = rw (← c.in_default-text_in.ensures) at h in search rules;
  before = (
    rw (← c.in-Some.ensures) (search rules),
    ((_, c.in-Some-cut_in.ensures.value.here), ((_, c.in-Some-cut_in-2.ensures.value.here), ((_, c.in-Some-cut_in-3.ensures.value.here), tt))),
  );
}

pub returns-in_default-text_in-2-clause-wrong : goal.returns-in_default-text_in-2-clause-wrong
returns-in_default-text_in-2-clause-wrong c = record {
  wrong = λ h. let none = rw (← c.in_default-text_in-2.ensures) at h in search rules;
  before = (
    rw (← c.in-Some.ensures) (search rules),
    (
      (_, c.in-Some-cut_in.ensures.value.here),
      (
        (_, c.in-Some-cut_in-2.ensures.value.here),
        (
          (_, c.in-Some-cut_in-3.ensures.value.here),
          (rw (← c.in-Some-text_in.ensures) (search rules), tt),
        ),
      ),
    ),
  );
}
