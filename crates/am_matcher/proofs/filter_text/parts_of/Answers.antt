use Rattle.am_matcher.proofs.Splits.{split_of, no_name, no_sign}
use Rattle.am_matcher.proofs.filter_text.parts_of.Goals as goal

pub returns-in_err-name : goal.returns-in_err-name
returns-in_err-name c = rw c.from_residual.ensures (no_name c.args.text.now _ _ c.skip_blanks.ensures.1 c.in_err-name.ensures)

pub returns-in_err-kind : goal.returns-in_err-kind
returns-in_err-kind c =
    rw c.from_residual-in_err-kind.ensures
    (no_sign c.args.text.now _ _ _ _ _ _ c.skip_blanks.ensures.1 c.in_ok-name.ensures.1 c.skip_blanks-2.ensures.1 c.in_err-kind.ensures)

pub returns : goal.returns
returns c =
    split_of _ _ _ _ (record {
      before = c.skip_blanks.ensures.0;
      from_name = c.skip_blanks.result.now;
      first = c.skip_blanks.ensures.1;
      begins = c.in_ok-name.ensures.0;
      past_name = c.in_ok-name.rest.now;
      second = c.in_ok-name.ensures.1;
      between = c.skip_blanks-2.ensures.0;
      from_sign = c.skip_blanks-2.result.now;
      third = c.skip_blanks-2.ensures.1;
      sign = c.in_ok-kind.ensures.0;
      past_sign = c.in_ok-kind.rest.now;
      signed = c.in_ok-kind.ensures.1;
      after = c.skip_blanks-3.ensures.0;
      from_value = c.skip_blanks-3.result.now;
      fourth = c.skip_blanks-3.ensures.1;
      behind = c.drop_blanks.ensures.0;
      last = c.drop_blanks.ensures.1;
    })
