use Rattle.std.proofs.Common.{subst}
use Rattle.serde_json.specs.Data.{Data}
use Rattle.am_silence_json.specs.Tokens.{Adds, data_tokens}
use Rattle.am_report.proofs.OneValue.{shown_is}
use Rattle.am_report.proofs.json_lines.shown.add_shown.Goals as goal

pub returns : goal.returns
returns c =
    let shown = rw c.state_at.ensures.state at c.in_ok-add_silence.ensures in
    subst (λ (d : Data). Adds c.args.out.now c.add_silence.new.out (data_tokens d))
    (shown_is c.moments_have_one_text.ensures c.args.now c.args.silence.now shown.0 shown.1) shown.2
