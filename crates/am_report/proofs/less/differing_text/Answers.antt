use Rattle.std.proofs.Common.{List, ℕ, ◌++◌, ap, ap₂, ◌∙◌}
use Rattle.am_report.specs.UnknownFields.{differing}
use Rattle.am_report.proofs.less.differing_text.Goals as goal

pub returns : goal.returns
returns g c =
    c.in_ok-append_differing.ensures ∙ ap (λ (t : List ℕ). t ++ differing c.in_ok-fields.fields c.in_ok-others.others) c.new-numbers.ensures.bytes
    ∙ ap₂ differing c.in_ok-fields.ensures c.in_ok-others.ensures
