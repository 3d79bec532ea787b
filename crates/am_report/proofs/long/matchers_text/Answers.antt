use Rattle.std.proofs.Common.{List, ℕ, ◌++◌, ap, ◌∙◌, codes}
use Rattle.am_report.specs.Lists.{behind_commas}
use Rattle.am_report.specs.Long.{matcher_word}
use Rattle.am_report.proofs.Listing.{matchers_first, matchers_none}
use Rattle.am_report.proofs.long.matchers_text.Goals as goal

pub returns-in_default : goal.returns-in_default
returns-in_default c =
    c.in_ok-push_str.ensures.bytes ∙ ap (λ (t : List ℕ). t ++ codes "-") c.new-text.ensures.bytes
    ∙ matchers_none c.args.matchers c.in_default.ensures.steps.0

pub returns : goal.returns
returns c =
    c.in_ok-append_matchers.ensures
    ∙ ap (λ (t : List ℕ). t ++ behind_commas matcher_word c.next.new.self)
    (c.in_ok-append_matcher.ensures ∙ ap (λ (t : List ℕ). t ++ matcher_word c.in-Some.first) c.new-text.ensures.bytes)
    ∙ matchers_first c.args.matchers c.next.new.self c.in-Some.first c.in-Some.ensures.steps
