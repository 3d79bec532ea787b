use Rattle.std.proofs.Common.{◌≡◌, ◌∙◌, List, Bool, ◌&&◌, [], get_or, sym, ap, subst}
use Rattle.std.proofs.lemmas.List.Elements.{All-more}
use Rattle.std.proofs.lemmas.List.Folds.{list_all_more}
use Rattle.am_silence.specs.declared.matcher.Matcher.{Matcher}
use Rattle.am_matcher.specs.declared.dialect.Dialect.TheVariants.{Regex}
use Rattle.am_matcher.specs.declared.labels.Label.{Label}
use Rattle.am_matcher.specs.Dialects.{DoesMatch}
use Rattle.am_matcher.specs.Matching.{IsSoundMatcher, IsBrokenMatcher, matches_value}
use Rattle.am_matcher.proofs.HandedOn.{handed_on}
use Rattle.am_matcher.proofs.Meant.{match_itself, refused_itself}
use Rattle.am_matcher.proofs.judged.judge_each.Goals as goal

pub loop-matcher-preserved : goal.loop-matcher-preserved
loop-matcher-preserved c =
    let at = c.loop-matcher.matcher-index in
    let here = c.matcher-item.result in
    let within = c.loop-matcher-test.true in
    let is : c.borrowed.result ≡ get_or c.args.matchers.now at here = c.borrowed.ensures ∙ c.matcher-item.is in
    let judged = match_itself c.borrowed.result [] c.in_ok-matches.matches
    (subst (λ (ls : List Label). DoesMatch Regex c.borrowed.result ls c.in_ok-matches.matches) c.none-labels.ensures c.in_ok-matches.ensures.answer) in
    let before = c.loop-matcher.invariant in record {
      answer =
          ap (λ (b : Bool). c.loop-matcher.every && b) (judged.0 ∙ ap (λ (m : Matcher). matches_value m []) is)
          ∙ ap (λ (b : Bool). b && matches_value (get_or c.args.matchers.now at here) []) before.answer
          ∙ sym (list_all_more (λ m. matches_value m []) c.args.matchers.now at here within);
      sound = All-more IsSoundMatcher c.args.matchers.now at here within before.sound (subst IsSoundMatcher is judged.1);
    }

pub returns-in_err-matches-clause-broken : goal.returns-in_err-matches-clause-broken
returns-in_err-matches-clause-broken c bad =
    let broken = c.in_err-matches.ensures.broken (handed_on c.from_residual.result c.in_err-matches.field-0.0 _ c.from_residual.ensures.1 bad) in
    (c.loop-matcher.matcher-index, c.matcher-item.result, c.loop-matcher-test.true, sym c.matcher-item.is, subst IsBrokenMatcher c.borrowed.ensures (refused_itself c.borrowed.result broken))
