use Rattle.std.proofs.Common.{◌≡◌, ◌∙◌, subst, sym, rules}
use Rattle.std.proofs.lemmas.List.Elements.{All-head, All-tail}
use Rattle.am_matcher.specs.Uses.{is_used_by, SilencesPass, PatternsPass}
use Rattle.am_matcher.proofs.Uses.{used_by_themselves}
use Rattle.am_matcher.proofs.Keepings.{unmarked_pass}
use Rattle.am_matcher.proofs.entries.mark_used.Goals as goal

pub loop-version-init : goal.loop-version-init
loop-version-init c =
    let whole : c.into_iter-version-iterator.result ≡ c.args.held.now = search rules in record {
      same = c.unmark_all.ensures.same;
      rest = subst (SilencesPass (is_used_by c.args.held.now)) (sym whole) (used_by_themselves c.args.held.now);
      used = unmarked_pass (is_used_by c.args.held.now) c.unmark_all.new.entries.items c.unmark_all.ensures.none;
    }

pub loop-version-preserved : goal.loop-version-preserved
loop-version-preserved c =
    let test = is_used_by c.args.held.now in
    let all = subst (SilencesPass test) c.in-Some.ensures.steps c.loop-version.invariant.rest in record {
      same = c.mark_all.ensures.same ∙ c.loop-version.invariant.same;
      rest = All-tail (λ m. PatternsPass test m.silence.matchers) _ _ all;
      used = c.mark_all.ensures.used test (subst (PatternsPass test) (sym c.matchers.ensures) (All-head (λ m. PatternsPass test m.silence.matchers) _ _ all)) c.loop-version.invariant.used;
    }
