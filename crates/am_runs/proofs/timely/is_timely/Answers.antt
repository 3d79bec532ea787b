use Rattle.std.proofs.Common.{◌∙◌, sym, map}
use Rattle.std.proofs.lemmas.Bool.{false≢true}
use Rattle.am_merge.proofs.Keys.{key_order}
use Rattle.am_runs.specs.Records.{step_of}
use Rattle.am_runs.proofs.Spreads.{from_onward, from_swift, from_spread, timely_from}
use Rattle.am_runs.proofs.timely.is_timely.Goals as goal

pub returns-then-not-are_monotone : goal.returns-then-not-are_monotone
returns-then-not-are_monotone g c = λ run. (
  λ t. absurd (false≢true t),
  λ timely. absurd (false≢true (sym c.if-not-are_monotone.true ∙ c.are_monotone.ensures ∙ from_onward 0 (map step_of c.args.steps.now) timely.onward)),
)

pub returns-then-not-all_lasting : goal.returns-then-not-all_lasting
returns-then-not-all_lasting g c = λ run. (
  λ t. absurd (false≢true t),
  λ timely. absurd (false≢true (sym c.if-not-all_lasting.true ∙ c.all_lasting.ensures.1 timely.lasting)),
)

pub returns-then-not-are_swift : goal.returns-then-not-are_swift
returns-then-not-are_swift g c = λ run. (
  λ t. absurd (false≢true t),
  λ timely. absurd (false≢true
      (sym c.if-not-are_swift.true ∙ c.are_swift.ensures ∙ from_swift g.V.Version.seen g.V.Key.Ord.cmp c.args.members c.args.flight
      (map step_of c.args.steps.now) run timely.swift)),
)

pub returns : goal.returns
returns g c = λ run.
    let keys = key_order g.met.V.Key.Ord.total g.met.V.Version.exact_keys in
    let steps = map step_of c.args.steps.now in (
      λ t. timely_from g.V.Version.seen g.V.Key.Ord.cmp keys c.args.spread c.args.flight c.args.members steps run
          (sym c.are_monotone.ensures ∙ c.if-not-are_monotone.false) (c.all_lasting.ensures.0 c.if-not-all_lasting.false)
          (sym c.are_swift.ensures ∙ c.if-not-are_swift.false) (c.all_come_to_all.ensures.0 t),
      λ timely. c.all_come_to_all.ensures.1 (from_spread g.V.Version.seen g.V.Key.Ord.cmp keys c.args.members c.args.spread steps timely.caught_up),
    )
