use Rattle.std.proofs.Common.{◌≡◌, [], ◌∷◌, ◌++◌, inl, inr, length, ap, sym, refl, ◌∙◌, length-append, arith}
use Rattle.std.specs.Vec.Iter.{into_iter_items}
use Rattle.std.proofs.lemmas.List.{nil_from_length}
use Rattle.std.proofs.lemmas.Result.{err_from_is_err_and}
use Rattle.am_api_decisions.specs.Asking.{AskedAlert}
use Rattle.am_api_decisions.specs.Deciding.{Underway}
use Rattle.am_api_decisions.proofs.AskedMore.{next_asked, none_asked}
use Rattle.am_api_decisions.proofs.Same.{asked_same, same_on, stop_same}
use Rattle.am_api_decisions.proofs.Whole.{gone_on, stopped_at}
use Rattle.am_api_decisions.proofs.deciding.Deciding.resume.Goals as goal
use Rattle.am_api_decisions.proofs.deciding.Deciding.resume.Goals.{else-loop-count-test, then-loop-count-test+in-None}

pub loop-count-init : goal.loop-count-init
loop-count-init c = ([], none_asked _ _ _ _, refl, c.self.invariant)

pub loop-count-preserved : goal.loop-count-preserved
loop-count-preserved c =
    let before = c.loop-count.invariant in
    let first = c.in-Some.ensures.cases in
    let asked = c.in_ok-ask_one-in-Some.ensures.asked in
    let one : AskedAlert = record { alert = c.in-Some.alert; ids = asked.0 } in (
      before.0 ++ one ∷ [],
      next_asked _ _ _ _ _ _ _ _ _ before.0 one _ first.0 before.1 asked.1 asked.2,
      omega (arith, length-append before.0 (one ∷ []), before.2),
      omega (arith, first.1, ap length first.0, before.3),
    )

pub returns-clause-asked : goal.returns-clause-asked
returns-clause-asked c =
    let before = c.loop-count.invariant in
    let given : Underway = record { group = c.self.inside.group; left = into_iter_items c.self.inside.left; counted = c.self.inside.tally } in
    let after : Underway = record { group = c.self.inside.group; left = into_iter_items c.loop-count-test.left; counted = c.loop-count.tally } in
    elim c.loop-count-test.branch [
      | else-loop-count-test w ↦
          let same : into_iter_items c.loop-count.left ≡ into_iter_items c.loop-count-test.left = rw w.left-is refl in
          let whole : c.loop-count._count ≡ c.args.most = omega (arith, w.loop-count-test.false, c.loop-count.auto._count-end) in
          gone_on c.args.now c.args.most c.loop-count._count given c.args.self after c.args.instance.now c.loop-count.instance before.0 _ c.self.view_is before.1 same
          before.2 c.loop-count.auto._count-end (inl whole) refl
      | then-loop-count-test+in-None w ↦
          let same : into_iter_items c.loop-count.left ≡ into_iter_items c.loop-count-test.left = rw w.left-is w.in-None.ensures.items in
          let none : into_iter_items c.loop-count-test.left ≡ [] = sym same ∙ nil_from_length _ (sym before.3 ∙ w.in-None.ensures.cases.0) in
          gone_on c.args.now c.args.most c.loop-count._count given c.args.self after c.args.instance.now c.loop-count.instance before.0 _ c.self.view_is before.1 same
          before.2 c.loop-count.auto._count-end (inr none) refl
    ]

pub returns-in_err-ask_one-in-Some-clause-asked : goal.returns-in_err-ask_one-in-Some-clause-asked
returns-in_err-ask_one-in-Some-clause-asked c =
    let before = c.loop-count.invariant in
    let first = c.in-Some.ensures.cases in
    let given : Underway = record { group = c.self.inside.group; left = into_iter_items c.self.inside.left; counted = c.self.inside.tally } in
    let p = err_from_is_err_and c.from_residual.result c.from_residual.ensures.1 in
    rw (p.1, p.2) (
    stopped_at c.args.now given c.args.self c.args.instance.now c.loop-count.instance c.ask_one.new.instance before.0 c.in-Some.alert _ _ _ _ c.self.view_is before.1
    first.0 c.in_err-ask_one-in-Some.ensures.stopped)

pub returns-clause-same : goal.returns-clause-same
returns-clause-same c =
    let before = c.loop-count.invariant in
    asked_same c.args.now before.0 c.args.instance.now c.loop-count.instance before.1.steps

pub returns-in_err-ask_one-in-Some-clause-same : goal.returns-in_err-ask_one-in-Some-clause-same
returns-in_err-ask_one-in-Some-clause-same c =
    let before = c.loop-count.invariant in
    same_on c.args.instance.now c.loop-count.instance c.ask_one.new.instance (asked_same c.args.now before.0 c.args.instance.now c.loop-count.instance before.1.steps)
    (stop_same c.args.now _ c.loop-count.instance c.ask_one.new.instance _ c.in_err-ask_one-in-Some.ensures.stopped)
