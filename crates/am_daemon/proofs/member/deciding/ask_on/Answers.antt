use Rattle.std.proofs.lemmas.Result.{err_from_is_err_and}
use Rattle.am_api_decisions.proofs.Same.{same_on}
use Rattle.am_server.proofs.Calls.{on_underway, stopped_answer}
use Rattle.am_server.proofs.Steps.{going_on_made, made_on}
use Rattle.am_daemon.proofs.member.deciding.ask_on.Goals as goal
use Rattle.am_daemon.proofs.member.deciding.ask_on.Goals.{else-loop-test, then-loop-test+in_ok-left+then-is_asked}

pub returns-in_err-left-clause-steps : goal.returns-in_err-left-clause-steps
returns-in_err-left-clause-steps g c = made_on _ _ _ _ c.loop.invariant.steps
    (going_on_made c.next_moment-now.result _ c.loop.left c.loop.instance c.resume.result c.resume.new.instance c.resume.ensures.asked)

pub returns-in_err-left-clause-same : goal.returns-in_err-left-clause-same
returns-in_err-left-clause-same g c = same_on _ _ _ c.loop.invariant.same c.resume.ensures.same

pub returns-in_err-left-clause-stopped : goal.returns-in_err-left-clause-stopped
returns-in_err-left-clause-stopped g c =
    let p = err_from_is_err_and c.from_residual.result c.from_residual.ensures.1 in
    rw (p.1, p.2) (λ question underway.
    stopped_answer question c.next_moment-now.result c.loop.left _ c.loop.instance _ c.resume.new.instance (c.loop.invariant.asked question underway) c.loop.invariant.same
    c.in_err-left.ensures.asked)

pub loop-preserved : goal.loop-preserved
loop-preserved g c = record {
  steps = made_on _ _ _ _ c.loop.invariant.steps
      (going_on_made c.next_moment-now.result _ c.loop.left c.loop.instance c.resume.result c.resume.new.instance c.resume.ensures.asked);
  same = same_on _ _ _ c.loop.invariant.same c.resume.ensures.same;
  asked = λ question underway. on_underway question c.next_moment-now.result _ c.loop.left _ c.loop.instance c.resume.new.instance
      (c.loop.invariant.asked question underway) c.in_ok-left.ensures.asked;
}

pub returns-clause-steps : goal.returns-clause-steps
returns-clause-steps g c = elim c.loop-test.branch [
  | else-loop-test w ↦ rw w.instance-is c.loop.invariant.steps
  | then-loop-test+in_ok-left+then-is_asked w ↦ rw w.instance-is (made_on _ _ _ _ c.loop.invariant.steps
      (going_on_made w.next_moment-now.result _ c.loop.left c.loop.instance w.resume.result w.resume.new.instance w.resume.ensures.asked))
]

pub returns-clause-same : goal.returns-clause-same
returns-clause-same g c = elim c.loop-test.branch [
  | else-loop-test w ↦ rw w.instance-is c.loop.invariant.same
  | then-loop-test+in_ok-left+then-is_asked w ↦ rw w.instance-is (same_on _ _ _ c.loop.invariant.same w.resume.ensures.same)
]

pub returns-clause-asked : goal.returns-clause-asked
returns-clause-asked g c = elim c.loop-test.branch [
  | else-loop-test w ↦ rw w.left-is c.loop.invariant.asked
  | then-loop-test+in_ok-left+then-is_asked w ↦ rw w.left-is (λ question underway.
      on_underway question w.next_moment-now.result _ c.loop.left _ c.loop.instance w.resume.new.instance
      (c.loop.invariant.asked question underway) w.in_ok-left.ensures.asked)
]
