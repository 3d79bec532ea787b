use Rattle.std.proofs.Common.{rules, ◌≡◌, IfSome}
use Rattle.std.specs.Option.{option_copied}
use Rattle.std.proofs.lemmas.Result.{IfOk-weaker}
use Rattle.am_silence.specs.Plans.{post_of, plan_over, successor, Succeeds}
use Rattle.am_silence.proofs.Planning.{posted_passes, plan-succeeds}
use Rattle.am_silence.proofs.Refusing.{posted_tells_no_memory}
use Rattle.am_silence.proofs.plan.plan_post.Goals as goal

pub returns-clause-live : goal.returns-clause-live
returns-clause-live c =
    c.plan_over.ensures.live (posted_passes (option_copied c.args.held) c.args.posted c.args.verdict c.args.now c.in_ok-held.ensures.tests).0

pub returns-clause-greater : goal.returns-clause-greater
returns-clause-greater c =
    let passed = posted_passes (option_copied c.args.held) c.args.posted c.args.verdict c.args.now c.in_ok-held.ensures.tests in
    let post = post_of c.args.posted c.args.now c.args.bits c.args.retention in
    let greater = plan-succeeds (option_copied c.args.held) post passed.1 in
    IfOk-weaker c.plan_over.result (λ plan. plan ≡ plan_over (option_copied c.in_ok-held.held) post)
    (λ plan. IfSome (successor plan) (λ v. IfSome (option_copied c.args.held) (λ held. Succeeds held v)))
    (λ plan e. rw (e, c.in_ok-held.ensures.held) greater) c.plan_over.ensures.planned

pub returns-in_err-held-clause-memory : goal.returns-in_err-held-clause-memory
returns-in_err-held-clause-memory c =
    let never = posted_tells_no_memory (option_copied c.args.held) c.args.posted c.args.verdict c.args.now _ c.in_err-held.ensures.tests in
    search rules
