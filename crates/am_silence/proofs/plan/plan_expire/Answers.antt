use Rattle.std.proofs.Common.{rules, ◌≡◌, false, IfSome}
use Rattle.std.specs.Option.{option_copied}
use Rattle.std.proofs.lemmas.Result.{IfOk-weaker}
use Rattle.am_silence.specs.States.{has_expired}
use Rattle.am_silence.specs.Plans.{ended_version, Succeeds}
use Rattle.am_silence.proofs.Planning.{ended-succeeds}
use Rattle.am_silence.proofs.Refusing.{newer_tells_no_memory}
use Rattle.am_silence.proofs.plan.plan_expire.Goals as goal

pub returns-clause-greater : goal.returns-clause-greater
returns-clause-greater c =
    let held = c.in-Some.held.now in
    let lives : has_expired held.silence c.args.now ≡ false = search rules in
    let made = ended-succeeds held c.args.now c.args.retention lives c.in_ok-check_older.ensures.tests in
    IfOk-weaker c.ended_version.result (λ v. v ≡ ended_version held c.args.now c.args.retention)
    (λ v. IfSome (option_copied c.args.held) (λ h. Succeeds h v))
    (λ v e. rw (e, c.in-Some.is) made) c.ended_version.ensures.made

pub returns-in_err-check_older-clause-memory : goal.returns-in_err-check_older-clause-memory
returns-in_err-check_older-clause-memory c =
    let never = newer_tells_no_memory c.in-Some.held.now.silence c.args.now _ c.in_err-check_older.ensures.tests in
    search rules
