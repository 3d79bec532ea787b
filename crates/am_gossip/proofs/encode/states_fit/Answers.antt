use Rattle.std.proofs.Common.{◌<◌, ◌+◌, arith, sym, length}
use Rattle.am_gossip.proofs.Limits.{states_over}
use Rattle.am_gossip.proofs.encode.states_fit.Goals as goal
use Rattle.am_gossip.proofs.encode.states_fit.Goals.{then-silences-limit-via-then-silences-limit, then-silences-limit-via-else-silences-limit+then-log-limit}

pub returns-then-silences-limit-clause-push : goal.returns-then-silences-limit-clause-push
returns-then-silences-limit-clause-push c = λ s l of_silences of_log.
    let limit = c.limit-limit.ensures in
    let over : 67_108_864 < length s + length l = elim c.then-silences-limit.branch [
      | then-silences-limit-via-then-silences-limit w ↦ omega (arith, limit, of_silences, of_log, w.if-silences-limit.true)
      | then-silences-limit-via-else-silences-limit+then-log-limit w ↦ omega (arith, limit, of_silences, of_log, w.if-log-limit.true)
    ] in
    sym (states_over s l 67_108_864 over)

pub returns-then-silences-limit-clause-pull : goal.returns-then-silences-limit-clause-pull
returns-then-silences-limit-clause-pull c = λ s l of_silences of_log.
    let limit = c.limit-limit.ensures in
    let over : 67_108_864 < length s + length l = elim c.then-silences-limit.branch [
      | then-silences-limit-via-then-silences-limit w ↦ omega (arith, limit, of_silences, of_log, w.if-silences-limit.true)
      | then-silences-limit-via-else-silences-limit+then-log-limit w ↦ omega (arith, limit, of_silences, of_log, w.if-log-limit.true)
    ] in
    sym (states_over s l 67_108_864 over)
