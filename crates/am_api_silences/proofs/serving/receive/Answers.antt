use Rattle.std.proofs.Common.{List, ℕ, ap, length, true, false, subst, arith}
use Rattle.am_http.specs.Requests.{IsReadOf, IsUnfinished}
use Rattle.am_api_silences.proofs.Receiving.{decided, ended, failed, grown, just, lost, unfinished_small}
use Rattle.am_api_silences.proofs.serving.receive.Goals as goal

pub returns-in_default : goal.returns-in_default
returns-in_default g c =
    let is = subst (λ (bytes : List ℕ). IsReadOf bytes false c.read_request.result) c.deref.ensures.value c.read_request.ensures in
    decided _ _ c.loop-read.bytes.items c.read_request.result c.loop-read.invariant.consumed c.loop-read.invariant.just is c.in_default.not-More

pub read_some-requires : goal.read_some-requires
read_some-requires g c =
    let wanting = subst IsUnfinished c.deref.ensures.value c.in-More.ensures.0 in
    let small = unfinished_small c.loop-read.bytes.items wanting in
    record { room = omega (arith, small, c.loop-read.bytes.ok.0) }

pub loop-read-preserved : goal.loop-read-preserved
loop-read-preserved g c =
    let wanting = subst IsUnfinished c.deref.ensures.value c.in-More.ensures.0 in
    let once = rw c.in-Ok-true.field-0-test at c.in-Ok-true.ensures.once in
    record {
      consumed = grown _ _ _ _ _ c.loop-read.invariant.consumed once.0;
      just = just _ _ _ _ wanting once.0 once.3;
    }

pub returns-in-Ok-false : goal.returns-in-Ok-false
returns-in-Ok-false g c =
    let wanting = subst IsUnfinished c.deref.ensures.value c.in-More.ensures.0 in
    let once = rw c.in-Ok-false.field-0-test at c.in-Ok-false.ensures.once in
    let is = subst (λ (bytes : List ℕ). IsReadOf bytes true c.read_request-in-Ok-false.result) c.deref-in-Ok-false.ensures.value c.read_request-in-Ok-false.ensures in
    ended _ _ c.read_some.new.bytes.items c.read_request-in-Ok-false.result (grown _ _ _ _ _ c.loop-read.invariant.consumed once.0) (just _ _ _ _ wanting once.0 (omega (arith, ap length once.1))) once.3 is

pub returns-in-Err-Read : goal.returns-in-Err-Read
returns-in-Err-Read g c =
    let wanting = subst IsUnfinished c.deref.ensures.value c.in-More.ensures.0 in
    let once = rw c.in-Err-Read.field-0-is at c.in-Err-Read.ensures.once in
    failed _ _ _ _ c.read_some.new.bytes.items 1064960 c.len.result c.loop-read.invariant.consumed wanting once (omega (arith, c.len.ensures, c.read_some.new.bytes.ok.0))

pub returns-in-Err-Memory : goal.returns-in-Err-Memory
returns-in-Err-Memory g c =
    let wanting = subst IsUnfinished c.deref.ensures.value c.in-More.ensures.0 in
    let once = rw c.in-Err-Memory.field-0-is at c.in-Err-Memory.ensures.once in
    lost _ _ _ _ c.read_some.new.bytes.items 1064960 c.refusal.result c.loop-read.invariant.consumed wanting once c.refusal.ensures
