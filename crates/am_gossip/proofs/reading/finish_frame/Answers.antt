use Rattle.std.proofs.Common.{◌≡◌, ℕ, ◌+◌, ◌-◌, List, length, length-append, refl, ◌∙◌, arith}
use Rattle.std.proofs.lemmas.Result.{IfOk-weaker}
use Rattle.am_gossip.proofs.Fronts.{front_bad, waits_short}
use Rattle.am_gossip.proofs.Waiting.{waits_in_header, waits_in_payload, finished, whole_holds}
use Rattle.am_gossip.proofs.reading.finish_frame.Goals as goal

pub returns-in-Err-clause-read : goal.returns-in-Err-clause-read
returns-in-Err-clause-read c = front_bad _ _ (c.in-Err.ensures _ c.requires.at)

pub returns-in_default-clause-read : goal.returns-in_default-clause-read
returns-in_default-clause-read c = waits_in_header _ _ c.in_default.not-InPayload (c.in-Ok.ensures _ c.requires.at)

pub overflow_sub-missing : goal.overflow_sub-missing
overflow_sub-missing c =
    let header = rw c.in-InPayload.is at (c.in-Ok.ensures _ c.requires.at) in
    let lt = waits_short c.args.held.now.items c.args.piece.now _ _ _ c.requires.unfinished header in
    omega (arith, lt, c.len.ensures)

pub returns-then-piece-missing-clause-read : goal.returns-then-piece-missing-clause-read
returns-then-piece-missing-clause-read c =
    let header = rw c.in-InPayload.is at (c.in-Ok.ensures _ c.requires.at) in
    waits_in_payload c.in-InPayload.head _ header (omega (arith, c.if-piece-missing.true, c.len.ensures, length-append c.args.held.now.items c.args.piece.now))

pub returns-clause-read : goal.returns-clause-read
returns-clause-read c =
    let held : List ℕ = c.args.held.now.items in
    let header = rw c.in-InPayload.is at (c.in-Ok.ensures _ c.requires.at) in
    let lt = waits_short held c.args.piece.now _ _ _ c.requires.unfinished header in
    let missing : ℕ = c.in-InPayload.head.len + c.in-InPayload.head.size - c.len.result in
    let total : c.in-InPayload.head.len + c.in-InPayload.head.size ≡ length held + missing = omega (arith, lt, c.len.ensures) in
    let w = finished c.in-InPayload.head held c.args.piece.now c.deref.result.now _ missing header total c.if-piece-missing.false (c.deref.ensures.value ∙ c.in_ok-extend_from_slice-3.ensures.items) refl in
    IfOk-weaker c.read_whole.result _ _ (λ read is. is _ w) c.read_whole.ensures.read

pub returns-clause-waits : goal.returns-clause-waits
returns-clause-waits c =
    let held : List ℕ = c.args.held.now.items in
    let header = rw c.in-InPayload.is at (c.in-Ok.ensures _ c.requires.at) in
    let lt = waits_short held c.args.piece.now _ _ _ c.requires.unfinished header in
    let missing : ℕ = c.in-InPayload.head.len + c.in-InPayload.head.size - c.len.result in
    let total : c.in-InPayload.head.len + c.in-InPayload.head.size ≡ length held + missing = omega (arith, lt, c.len.ensures) in
    let w = finished c.in-InPayload.head held c.args.piece.now c.deref.result.now _ missing header total c.if-piece-missing.false (c.deref.ensures.value ∙ c.in_ok-extend_from_slice-3.ensures.items) refl in
    IfOk-weaker c.read_whole.result _ _ (λ read is. whole_holds _ _ _ _ read w (is _ w)) c.read_whole.ensures.read
