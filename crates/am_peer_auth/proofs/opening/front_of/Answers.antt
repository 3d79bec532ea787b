use Rattle.std.proofs.Common.{ℕ, List, IfSome, drop, subst, ap, ◌∙◌, arith}
use Rattle.am_peer_auth.specs.Summings.{Covers}
use Rattle.am_peer_auth.proofs.Walked.{long_there, refused_there, short_there, taken_there}
use Rattle.am_peer_auth.proofs.opening.front_of.Goals as goal

pub returns-in-Ok : goal.returns-in-Ok
returns-in-Ok c =
    let one = c.in-Some-split_first_chunk.ensures.cases in
    let two = c.in-Some-split_first_chunk-2.ensures.cases in
    taken_there _ _ _ _ _ _ one.0 one.1 one.2 two.0 two.1 two.2 c.from_be_bytes-size.ensures c.args.origin.lock c.args.origin.sender.now c.args.origin.place c.in-Some.next c.in-Ok.frame (omega arith) (omega arith) c.in-Ok.ensures.right c.in-Ok.ensures.frame c.in-Some.ensures.next

pub returns-in-Err : goal.returns-in-Err
returns-in-Err c =
    let one = c.in-Some-split_first_chunk.ensures.cases in
    let two = c.in-Some-split_first_chunk-2.ensures.cases in
    refused_there _ _ _ _ _ _ one.0 one.1 one.2 two.0 two.1 two.2 c.from_be_bytes-size.ensures c.args.origin.lock c.args.origin.sender.now c.args.origin.place c.in-Err.error (omega arith) (omega arith) c.in-Err.ensures.refused

pub returns-then-size-gt-MOST_TEXT : goal.returns-then-size-gt-MOST_TEXT
returns-then-size-gt-MOST_TEXT c =
    let one = c.in-Some-split_first_chunk.ensures.cases in
    let two = c.in-Some-split_first_chunk-2.ensures.cases in
    long_there _ _ _ _ _ _ one.0 one.1 one.2 two.0 two.1 two.2 c.from_be_bytes-size.ensures (omega arith)

pub returns-then-behind-size : goal.returns-then-behind-size
returns-then-behind-size c =
    let one = c.in-Some-split_first_chunk.ensures.cases in
    let two = c.in-Some-split_first_chunk-2.ensures.cases in (
      short_there _ _ _ _ _ _ one.0 one.1 one.2 two.0 two.1 two.2 c.from_be_bytes-size.ensures (omega arith) (omega arith),
      subst (λ (l : List ℕ). IfSome c.summed.result (λ s. Covers s l)) (two.1 ∙ ap (drop 4) one.1) c.summed.ensures.covers,
    )
