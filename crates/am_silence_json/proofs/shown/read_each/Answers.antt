use Rattle.std.proofs.Common.{arith}
use Rattle.std.proofs.lemmas.List.Elements.{All-push}
use Rattle.std.proofs.lemmas.Result.{err_from_is_err_and}
use Rattle.am_silence.specs.Mesh.{IsMesh}
use Rattle.am_silence_json.specs.Shown.{FitsMessage}
use Rattle.am_silence_json.proofs.EachShown.{one_shown, first_at}
use Rattle.am_silence_json.proofs.shown.read_each.Goals as goal

pub returns-in_err-silence-clause-wrong : goal.returns-in_err-silence-clause-wrong
returns-in_err-silence-clause-wrong c = λ i key e.
    let p = err_from_is_err_and c.from_residual-in_err-silence.result c.from_residual-in_err-silence.ensures.1 in
    let told = rw (p.1, p.2) at e in
    let wrong = c.in_err-silence.ensures.wrong i key (cc told) in
    let so_far = c.loop-place.invariant in record {
      object = _;
      first = rw wrong.0 (first_at _ _ _ _ (omega arith) c.index-objects-place.is so_far.0 so_far.2);
      wrong = wrong.1;
    }

pub returns-in_err-silence-clause-too_large : goal.returns-in_err-silence-clause-too_large
returns-in_err-silence-clause-too_large c = λ i e.
    let p = err_from_is_err_and c.from_residual-in_err-silence.result c.from_residual-in_err-silence.ensures.1 in
    let told = rw (p.1, p.2) at e in
    let large = c.in_err-silence.ensures.too_large i (cc told) in
    let so_far = c.loop-place.invariant in record {
      object = _;
      first = rw large.0 (first_at _ _ _ _ (omega arith) c.index-objects-place.is so_far.0 so_far.2);
      large = large.1;
    }

pub loop-place-preserved : goal.loop-place-preserved
loop-place-preserved c =
    let so_far = c.loop-place.invariant in
    let read = c.in_ok-silence.ensures in
    rw c.in_ok-push.ensures.items (
      one_shown _ _ _ _ _ (omega arith) c.index-objects-place.is so_far.0 read.read,
      All-push IsMesh _ _ so_far.1 read.value,
      All-push FitsMessage _ _ so_far.2 read.within,
    )
