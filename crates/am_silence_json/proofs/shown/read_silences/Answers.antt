use Rattle.std.proofs.Common.{map}
use Rattle.std.proofs.lemmas.Result.{err_from_is_err_and}
use Rattle.serde_json.specs.View.{view}
use Rattle.am_silence_json.proofs.EachShown.{list_text}
use Rattle.am_silence_json.proofs.shown.read_silences.Goals as goal

pub returns-in_err-silences-clause-too_large : goal.returns-in_err-silences-clause-too_large
returns-in_err-silences-clause-too_large c = λ i e.
    let p = err_from_is_err_and c.from_residual-in_err-silences.result c.from_residual-in_err-silences.ensures.1 in
    let told = rw (p.1, p.2) at e in
    let large = c.in_err-silences.ensures.too_large i told in
    (map view c.as_slice.result.now, list_text _ _ _ c.in_ok-list.ensures.read (rw c.as_slice.ensures.value c.in-Some.ensures), large)
