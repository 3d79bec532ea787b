use Rattle.std.proofs.Common.{◌≡◌, ◌++◌, map, Vec, Global, Err, ap, ◌∙◌}
use Rattle.std.proofs.lemmas.Result.{IfOk-weaker}
use Rattle.serde_json.specs.Data.{array}
use Rattle.serde_json.specs.View.{items_of}
use Rattle.serde_json.specs.Written.{compact_text}
use Rattle.am_silence.specs.Mesh.{Mesh}
use Rattle.am_silence_json.specs.Shown.{cut_to_shown}
use Rattle.am_silence_json.proofs.OneList.{one_list}
use Rattle.am_silence_json.proofs.ListAgain.{text_of_list, written_list}
use Rattle.am_silence_json.proofs.Refused.{of_each_error, why_refused}
use Rattle.am_silence_json.proofs.laws.reads_again.Goals as goal

pub returns-clause-round_trip : goal.returns-clause-round_trip
returns-clause-round_trip c =
    let rows = c.args.rows.now in
    let written = c.in_ok-body.ensures in
    let text = compact_text (array (items_of written.0)) in
    let body : c.as_slice.result.now ≡ text = c.as_slice.ensures.value ∙ written.2 ∙ ap (λ out. out ++ text) c.new.ensures.items in
    let listed = rw (← body) at (written_list rows written.0 c.rows_are_values.ensures written.1) in
    IfOk-weaker c.read_silences.result _ _ (λ (vs : Vec Mesh Global) h. one_list _ vs.items (map (λ row. cut_to_shown row.0) rows) h listed) c.read_silences.ensures.read

pub returns-clause-refused : goal.returns-clause-refused
returns-clause-refused c =
    let rows = c.args.rows.now in
    let written = c.in_ok-body.ensures in
    let text = compact_text (array (items_of written.0)) in
    let body : c.as_slice.result.now ≡ text = c.as_slice.ensures.value ∙ written.2 ∙ ap (λ out. out ++ text) c.new.ensures.items in
    let list = rw (← body) at (text_of_list rows written.0 c.rows_are_values.ensures written.1) in
    let read = c.read_silences.ensures in
    of_each_error _ _ (λ e is. why_refused _ rows written.0 written.1 list e
    (λ same. read.bad_json (is ∙ ap Err same)) (λ same. read.no_list (is ∙ ap Err same))
    (λ i key same. read.wrong i key (is ∙ ap Err same)) (λ i same. read.too_large i (is ∙ ap Err same)))
