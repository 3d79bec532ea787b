use Rattle.am_http.proofs.FieldLists.{with_name, without_name}
use Rattle.am_http.proofs.fields.field_named.Goals as goal
use Rattle.am_http.proofs.fields.field_named.Goals.{then-eq_ignore_ascii_case, else-eq_ignore_ascii_case}

pub loop-field-preserved : goal.loop-field-preserved
loop-field-preserved c =
    let fields = c.args.fields.now in
    let values = c.loop-field.invariant in
    elim c.if-eq_ignore_ascii_case.branch [
      | then-eq_ignore_ascii_case w ↦ rw w.found-is (with_name _ _ _ _ _ _ _ c.loop-field-test.true c.of.ensures c.eq_ignore_ascii_case.ensures.test _ _ w.if-eq_ignore_ascii_case.true w.of-then-eq_ignore_ascii_case.ensures (w.and-found.ensures _ values))
      | else-eq_ignore_ascii_case w ↦ rw w.found-is (without_name _ _ _ _ _ _ _ c.loop-field-test.true c.of.ensures c.eq_ignore_ascii_case.ensures.test _ w.if-eq_ignore_ascii_case.false values)
    ]
