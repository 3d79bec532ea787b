use Rattle.std.proofs.Common.{sym, ◌∙◌, arith, map}
use Rattle.std.proofs.lemmas.Bool.{ne_eqb}
use Rattle.std.proofs.lemmas.Option.{slice_get_read}
use Rattle.am_runs.specs.Records.{step_of}
use Rattle.am_runs.proofs.Stands.{stands_kept, stands_noted, on_ok_told}
use Rattle.am_runs.proofs.member_index.note.Goals as goal

pub returns-else-is_err : goal.returns-else-is_err
returns-else-is_err g c =
    let member = c.in-Some.member in
    let long = c.len.ensures ∙ c.args.indexes.now.ok.0 in
    stands_noted g.V.Version.seen g.V.Key.Ord.cmp c.args.indexes.now.items member c.index_mut.result.now c.update_indexes.new.index (map step_of c.args.before.now) (step_of c.args.step.now)
    (slice_get_read c.args.indexes.now.items c.len.result member c.index_mut.result.now long c.if-member-len.true c.index_mut.ensures.value)
    c.in-Some.ensures (on_ok_told c.update_indexes.result (sym c.is_err.ensures.value ∙ c.if-is_err.false) c.update_indexes.ensures)

pub returns-else-member-len : goal.returns-else-member-len
returns-else-member-len g c =
    let member = c.in-Some.member in
    let long = c.len.ensures ∙ c.args.indexes.now.ok.0 in
    let past = c.if-member-len.false in
    stands_kept g.V.Version.seen g.V.Key.Ord.cmp c.args.indexes.now.items (map step_of c.args.before.now) (step_of c.args.step.now)
    (λ q within. c.in-Some.ensures q ∙ ne_eqb member q (λ same. omega (arith, long, past, within, same)))

pub returns-in_default : goal.returns-in_default
returns-in_default g c =
    stands_kept g.V.Version.seen g.V.Key.Ord.cmp c.args.indexes.now.items (map step_of c.args.before.now) (step_of c.args.step.now) (λ q within. c.in_default.ensures q)
