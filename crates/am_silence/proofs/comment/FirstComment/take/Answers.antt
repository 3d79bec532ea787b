use Rattle.std.proofs.Common.{[], refl}
use Rattle.std.proofs.lemmas.Result.{err_from_is_err_and}
use Rattle.am_wire.specs.Reading.{fields_in}
use Rattle.am_silence.specs.Comments.{comment}
use Rattle.am_silence.proofs.FirstComments.{comment_first, comment_later}
use Rattle.am_silence.proofs.Judging.{value-passed, fault-found, then-right}
use Rattle.am_silence.proofs.comment.FirstComment.take.Goals as goal

pub returns-in_err-finish-clause-fault : goal.returns-in_err-finish-clause-fault
returns-in_err-finish-clause-fault c =
    let p = err_from_is_err_and c.from_residual-in_err-finish.result c.from_residual-in_err-finish.ensures.1 in
    let fs = fields_in comment c.args.field.inside c.in-Bytes.bytes.now in
    rw (p.1, p.2) (λ ne. rw c.in-Bytes.is (then-right _ _ _ c.in_ok-take_fields.ensures.clean (fault-found _ _ _ (c.in_err-finish.ensures fs (c.in_ok-take_fields.ensures.held [] c.start-draft.ensures) ne))))

pub returns-then-not-self-clause-held : goal.returns-then-not-self-clause-held
returns-then-not-self-clause-held c = λ es is h.
    let fs = fields_in comment c.args.field.inside c.in-Bytes.bytes.now in
    let held = c.in_ok-take_fields.ensures.held [] c.start-draft.ensures in
    comment_first es _ c.args.self.now h fs _ is (rw c.in-Bytes.is refl) c.if-not-self.true (record { given = refl; author = held.author; text = held.text })

pub returns-then-not-self-clause-clean : goal.returns-then-not-self-clause-clean
returns-then-not-self-clause-clean c =
    let fs = fields_in comment c.args.field.inside c.in-Bytes.bytes.now in
    rw c.in-Bytes.is (then-right _ _ _ c.in_ok-take_fields.ensures.clean (value-passed _ _ _ (c.in_ok-finish.ensures fs (c.in_ok-take_fields.ensures.held [] c.start-draft.ensures))))

pub returns-else-not-self-clause-held : goal.returns-else-not-self-clause-held
returns-else-not-self-clause-held c = λ es is h. comment_later es _ c.args.self.now h is c.if-not-self.false

pub returns-else-not-self-clause-clean : goal.returns-else-not-self-clause-clean
returns-else-not-self-clause-clean c =
    let fs = fields_in comment c.args.field.inside c.in-Bytes.bytes.now in
    rw c.in-Bytes.is (then-right _ _ _ c.in_ok-take_fields.ensures.clean (value-passed _ _ _ (c.in_ok-finish.ensures fs (c.in_ok-take_fields.ensures.held [] c.start-draft.ensures))))
