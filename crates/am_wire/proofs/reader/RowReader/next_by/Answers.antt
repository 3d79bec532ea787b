use Rattle.std.proofs.Common.{◌≡◌, [], refl, sym, ◌∙◌}
use Rattle.std.proofs.lemmas.Result.{err_from_is_err_and}
use Rattle.am_wire.specs.declared.reader.RowPosition.TheVariants.{Before}
use Rattle.am_wire.proofs.ReaderLemmas.{answers_stop, answers_cut, answers_fault, answers_value, ends_below}
use Rattle.am_wire.proofs.reader.RowReader.next_by.Goals as goal

pub returns-in_err-size : goal.returns-in_err-size
returns-in_err-size g c =
    let here : c.args.self.now ≡ Before c.in-Before.at c.in-Before.limit = sym c.self.view_is ∙ c.in-Before.is in
    let p = err_from_is_err_and c.from_residual.result c.from_residual.ensures.1 in
    let (bytes, read, stop) = c.in_err-size.ensures.fault in
    (bytes, read, rw (here, p.1, p.2) (answers_stop (g.V.Message.reads c.args.unknown) _ _ _ _ _ stop))

pub returns-in_err-read_message_bytes : goal.returns-in_err-read_message_bytes
returns-in_err-read_message_bytes g c =
    let here : c.args.self.now ≡ Before c.in-Before.at c.in-Before.limit = sym c.self.view_is ∙ c.in-Before.is in
    let p = err_from_is_err_and c.from_residual-in_err-read_message_bytes.result c.from_residual-in_err-read_message_bytes.ensures.1 in
    rw (here, p.1, p.2) (answers_cut (g.V.Message.reads c.args.unknown) _ _ _ _ _ _ _ (rw c.in-Some.is at c.in_ok-size.ensures.some) _ c.in_err-read_message_bytes.ensures)

pub returns-in_err-value : goal.returns-in_err-value
returns-in_err-value g c =
    let here : c.args.self.now ≡ Before c.in-Before.at c.in-Before.limit = sym c.self.view_is ∙ c.in-Before.is in
    let p = err_from_is_err_and c.from_residual-in_err-value.result c.from_residual-in_err-value.ensures.1 in
    rw (here, p.1, p.2) (answers_fault (g.V.Message.reads c.args.unknown) _ _ _ _ _ _ _ (rw c.in-Some.is at c.in_ok-size.ensures.some) _ c.in_ok-read_message_bytes.ensures _ c.deref.ensures.value _ c.in_err-value.ensures)

pub invariant_of-self-2 : goal.invariant_of-self-2
invariant_of-self-2 g c = ends_below (g.V.Message.reads c.args.unknown) _ _ _ _ _ _ _ (rw c.in-Some.is at c.in_ok-size.ensures.some) _ c.in_ok-read_message_bytes.ensures

pub returns : goal.returns
returns g c =
    let here : c.args.self.now ≡ Before c.in-Before.at c.in-Before.limit = sym c.self.view_is ∙ c.in-Before.is in
    rw here (answers_value (g.V.Message.reads c.args.unknown) _ _ _ _ _ _ _ (rw c.in-Some.is at c.in_ok-size.ensures.some) _ c.in_ok-read_message_bytes.ensures _ c.deref.ensures.value _ c.in_ok-value.ensures)

pub returns-in_default : goal.returns-in_default
returns-in_default g c =
    let here : c.args.self.now ≡ Before c.in-Before.at c.in-Before.limit = sym c.self.view_is ∙ c.in-Before.is in
    let ends = c.in_ok-size.ensures.none c.in_default.is in
    ([], ends.0, rw here (refl, ends.1, refl))
