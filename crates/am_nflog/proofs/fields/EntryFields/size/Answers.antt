use Rattle.std.proofs.Common.{◌≡◌, length, ap, ◌∙◌, arith, cond, ℕ, List}
use Rattle.am_wire.specs.Sizes.{counted}
use Rattle.am_wire.specs.Writing.{writes_number, writes_text}
use Rattle.am_nflog.specs.declared.receiver.Receiver.{Receiver}
use Rattle.am_nflog.specs.Fields.{entry_in}
use Rattle.am_nflog.specs.Entries.{writes_entry}
use Rattle.am_nflog.specs.Receivers.{writes_receiver}
use Rattle.am_nflog.proofs.Counts.{counted_both, flag_number}
use Rattle.am_nflog.proofs.fields.EntryFields.size.Goals as goal

pub returns : goal.returns
unfolding writes_entry
returns c =
    let receiver = (entry_in c.args.self.now).key.receiver in
    let inner = c.size.ensures ∙ ap (λ (r : Receiver). counted (length (writes_receiver r))) c.receiver.ensures in
    let one = c.bytes_size.ensures ∙ ap (λ (bytes : List ℕ). counted (length (writes_text 1 bytes))) c.group_key.ensures in
    let two = counted_both _ _ _ _ _ one (c.delimited_size.ensures (writes_receiver receiver) inner) c.saturating_add.ensures in
    let three = counted_both _ _ _ _ _ two c.bytes_size-2.ensures c.saturating_add-2.ensures in
    let flag : c.number_size.result ≡ counted (length (writes_number 4 (cond c.args.self.now.resolved 1 0))) =
    omega (arith, c.number_size.ensures.size, c.number_size.ensures.most, ap (λ (n : ℕ). length (writes_number 4 n)) (c.from.ensures ∙ flag_number c.args.self.now.resolved)) in
    let four = counted_both _ _ _ _ _ three flag c.saturating_add-3.ensures in
    let five = counted_both _ _ _ _ _ four c.message_size.ensures c.saturating_add-4.ensures in
    let six = counted_both _ _ _ _ _ five c.numbers_size.ensures c.saturating_add-5.ensures in
    counted_both _ _ _ _ _ six c.numbers_size-2.ensures c.saturating_add-6.ensures
