use Rattle.std.proofs.Common.{◌++◌, ℕ, List, ap, ◌∙◌}
use Rattle.am_wire.proofs.Offsets.{stands_grown}
use Rattle.am_wire.specs.Writing.{writes_number, writes_delimited, writes_text}
use Rattle.am_nflog.specs.declared.receiver.Receiver.{Receiver}
use Rattle.am_nflog.specs.Entries.{writes_entry}
use Rattle.am_nflog.specs.Receivers.{writes_receiver}
use Rattle.am_nflog.proofs.Counts.{flag_number}
use Rattle.am_nflog.proofs.Lists.{put_behind}
use Rattle.am_nflog.proofs.fields.EntryFields.write.Goals as goal

pub returns-clause-written : goal.returns-clause-written
unfolding writes_entry
returns-clause-written c =
    let receiver = c.in_ok-push_receiver.ensures.written ∙ ap (λ (r : Receiver). c.write_bytes.new.out.items ++ writes_delimited 2 (writes_receiver r)) c.receiver.ensures in
    let one = c.in_ok-write_bytes.ensures.ok ∙ ap (λ (bytes : List ℕ). c.args.out.now.items ++ writes_text 1 bytes) c.group_key.ensures in
    let two = put_behind _ _ _ _ _ one receiver in
    let three = put_behind _ _ _ _ _ two c.in_ok-group_hash.ensures.written in
    let flag = c.in_ok-write_number.ensures.ok ∙ ap (λ (n : ℕ). c.write_part.new.out.items ++ writes_number 4 n) (c.from.ensures ∙ flag_number c.args.self.now.resolved) in
    let four = put_behind _ _ _ _ _ three flag in
    let five = put_behind _ _ _ _ _ four c.in_ok-write_message.ensures.written in
    let six = put_behind _ _ _ _ _ five c.in_ok-firing_alerts.ensures.written in
    put_behind _ _ _ _ _ six c.in_ok-resolved_alerts.ensures.written

pub returns-clause-places : goal.returns-clause-places
returns-clause-places c =
    let four = stands_grown c.in_ok-group_hash.ensures.offset _ c.in_ok-write_number.ensures.ok in
    let five = stands_grown four _ c.in_ok-write_message.ensures.written in
    let six = stands_grown five _ c.in_ok-firing_alerts.ensures.written in
    record {
      group_hash = stands_grown six _ c.in_ok-resolved_alerts.ensures.written;
      firing_alerts = stands_grown c.in_ok-firing_alerts.ensures.offset _ c.in_ok-resolved_alerts.ensures.written;
      resolved_alerts = c.in_ok-resolved_alerts.ensures.offset;
    }
