use Rattle.std.proofs.Common.{refl}
use Rattle.am_wire.proofs.Offsets.{stands_grown}
use Rattle.am_wire.proofs.Passings.{both}
use Rattle.am_nflog.specs.Entries.{writes_entry}
use Rattle.am_nflog.proofs.canonical.pass_entry.Goals as goal

pub returns : goal.returns
unfolding writes_entry
returns c =
    let firing = c.in_ok-firing_alerts.ensures in
    let others = c.in_ok-resolved_alerts.ensures in
    let two = both _ _ _ _ _ c.in_ok-group_key.ensures c.in_ok-receiver.ensures.passed in
    let three = both _ _ _ _ _ two c.in_ok-group_hash.ensures.passed in
    let four = both _ _ _ _ _ three c.in_ok-resolved.ensures in
    let five = both _ _ _ _ _ four c.in_ok-timestamp.ensures.passed in
    let six = both _ _ _ _ _ five firing.passes in
    let flag = stands_grown c.in_ok-group_hash.ensures.place _ c.in_ok-resolved.ensures.passed in
    let moment = stands_grown flag _ c.in_ok-timestamp.ensures.passed.passed in
    let list = stands_grown moment _ firing.passes.passed in
    record {
      entry = record {
        key = record { group_key = c.in_ok-group_key.group_key.now; receiver = c.in_ok-receiver.receiver };
        group_hash = c.in_ok-group_hash.field-0-0.now;
        resolved = c.in_ok-resolved.resolved;
        timestamp = c.in_ok-timestamp.timestamp;
        firing_alerts = firing.numbers;
        resolved_alerts = others.numbers;
      };
      passes = both _ _ _ _ _ six others.passes;
      value = record {
        receiver = c.in_ok-receiver.ensures.value;
        timestamp = c.in_ok-timestamp.ensures.within;
        firing_alerts = firing.short;
        resolved_alerts = others.short;
      };
      key = c.of.ensures;
      resolved = refl;
      timestamp = refl;
      places = record {
        group_hash = stands_grown list _ others.passes.passed;
        firing_alerts = stands_grown firing.stands _ others.passes.passed;
        resolved_alerts = others.stands;
      };
    }
