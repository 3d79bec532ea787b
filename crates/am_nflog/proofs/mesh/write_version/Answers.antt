use Rattle.std.proofs.Common.{rules, ◌≡◌, ◌+◌, ◌-◌, ◌≤◌, ◌^◌, min, ◌++◌, length}
use Rattle.am_wire.proofs.Offsets.{stands_grown}
use Rattle.am_wire.proofs.WrittenKept.{written_with}
use Rattle.am_nflog.specs.Entries.{writes_entry}
use Rattle.am_nflog.specs.Fields.{entry_in}
use Rattle.am_nflog.specs.Mesh.{writes_mesh_entry}
use Rattle.am_nflog.proofs.mesh.write_version.Goals as goal
use Rattle.am_nflog.proofs.mesh.write_version.Goals.{In_ok-extend_from_slice-2}

module _ (c : In_ok-extend_from_slice-2) where
  inner : c.extend_from_slice.new.self.items ≡ c.write.new.out.items ++ c.args.unknown.now.inner
  inner = rw c.as_slice-inner.ensures at c.in_ok-extend_from_slice.ensures.items

  outer : c.extend_from_slice-2.new.self.items ≡ c.write_message.new.out.items ++ c.args.unknown.now.outer
  outer = rw c.as_slice-outer.ensures at c.in_ok-extend_from_slice-2.ensures.items

  adds : c.saturating_add-size.result ≡ min (c.args.size + length c.args.unknown.now.inner) (2 ^ 64 - 1)
  adds = rw (← c.as_slice-inner.ensures) (search (c.saturating_add-size.ensures, rules))

  small : length c.extend_from_slice-2.new.self.items ≤ 2 ^ 63
  small = search rules

pub returns-clause-written : goal.returns-clause-written
unfolding writes_mesh_entry
returns-clause-written c =
    let prefix = rw c.reserve_exact.ensures.items at c.in_ok-write_prefix.ensures.ok in
    written_with c.args.unknown.now (writes_entry (entry_in c.args.fields.now)) c.args.expires_at c.args.size _ c.args.out.now.items _ _ _ _ _
    c.requires (adds c) (small c) prefix c.in_ok-places.ensures.written (inner c) c.in_ok-write_message.ensures.written (outer c)

pub returns-clause-places : goal.returns-clause-places
returns-clause-places c =
    let parts = c.in_ok-places.ensures.places in
    let moment = c.in_ok-write_message.ensures.written in
    record {
      group_hash = stands_grown (stands_grown (stands_grown parts.group_hash _ (inner c)) _ moment) _ (outer c);
      firing_alerts = stands_grown (stands_grown (stands_grown parts.firing_alerts _ (inner c)) _ moment) _ (outer c);
      resolved_alerts = stands_grown (stands_grown (stands_grown parts.resolved_alerts _ (inner c)) _ moment) _ (outer c);
    }
