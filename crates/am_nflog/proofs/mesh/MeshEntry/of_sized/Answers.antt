use Rattle.std.proofs.Common.{◌≡◌, ◌≤◌, ◌^◌, length, sym, ap, subst, ◌∙◌, arith}
use Rattle.am_nflog.specs.Fields.{entry_in}
use Rattle.am_nflog.specs.Mesh.{Mesh, IsMesh, writes_mesh_entry}
use Rattle.am_nflog.specs.Offsets.{StandAt}
use Rattle.am_nflog.specs.Spelled.{spelled}
use Rattle.am_nflog.proofs.Spelling.{spelled_is}
use Rattle.am_nflog.proofs.mesh.MeshEntry.of_sized.Goals as goal
use Rattle.am_nflog.proofs.mesh.MeshEntry.of_sized.Goals.{In_ok-key}

module _ (c : In_ok-key) where
  version : Mesh
  version = record { entry = entry_in c.args.fields.now; expires_at = c.args.expires_at; unknown = c.args.unknown.now }

  text : c.write_version.new.out.items ≡ writes_mesh_entry version
  unfolding version
  text = rw c.new-canonical.ensures.items at c.in_ok-places.ensures.written

  is_mesh : IsMesh version
  unfolding version
  is_mesh =
      let v = c.write_version.new.out in
      let size : length v.items ≤ 2 ^ 63 = omega (arith, v.ok.0, v.ok.1, v.small) in
      record { entry = c.in_ok-places.ensures.value; expires_at = c.in_ok-places.ensures.moment; unknown = c.requires.unknown; size = rw (← text) size }

  same : spelled c.write_version.new.out.items ≡ version
  same = spelled_is version c.write_version.new.out.items is_mesh text

pub invariant_of-result : goal.invariant_of-result
unfolding version
invariant_of-result c =
    let w = (goal.at.invariant_of-result c).In_ok-key in
    let back = sym (same w) in
    record {
      canonical = text w ∙ ap writes_mesh_entry back;
      value = subst IsMesh back (is_mesh w);
      key = c.in_ok-key.ensures ∙ ap (λ (m : Mesh). m.entry.key) back;
      timestamp = ap (λ (m : Mesh). m.entry.timestamp) back;
      expires_at = ap (λ (m : Mesh). m.expires_at) back;
      resolved = ap (λ (m : Mesh). m.entry.resolved) back;
      places = subst (λ (m : Mesh). StandAt m.entry c.in_ok-places.places c.write_version.new.out.items) back c.in_ok-places.ensures.places;
    }

pub returns : goal.returns
unfolding version
returns c = same (goal.at.returns c).In_ok-key
