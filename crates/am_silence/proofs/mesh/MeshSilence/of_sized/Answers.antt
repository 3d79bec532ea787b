use Rattle.std.proofs.Common.{rules, ◌≡◌, ℕ, ◌+◌, ◌-◌, ◌≤◌, ◌^◌, min, List, ◌++◌, length, sym, ap, subst, ◌∙◌}
use Rattle.am_wire.specs.declared.unknown.UnknownFields.{UnknownFields}
use Rattle.am_wire.specs.Timestamps.{writes_moment}
use Rattle.am_wire.specs.Unknown.{writes_with}
use Rattle.am_wire.specs.Writing.{writes_delimited}
use Rattle.am_wire.proofs.WrittenKept.{written_with}
use Rattle.am_silence.specs.declared.silence.Silence.{Silence}
use Rattle.am_silence.specs.Mesh.{Mesh, IsMesh, version_with, writes_mesh_silence}
use Rattle.am_silence.specs.Silences.{writes_silence}
use Rattle.am_silence.specs.Offsets.{StandIn}
use Rattle.am_silence.specs.Spelled.{version_in, version_spelled}
use Rattle.am_silence.proofs.OffsetsKept.{stand_before}
use Rattle.am_silence.proofs.mesh.MeshSilence.of_sized.Given as given
use Rattle.am_silence.proofs.mesh.MeshSilence.of_sized.Goals as goal

module _ (g : given.Over) (c : goal.After-result-4-1 g) where
  abbrev version : Mesh
  version = version_with c.args.unknown.now c.args.fields.now c.args.expires_at

  abbrev text : List ℕ
  text = c.extend_from_slice-2.new.self.items

  small : length text ≤ 2 ^ 63
  small = search rules

  inner : c.extend_from_slice.new.self.items ≡ c.write_silence.new.out.items ++ c.args.unknown.now.inner
  inner = c.in_ok-extend_from_slice.ensures.items
      ∙ ap (λ (u : UnknownFields). c.write_silence.new.out.items ++ u.inner) c.unknown.view_is

  outer : text ≡ c.write_message.new.out.items ++ c.args.unknown.now.outer
  outer = c.in_ok-extend_from_slice-2.ensures.items
      ∙ ap (λ (u : UnknownFields). c.write_message.new.out.items ++ u.outer) c.unknown.view_is

  adds : c.saturating_add-size.result ≡ min (c.args.size + length c.args.unknown.now.inner) (2 ^ 64 - 1)
  adds = search (c.saturating_add-size.ensures, rules)

  written : text ≡ writes_mesh_silence version
  unfolding writes_mesh_silence
  written =
      written_with c.args.unknown.now (writes_silence c.args.fields.now) c.args.expires_at c.args.size _ _ _ _ _ _ _ c.requires.size adds small
      c.in_ok-write_prefix.ensures.ok c.in_ok-places.ensures.written inner c.in_ok-write_message.ensures.written outer
      ∙ ap (λ (x : List ℕ). x ++ writes_with c.args.unknown.now (writes_silence c.args.fields.now) c.args.expires_at) c.in_ok-canonical.ensures.items

  sound : IsMesh version
  sound = record {
    silence = c.in_ok-places.ensures.value;
    expires_at = c.in_ok-write_message.ensures.value;
    unknown = c.requires.unknown;
    size = subst (λ (x : List ℕ). length x ≤ 2 ^ 63) written small;
  }

  spelled : version_in text ≡ version
  spelled = ap version_in written ∙ version_spelled version sound

  standing : StandIn version.silence c.in_ok-places.places text
  standing = subst (λ (x : List ℕ). StandIn version.silence c.in_ok-places.places x) (sym outer)
      (stand_before (subst (λ (x : List ℕ). StandIn version.silence c.in_ok-places.places x) (sym c.in_ok-write_message.ensures.written)
      (stand_before (subst (λ (x : List ℕ). StandIn version.silence c.in_ok-places.places x) (sym inner)
      (stand_before c.in_ok-places.ensures.places c.args.unknown.now.inner))
      (writes_delimited 2 (writes_moment c.args.expires_at)))) c.args.unknown.now.outer)

pub invariant_of-result : goal.invariant_of-result
invariant_of-result g c =
    let same = c.fields.view_is ∙ ap (λ (m : Mesh). m.silence) (sym (spelled g c)) in
    record {
      canonical = written g c ∙ ap writes_mesh_silence (sym (spelled g c));
      value = subst IsMesh (sym (spelled g c)) (sound g c);
      id = c.in_ok-copied.ensures ∙ ap (λ (s : Silence). s.id) same;
      starts_at = ap (λ (s : Silence). s.starts_at) same;
      ends_at = ap (λ (s : Silence). s.ends_at) same;
      updated_at = ap (λ (s : Silence). s.updated_at) same;
      expires_at = ap (λ (m : Mesh). m.expires_at) (sym (spelled g c));
      places = subst (λ (m : Mesh). StandIn m.silence c.in_ok-places.places (text g c)) (sym (spelled g c)) (standing g c);
    }

pub returns : goal.returns
returns g c = spelled g c
