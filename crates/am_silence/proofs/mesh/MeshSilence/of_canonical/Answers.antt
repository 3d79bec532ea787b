use Rattle.std.proofs.Common.{◌≡◌, ℕ, List, sym, ap, subst, ◌∙◌}
use Rattle.am_silence.specs.declared.silence.Silence.{Silence}
use Rattle.am_silence.specs.Mesh.{Mesh, IsMesh, without_unknown, writes_mesh_silence}
use Rattle.am_silence.specs.Offsets.{StandIn}
use Rattle.am_silence.specs.Spelled.{version_in, version_spelled}
use Rattle.am_silence.specs.Canonical.{version_of}
use Rattle.am_silence.proofs.mesh.MeshSilence.of_canonical.Goals as goal

module _ (c : goal.In_ok-from_slice) where
  abbrev version : Mesh
  version = version_of c.in-Some.version

  abbrev text : List ℕ
  text = c.in_ok-from_slice.field-0.items

  written : text ≡ writes_mesh_silence version
  written = c.in_ok-from_slice.ensures.items ∙ c.in-Some.ensures.is

  spelled : version_in text ≡ version
  spelled = ap version_in written ∙ version_spelled version c.in-Some.ensures.value

  standing : StandIn version.silence c.in-Some.version.places text
  standing = subst (StandIn version.silence c.in-Some.version.places) (sym c.in_ok-from_slice.ensures.items) c.in-Some.ensures.places

pub invariant_of-result : goal.invariant_of-result
invariant_of-result c =
    let same = c.fields.view_is ∙ ap (λ (m : Mesh). m.silence) (sym (spelled c)) in
    record {
      canonical = written c ∙ ap writes_mesh_silence (sym (spelled c));
      value = subst IsMesh (sym (spelled c)) c.in-Some.ensures.value;
      id = c.in_ok-copied.ensures ∙ ap (λ (s : Silence). s.id) same;
      starts_at = ap (λ (s : Silence). s.starts_at) same;
      ends_at = ap (λ (s : Silence). s.ends_at) same;
      updated_at = ap (λ (s : Silence). s.updated_at) same;
      expires_at = ap (λ (m : Mesh). m.expires_at) (sym (spelled c));
      places = subst (λ (m : Mesh). StandIn m.silence c.in-Some.version.places (text c)) (sym (spelled c)) (standing c);
    }

pub returns-clause-text : goal.returns-clause-text
returns-clause-text c = c.in-Some.ensures.is ∙ ap writes_mesh_silence (sym (spelled c))

pub returns-clause-plain : goal.returns-clause-plain
returns-clause-plain c = ap without_unknown (spelled c) ∙ sym (spelled c)

pub returns-clause-value : goal.returns-clause-value
returns-clause-value c = subst IsMesh (sym (spelled c)) c.in-Some.ensures.value
