use Rattle.std.proofs.Common.{◌≡◌, ℕ, List, sym, ap, subst, ◌∙◌, arith}
use Rattle.am_version_order.specs.Heads.{head_of_text}
use Rattle.am_silence.specs.declared.silence.Silence.{Silence}
use Rattle.am_silence.specs.Mesh.{Mesh, IsMesh, without_unknown, writes_mesh_silence}
use Rattle.am_silence.specs.MeshTable.{reads_mesh_silence}
use Rattle.am_silence.specs.RoundTrip.{plain_again}
use Rattle.am_silence.specs.Spelled.{version_in, version_spelled}
use Rattle.am_silence.specs.Canonical.{version_of, IsCanonical}
use Rattle.am_silence.specs.declared.canonical.CanonicalSilence.{CanonicalSilence}
use Rattle.am_silence.proofs.encoded_silence.EncodedSilenceFromEncoding.read.Goals as goal

module _ (encoding : List ℕ) (version : CanonicalSilence) (is : IsCanonical encoding version) where
  spelled : version_in encoding ≡ version_of version
  spelled = ap version_in is.is ∙ version_spelled (version_of version) is.value

  written : encoding ≡ writes_mesh_silence (version_in encoding)
  written = is.is ∙ ap writes_mesh_silence (sym spelled)

  value : IsMesh (version_in encoding)
  value = subst IsMesh (sym spelled) is.value

pub invariant_of-result : goal.invariant_of-result
invariant_of-result c =
    let ok = c.in_ok-fields.ensures in
    let id = c.fields.view_is ∙ ap (λ (m : Mesh). m.silence) (sym (spelled _ _ ok)) in
    let same = ap (λ (s : Silence). s.id) id in
    record {
      canonical = written _ _ ok;
      value = value _ _ ok;
      id = same;
      head = c.head_of_text.ensures ∙ ap head_of_text (c.as_bytes.ensures.value ∙ same);
    }

pub returns-clause-spelled : goal.returns-clause-spelled
returns-clause-spelled c unknown at =
    let ok = c.in_ok-fields.ensures in
    let is = value _ _ ok in
    let plain = ap without_unknown (spelled _ _ ok) ∙ sym (spelled _ _ ok) in
    let size = is.size in
    ap (reads_mesh_silence unknown at) (written _ _ ok) ∙ plain_again unknown (version_in c.args.encoding.now) at is (omega (arith, size)) plain

pub returns-clause-canonical : goal.returns-clause-canonical
returns-clause-canonical c = sym (written _ _ c.in_ok-fields.ensures)
