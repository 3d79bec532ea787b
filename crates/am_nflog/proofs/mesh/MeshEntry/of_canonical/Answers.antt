use Rattle.std.proofs.Common.{rules, ◌≡◌, ◌∙◌}
use Rattle.am_nflog.specs.Spelled.{spelled}
use Rattle.am_nflog.proofs.Spelling.{read_anywhere}
use Rattle.am_nflog.proofs.mesh.MeshEntry.of_canonical.Goals as goal

pub returns : goal.returns
returns c =
    let h = c.in-Some.ensures in
    let text : c.in_ok-canonical.canonical.items ≡ c.args.text.now = search rules in
    λ unknown at. rw text (read_anywhere (spelled c.args.text.now) c.args.text.now unknown at h.value h.canonical h.plain)

pub invariant_of-version : goal.invariant_of-version
invariant_of-version c =
    let h = c.in-Some.ensures in
    let text : c.in_ok-canonical.canonical.items ≡ c.args.text.now = search rules in
    rw text (record { canonical = h.canonical; value = h.value; key = c.in_ok-key.ensures ∙ h.key; timestamp = h.timestamp; expires_at = h.expires_at; resolved = h.resolved; places = h.places })
