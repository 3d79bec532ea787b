use Rattle.std.proofs.Common.{rules, arith, ◌≡◌, ◌≤◌, length, subst}
use Rattle.am_wire.specs.Limits.{most}
use Rattle.am_nflog.specs.Mesh.{Mesh, writes_mesh_entry}
use Rattle.am_nflog.specs.Made.{made_entry}
use Rattle.am_nflog.proofs.make.make_entry.Goals as goal

pub returns-clause-too_large : goal.returns-clause-too_large
returns-clause-too_large c =
    let a = c.args in
    let is : c.in_ok-made.made ≡ made_entry a.group_key a.receiver a.firing a.resolved a.repeat a.retention a.now = search rules in
    let low = subst (λ (m : Mesh). length (writes_mesh_entry m) ≤ most) is c.in_ok-made.ensures.within in
    (λ e. absurd cc, λ h. absurd (omega (arith, low, h.1)))
