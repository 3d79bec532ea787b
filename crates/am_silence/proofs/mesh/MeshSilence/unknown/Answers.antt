use Rattle.std.proofs.Common.{◌≡◌, ◌≤◌, ◌^◌, ℕ, length, sym, ap, subst, ◌∙◌, arith}
use Rattle.am_wire.specs.Expiring.{writes_expiring}
use Rattle.am_wire.specs.Sizes.{counted}
use Rattle.am_wire.specs.Unknown.{IsUnknown}
use Rattle.am_silence.specs.declared.silence.Silence.{Silence}
use Rattle.am_silence.specs.Mesh.{Mesh, silence_numbers, writes_mesh_silence}
use Rattle.am_silence.specs.Silences.{writes_silence}
use Rattle.am_silence.proofs.UnknownBehind.{payload, payload_at, payload_within, inner_cut, outer_cut}
use Rattle.am_silence.proofs.mesh.MeshSilence.unknown.Goals as goal

pub part_of-payload-requires : goal.part_of-payload-requires
part_of-payload-requires c =
    let text = c.as_slice-text.result.now in
    let m = c.args.self.now in
    let is : text ≡ writes_mesh_silence m = c.as_slice-text.ensures.value ∙ c.self.invariant.canonical ∙ ap writes_mesh_silence c.self.view_is in
    let small : length text ≤ 2 ^ 63 = omega (arith, ap length (c.as_slice-text.ensures.value ∙ c.self.invariant.canonical), c.self.invariant.value.size) in
    (payload m text is small, payload_at m text is small)

pub split_at-requires : goal.split_at-requires
split_at-requires c =
    let text = c.as_slice-text.result.now in
    let m = c.args.self.now in
    let is : text ≡ writes_mesh_silence m = c.as_slice-text.ensures.value ∙ c.self.invariant.canonical ∙ ap writes_mesh_silence c.self.view_is in
    let small : length text ≤ 2 ^ 63 = omega (arith, ap length (c.as_slice-text.ensures.value ∙ c.self.invariant.canonical), c.self.invariant.value.size) in
    let read = c.part_of-payload.ensures (payload m text is small) (payload_at m text is small) in
    let size = c.size-known.ensures ∙ ap (λ (s : Silence). counted (length (writes_silence s))) c.fields.ensures in
    (inner_cut m text is small c.part_of-payload.result.now c.size-known.result read size).0

pub split_at-requires-2 : goal.split_at-requires-2
split_at-requires-2 c =
    let text = c.as_slice-text.result.now in
    let m = c.args.self.now in
    let is : text ≡ writes_mesh_silence m = c.as_slice-text.ensures.value ∙ c.self.invariant.canonical ∙ ap writes_mesh_silence c.self.view_is in
    let small : length text ≤ 2 ^ 63 = omega (arith, ap length (c.as_slice-text.ensures.value ∙ c.self.invariant.canonical), c.self.invariant.value.size) in
    let read = c.part_of-payload.ensures (payload m text is small) (payload_at m text is small) in
    let counts : length c.part_of-payload.result.now ≡ counted (length (payload m text is small)) = omega (arith, ap length read, payload_within m text is small) in
    let dated = c.self.invariant.expires_at ∙ ap (λ (m : Mesh). m.expires_at) c.self.view_is in
    let size = c.expiring_size-both.ensures (payload m text is small) counts ∙ ap (λ (e : ℕ). counted (length (writes_expiring (payload m text is small) e))) dated in
    (outer_cut m text is small c.expiring_size-both.result size).0

pub returns-clause-is : goal.returns-clause-is
returns-clause-is c =
    let text = c.as_slice-text.result.now in
    let m = c.args.self.now in
    let is : text ≡ writes_mesh_silence m = c.as_slice-text.ensures.value ∙ c.self.invariant.canonical ∙ ap writes_mesh_silence c.self.view_is in
    let small : length text ≤ 2 ^ 63 = omega (arith, ap length (c.as_slice-text.ensures.value ∙ c.self.invariant.canonical), c.self.invariant.value.size) in
    let read = c.part_of-payload.ensures (payload m text is small) (payload_at m text is small) in
    let known = c.size-known.ensures ∙ ap (λ (s : Silence). counted (length (writes_silence s))) c.fields.ensures in
    let inner = c.split_at.ensures.back ∙ (inner_cut m text is small c.part_of-payload.result.now c.size-known.result read known).1 in
    let counts : length c.part_of-payload.result.now ≡ counted (length (payload m text is small)) = omega (arith, ap length read, payload_within m text is small) in
    let dated = c.self.invariant.expires_at ∙ ap (λ (m : Mesh). m.expires_at) c.self.view_is in
    let size = c.expiring_size-both.ensures (payload m text is small) counts ∙ ap (λ (e : ℕ). counted (length (writes_expiring (payload m text is small) e))) dated in
    let outer = c.split_at-2.ensures.back ∙ (outer_cut m text is small c.expiring_size-both.result size).1 in
    λ i. record { inner = inner i; outer = outer i }

pub returns-clause-unknown : goal.returns-clause-unknown
returns-clause-unknown c =
    subst (IsUnknown silence_numbers) (ap (λ (m : Mesh). m.unknown) c.self.view_is ∙ sym (returns-clause-is c)) c.self.invariant.value.unknown
