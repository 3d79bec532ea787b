-- The name of a greeting.
use Rattle.std.proofs.Common.{◌≡◌, ◌≤◌, ℕ, ◌+◌, ltb, true, false, List, length, take, Option, Some, Result, Ok, Err, ap, cond, refl}
use Rattle.std.specs.Str.{IsUtf8, is_utf8}
use Rattle.std.proofs.lemmas.Bool.{le-ltb}
use Rattle.std.proofs.lemmas.Str.{is_utf8-from_IsUtf8, IsUtf8-from_is_utf8}
use Rattle.am_wire.specs.declared.error.WireError.TheVariants.{NotUtf8}
use Rattle.am_gossip.specs.declared.error.FrameError.{FrameError}
use Rattle.am_gossip.specs.declared.error.FrameError.TheVariants.{Wire}
use Rattle.am_gossip.specs.Hellos.{name_at}

abbrev found : List ℕ → ℕ → Result (Option (List ℕ × ℕ)) FrameError
found name len = Ok (Some (name, len))

pub name_whole : (size start : ℕ) (bytes name : List ℕ) → size ≤ length bytes → name ≡ take size bytes → IsUtf8 (take size bytes) → Ok (Some (name, start + size)) ≡ name_at size start bytes
name_whole size start bytes name le is utf8 =
    let room : ltb (length bytes) size ≡ false = le-ltb _ _ le in
    let text : is_utf8 (take size bytes) ≡ true = is_utf8-from_IsUtf8 _ utf8 in
    rw (room, text) (ap (λ (x : List ℕ). found x (start + size)) is)

pub name_broken : (size start : ℕ) (bytes : List ℕ) → size ≤ length bytes → (IsUtf8 (take size bytes) → ⊥) → Err (Wire (NotUtf8 0)) ≡ name_at size start bytes
name_broken size start bytes le broken =
    let room : ltb (length bytes) size ≡ false = le-ltb _ _ le in
    rw room (elim (is_utf8 (take size bytes)) as (λ b. is_utf8 (take size bytes) ≡ b → Err (Wire (NotUtf8 0)) ≡ cond b (found (take size bytes) (start + size)) (Err (Wire (NotUtf8 0)))) [
      | true ↦ λ t. absurd (broken (IsUtf8-from_is_utf8 _ t))
      | false ↦ λ t. refl
    ] refl)
