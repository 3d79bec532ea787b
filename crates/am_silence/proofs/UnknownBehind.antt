-- The unknown fields of a version stand behind what is known in its text.
use Rattle.std.proofs.Common.{◌≡◌, ℕ, ◌+◌, ◌≤◌, ◌^◌, List, [], ◌∷◌, ◌++◌, length, length-append, append_assoc, drop, inr, refl, ap, ◌∙◌, arith}
use Rattle.std.proofs.Math.Seq.{drop-append_seam}
use Rattle.am_wire.specs.Expiring.{writes_expiring}
use Rattle.am_wire.specs.Sizes.{counted}
use Rattle.am_wire.specs.Offsets.{StandsAt}
use Rattle.am_wire.specs.Timestamps.{writes_moment}
use Rattle.am_wire.specs.Varint.{shortest, groups}
use Rattle.am_wire.specs.Writing.{tag, writes_delimited}
use Rattle.am_silence.specs.Mesh.{Mesh, writes_mesh_silence}
use Rattle.am_silence.specs.Silences.{writes_silence}

tag_1 : tag 1 2 ≡ 10 ∷ []
unfolding groups
tag_1 = refl

module _ (m : Mesh) (text : List ℕ) (is : text ≡ writes_mesh_silence m) (small : length text ≤ 2 ^ 63) where
  -- the silence and the unknown fields inside
  abbrev pub payload : List ℕ
  payload = writes_silence m.silence ++ m.unknown.inner

  -- that, and the moment
  abbrev pub both : List ℕ
  both = writes_expiring payload m.expires_at

  abbrev moment : List ℕ
  moment = writes_delimited 2 (writes_moment m.expires_at)

  whole : text ≡ both ++ m.unknown.outer
  unfolding writes_mesh_silence
  whole = is

  both_within : length both ≤ length text
  both_within = omega (arith, ap length whole, length-append both m.unknown.outer)

  outer_behind : drop (length both) text ≡ m.unknown.outer
  outer_behind = ap (drop (length both)) whole ∙ drop-append_seam both m.unknown.outer

  known_within : length (writes_silence m.silence) ≤ length payload
  known_within = omega (arith, length-append (writes_silence m.silence) m.unknown.inner)

  inner_behind : drop (length (writes_silence m.silence)) payload ≡ m.unknown.inner
  inner_behind = drop-append_seam (writes_silence m.silence) m.unknown.inner

  first : text ≡ 10 ∷ (shortest (length payload) ++ (payload ++ (moment ++ m.unknown.outer)))
  first =
      whole ∙ append_assoc (writes_delimited 1 payload) moment m.unknown.outer
      ∙ ap (λ (t : List ℕ). (t ++ (shortest (length payload) ++ payload)) ++ (moment ++ m.unknown.outer)) tag_1
      ∙ ap (λ (t : List ℕ). 10 ∷ t) (append_assoc (shortest (length payload)) payload (moment ++ m.unknown.outer))

  long : length text ≡ 1 + (length (shortest (length payload)) + (length payload + length (moment ++ m.unknown.outer)))
  long =
      let rest = moment ++ m.unknown.outer in
      let behind = shortest (length payload) ++ (payload ++ rest) in
      ap length first ∙ length-append (10 ∷ []) behind
      ∙ ap (λ (n : ℕ). 1 + n)
      (length-append (shortest (length payload)) (payload ++ rest)
      ∙ ap (λ (n : ℕ). length (shortest (length payload)) + n) (length-append payload rest))

  pub payload_within : length payload ≤ 2 ^ 63
  payload_within = omega (arith, long, small)

  -- the payload stands behind a tag of one byte
  pub payload_at : StandsAt payload (record { start = 1 }) text
  payload_at = inr (
    omega arith,
    record {
      rest = moment ++ m.unknown.outer;
      within = omega (arith, long);
      short = omega (arith, payload_within);
      is = ap (drop 1) first;
    },
  )

  -- what is cut off behind the silence, and behind both
  pub inner_cut : (part : List ℕ) (size : ℕ) → part ≡ payload → size ≡ counted (length (writes_silence m.silence))
      → (size ≤ length part) × (drop size part ≡ m.unknown.inner)
  inner_cut part size is_payload counts =
      let exact : size ≡ length (writes_silence m.silence) = omega (arith, counts, known_within, payload_within) in
      (omega (arith, exact, known_within, ap length is_payload), rw (exact, is_payload) inner_behind)

  pub outer_cut : (size : ℕ) → size ≡ counted (length both) → (size ≤ length text) × (drop size text ≡ m.unknown.outer)
  outer_cut size counts =
      let exact : size ≡ length both = omega (arith, counts, both_within, small) in
      (omega (arith, exact, both_within), rw exact outer_behind)
