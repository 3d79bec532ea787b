-- A message that is written part by part with its moment and unknown fields is the one text of it.
use Rattle.std.proofs.Common.{◌≡◌, ℕ, ◌+◌, ◌-◌, ◌≤◌, ◌^◌, min, List, ◌++◌, length, length-append, append_assoc, refl, ap, ◌∙◌, arith}
use Rattle.am_wire.specs.declared.unknown.UnknownFields.{UnknownFields}
use Rattle.am_wire.specs.Sizes.{counted}
use Rattle.am_wire.specs.Timestamps.{writes_moment}
use Rattle.am_wire.specs.Unknown.{writes_with}
use Rattle.am_wire.specs.Varint.{shortest}
use Rattle.am_wire.specs.Writing.{tag, writes_delimited}

pub written_with : (unknown : UnknownFields) (message : List ℕ) (expires_at size more : ℕ) (old prefix body own dated text : List ℕ)
    → size ≡ counted (length message) → more ≡ min (size + length unknown.inner) (2 ^ 64 - 1) → length text ≤ 2 ^ 63
    → prefix ≡ old ++ (tag 1 2 ++ shortest more) → body ≡ prefix ++ message → own ≡ body ++ unknown.inner
    → dated ≡ own ++ writes_delimited 2 (writes_moment expires_at) → text ≡ dated ++ unknown.outer
    → text ≡ old ++ writes_with unknown message expires_at
written_with unknown message expires_at size more old prefix body own dated text counts adds small front middle inner moment outer =
    let whole = message ++ unknown.inner in
    let field = writes_delimited 2 (writes_moment expires_at) in
    let within : length whole ≤ length text = omega (
      arith,
      length-append message unknown.inner,
      ap length outer,
      length-append dated unknown.outer,
      ap length moment,
      length-append own field,
      ap length inner,
      length-append body unknown.inner,
      ap length middle,
      length-append prefix message,
    ) in
    let exact : more ≡ length whole = omega (arith, counts, adds, within, small, length-append message unknown.inner) in
    let begins : prefix ≡ old ++ (tag 1 2 ++ shortest (length whole)) = rw (front, exact) refl in
    let one : own ≡ old ++ writes_delimited 1 whole = inner ∙ ap (λ (x : List ℕ). x ++ unknown.inner) middle
    ∙ append_assoc prefix message unknown.inner ∙ ap (λ (x : List ℕ). x ++ whole) begins
    ∙ append_assoc old (tag 1 2 ++ shortest (length whole)) whole
    ∙ ap (λ (x : List ℕ). old ++ x) (append_assoc (tag 1 2) (shortest (length whole)) whole) in
    let both : dated ≡ old ++ (writes_delimited 1 whole ++ field) =
    moment ∙ ap (λ (x : List ℕ). x ++ field) one ∙ append_assoc old (writes_delimited 1 whole) field in
    outer ∙ ap (λ (x : List ℕ). x ++ unknown.outer) both ∙ append_assoc old (writes_delimited 1 whole ++ field) unknown.outer
