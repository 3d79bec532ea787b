use Rattle.std.proofs.Common.{◌≡◌, ◌≢◌, ℕ, List, Ordering, Less, Equal, Greater, refl, sym, ap, ◌∙◌}
use Rattle.std.specs.Ordering.{nat_cmp, ordering_then}
use Rattle.std.specs.Cmp.Lexicographic.{slice_cmp}
use Rattle.am_version_order.specs.Heads.{head_of_text}
use Rattle.am_version_order.proofs.Weights.{text_heads}
use Rattle.am_silence.specs.Mesh.{Mesh}
use Rattle.am_silence.proofs.encoded_silence.EncodedSilenceEncodedVersion.compare_keys.Goals as goal

-- where the numbers of two encodings differ, they tell the order
apart : (x y : List ℕ) (order : Ordering) → nat_cmp (head_of_text x) (head_of_text y) ≡ order → order ≢ Equal → order ≡ slice_cmp nat_cmp x y
apart x y Less is other = sym (ap (λ (o : Ordering). ordering_then o (slice_cmp nat_cmp x y)) is) ∙ text_heads x y
apart x y Equal is other = absurd (other refl)
apart x y Greater is other = sym (ap (λ (o : Ordering). ordering_then o (slice_cmp nat_cmp x y)) is) ∙ text_heads x y

pub returns-in_default : goal.returns-in_default
returns-in_default c =
    let one = c.self.invariant.head ∙ ap (λ (m : Mesh). head_of_text m.silence.id) c.self.view_is in
    let two = c.other.invariant.head ∙ ap (λ (m : Mesh). head_of_text m.silence.id) c.other.view_is in
    let heads = sym (rw (one, two) at c.cmp.ensures) in
    apart c.args.self.now.silence.id c.args.other.now.silence.id c.cmp.result heads c.in_default.not-Equal
