-- Parts of a text that keep their places where it grows at its end.
use Rattle.std.proofs.Common.{◌≡◌, ℕ, ◌-◌, ◌≤◌, List, ◌++◌, length, length-append, drop, slice_range, sym, ap, subst, ◌∙◌, arith}
use Rattle.std.proofs.lemmas.List.{append_assoc}
use Rattle.std.proofs.Math.Seq.{drop-append_seam, take-append_seam}
use Rattle.am_wire.proofs.Offsets.{stands_before}
use Rattle.am_silence.specs.declared.offsets.Offsets.{Offsets}
use Rattle.am_silence.specs.declared.silence.Silence.{Silence}
use Rattle.am_silence.specs.Offsets.{StandsBetween, StandIn}

module _ {start end : ℕ} {part text : List ℕ} (h : StandsBetween start end part text) where
  pub between_before : (more : List ℕ) → StandsBetween start end part (text ++ more)
  between_before more = record {
    front = h.front;
    back = h.back ++ more;
    is = ap (λ (x : List ℕ). x ++ more) h.is ∙ append_assoc h.front (part ++ h.back) more
        ∙ ap (λ (x : List ℕ). h.front ++ x) (append_assoc part h.back more);
    begins = h.begins;
    ends = h.ends;
  }

  pub between_within : end ≤ length text
  between_within = omega (arith, h.ends, ap length h.is, length-append h.front (part ++ h.back), length-append part h.back)

  pub range_is : slice_range text start end ≡ part
  range_is =
      let long : end - start ≡ length part = omega (arith, h.begins, h.ends) in
      let rest : drop start text ≡ part ++ h.back = rw (h.begins, h.is) (drop-append_seam h.front (part ++ h.back)) in
      rw (long, rest) (take-append_seam part h.back)

pub stand_before : {s : Silence} {p : Offsets} {text : List ℕ} → StandIn s p text → (more : List ℕ) → StandIn s p (text ++ more)
stand_before h more = record {
  matchers = between_before h.matchers more;
  created_by = stands_before h.created_by more;
  comment = stands_before h.comment more;
  bucket = stands_before h.bucket more;
}

-- the same where the longer text is written in another way
pub between_grown : {start end : ℕ} {part text grown : List ℕ} → StandsBetween start end part text → (more : List ℕ) → grown ≡ text ++ more → StandsBetween start end part grown
between_grown {start} {end} {part} h more is = subst (StandsBetween start end part) (sym is) (between_before h more)
