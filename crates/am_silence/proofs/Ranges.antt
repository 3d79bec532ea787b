-- Matchers that are read between their places.
use Rattle.std.proofs.Common.{◌≡◌, ℕ, ◌<◌, ◌^◌, List, length, slice_range, sym, ap, subst, ◌∙◌, arith}
use Rattle.std.specs.Prelude.{All}
use Rattle.am_silence.specs.declared.matcher.Matcher.{Matcher}
use Rattle.am_silence.specs.Matchers.{IsMatcher}
use Rattle.am_silence.specs.MatcherTexts.{writes_matchers, matchers_in, IsMatchersText}
use Rattle.am_silence.proofs.MatcherTexts.{matchers_spelled, is_text}
use Rattle.am_silence.specs.Offsets.{StandsBetween}
use Rattle.am_silence.proofs.OffsetsKept.{range_is, between_within}

module _ {start end : ℕ} (ms : List Matcher) {text : List ℕ} (h : StandsBetween start end (writes_matchers ms) text) (values : All IsMatcher ms) (small : length text < 2 ^ 64) where
  short : length (writes_matchers ms) < 2 ^ 64
  short = omega (arith, h.ends, between_within h, small)

  pub range_is_text : IsMatchersText (slice_range text start end)
  range_is_text = subst IsMatchersText (sym (range_is h)) (is_text ms values short)

  pub range_spells : matchers_in (slice_range text start end) ≡ ms
  range_spells = ap matchers_in (range_is h) ∙ matchers_spelled ms values short
