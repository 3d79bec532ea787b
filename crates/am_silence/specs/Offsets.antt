-- The places of a silence's parts in a text.
use Rattle.std.specs.Prelude.{◌≡◌, ℕ, ◌+◌, List, ◌++◌, length}
use Rattle.am_wire.specs.Offsets.{StandsAt}
use Rattle.am_silence.specs.declared.offsets.Offsets.{Offsets}
use Rattle.am_silence.specs.declared.silence.Silence.{Silence}
use Rattle.am_silence.specs.MatcherTexts.{writes_matchers}
use Rattle.am_silence.specs.Mesh.{bucket_of}

-- the part of the text is between these two places
pub record StandsBetween (start end : ℕ) (part text : List ℕ) : Type 0 where
  pub front : List ℕ
  pub back : List ℕ
  pub is : text ≡ front ++ (part ++ back)
  pub begins : start ≡ length front
  pub ends : end ≡ length front + length part

-- the parts of the silence are at their places in the text
pub record StandIn (s : Silence) (p : Offsets) (text : List ℕ) : Type 0 where
  pub matchers : StandsBetween p.matchers p.matchers_end (writes_matchers s.matchers) text
  pub created_by : StandsAt s.created_by p.created_by text
  pub comment : StandsAt s.comment p.comment text
  pub bucket : StandsAt (bucket_of s.matchers) p.bucket text
