-- Parts of a post or of a shown silence, read and still borrowed from it.
use Rattle.std.specs.Prelude.{◌≡◌, List, Some, codes}
use Rattle.serde_json.specs.Data.{Data}
use Rattle.am_silence.specs.declared.matcher.Matcher.{Matcher}
use Rattle.am_silence_json.specs.declared.matchers.MatcherParts.{MatcherParts}
use Rattle.am_silence_json.specs.declared.post.Rest.{Rest}
use Rattle.am_silence_json.specs.Posts.{HasMoment, text_in}
use Rattle.am_silence.specs.declared.silence.Silence.{Silence}
use Rattle.am_silence_json.specs.declared.shown.ShownFields.{ShownFields}
use Rattle.am_silence_json.specs.Shown.{HasCut}

-- the matcher with these parts
abbrev pub matcher_in : MatcherParts → Matcher
matcher_in p = record { kind = p.kind; name = p.name.now; pattern = p.pattern.now }

-- the object has these moments and texts
pub record HasRest (d : Data) (r : Rest) : Type 0 where
  pub starts_at : HasMoment (codes "startsAt") d r.starts_at
  pub ends_at : HasMoment (codes "endsAt") d r.ends_at
  pub created_by : text_in (codes "createdBy") d ≡ Some r.created_by.now
  pub comment : text_in (codes "comment") d ≡ Some r.comment.now

-- ---- the parts of a shown silence

-- the object shows these parts
pub record HasShown (d : Data) (s : ShownFields) : Type 0 where
  pub id : text_in (codes "id") d ≡ Some s.id.now
  pub starts_at : HasCut (codes "startsAt") d s.starts_at
  pub ends_at : HasCut (codes "endsAt") d s.ends_at
  pub updated_at : HasCut (codes "updatedAt") d s.updated_at
  pub created_by : text_in (codes "createdBy") d ≡ Some s.created_by.now
  pub comment : text_in (codes "comment") d ≡ Some s.comment.now

-- the silence with these parts and matchers
abbrev pub shown_silence : ShownFields → List Matcher → Silence
shown_silence s matchers = record {
  id = s.id.now;
  matchers = matchers;
  starts_at = s.starts_at;
  ends_at = s.ends_at;
  updated_at = s.updated_at;
  created_by = s.created_by.now;
  comment = s.comment.now;
}
