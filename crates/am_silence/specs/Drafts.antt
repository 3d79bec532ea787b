-- The state of a message's draft after some fields.
use Rattle.std.specs.Prelude.{◌≡◌, true, false, List, map, MatchOption}
use Rattle.am_wire.specs.Fields.{FieldAt}
use Rattle.am_wire.specs.Parts.{IsPart}
use Rattle.am_wire.specs.Reading.{last_number, last_text, last_number_place, messages}
use Rattle.am_wire.specs.Timestamps.{timestamp}
use Rattle.am_wire.specs.TimestampDrafts.{IsTimestampDraft}
use Rattle.am_silence.specs.Matchers.{matcher, matcher_value}
use Rattle.am_silence.specs.Silences.{first_comment}
use Rattle.am_silence.specs.declared.matcher.MatcherDraft.{MatcherDraft}
use Rattle.am_silence.specs.declared.comment.CommentDraft.{CommentDraft}
use Rattle.am_silence.specs.declared.comment.FirstComment.{FirstComment}
use Rattle.am_silence.specs.declared.silence.SilenceDraft.{SilenceDraft}

-- a matcher's draft holds what these fields leave
pub record IsMatcherDraft (es : List FieldAt) (d : MatcherDraft) : Type 0 where
  pub kind : d.kind.value ≡ last_number 1 es
  pub kind_place : d.kind.at ≡ last_number_place 1 es
  pub name : d.name.text.now ≡ last_text 2 es
  pub pattern : d.pattern.text.now ≡ last_text 3 es

-- an old comment's draft holds what these fields leave
pub record IsCommentDraft (es : List FieldAt) (d : CommentDraft) : Type 0 where
  pub author : d.author.text.now ≡ last_text 1 es
  pub text : d.text.text.now ≡ last_text 2 es
  pub written_at : IsPart IsTimestampDraft timestamp 3 es d.written_at

-- the author and the text are those of the comment with these fields
pub record KeepsComment (d : FirstComment) (es : List FieldAt) : Type 0 where
  pub given : d.given ≡ true
  pub author : d.author.now ≡ last_text 1 es
  pub text : d.text.now ≡ last_text 2 es

-- the author and the text are those of the first old comment among the fields, if there is one
abbrev pub IsFirstComment : List FieldAt → FirstComment → Type 0
IsFirstComment es d = MatchOption (first_comment es) (d.given ≡ false) (KeepsComment d)

-- a silence's draft holds what these fields leave
pub record IsSilenceDraft (es : List FieldAt) (d : SilenceDraft) : Type 0 where
  pub id : d.id.text.now ≡ last_text 1 es
  pub matchers : d.matchers ≡ map matcher_value (messages matcher 2 es)
  pub starts_at : IsPart IsTimestampDraft timestamp 3 es d.starts_at
  pub ends_at : IsPart IsTimestampDraft timestamp 4 es d.ends_at
  pub updated_at : IsPart IsTimestampDraft timestamp 5 es d.updated_at
  pub first_comment : IsFirstComment es d.first_comment
  pub created_by : d.created_by.text.now ≡ last_text 8 es
  pub comment : d.comment.text.now ≡ last_text 9 es
