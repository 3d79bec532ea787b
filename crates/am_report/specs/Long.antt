-- The details below the line of a version in long lines, and what changed from it to the greatest version of its key.
use Rattle.std.specs.Prelude.{ℕ, List, [], ◌++◌, Bool, map, codes, if◌then◌else◌}
use Rattle.std.specs.Str.{bytes_eq}
use Rattle.std.specs.Fmt.{decimal}
use Rattle.am_silence.specs.declared.matcher.Matcher.{Matcher}
use Rattle.am_silence.specs.declared.matcher.MatcherKind.{MatcherKind}
use Rattle.am_silence.specs.declared.matcher.MatcherKind.TheVariants as kinds
use Rattle.am_silence.specs.declared.silence.Silence.{Silence}
use Rattle.am_silence.specs.Mesh.{Mesh}
use Rattle.am_nflog.specs.LogKeys.{LogKey}
use Rattle.am_wire.specs.declared.unknown.UnknownFields.{UnknownFields}
use Rattle.am_report.specs.Words.{word_of, listed_word_of, tail_of}
use Rattle.am_report.specs.Lists.{listed}
use Rattle.am_report.specs.Texts.{moment_text}
use Rattle.am_report.specs.UnknownFields.{differing}

-- the sign between a label's name and the pattern with which its value is compared
abbrev pub sign_of : MatcherKind → List ℕ
sign_of kinds.Equal = codes "="
sign_of kinds.Regexp = codes "=~"
sign_of kinds.NotEqual = codes "!="
sign_of kinds.NotRegexp = codes "!~"

-- NAME SIGN PATTERN, without the blanks
abbrev pub matcher_word : Matcher → List ℕ
matcher_word m = listed_word_of m.name ++ sign_of m.kind ++ listed_word_of m.pattern

-- the word of matchers, with commas between them
unfoldable pub matchers_word : List Matcher → List ℕ
matchers_word matchers = listed (map matcher_word matchers)

-- the line of a field with its word
unfoldable pub field_line : List ℕ → List ℕ → List ℕ
field_line field word = codes "  " ++ field ++ codes " " ++ word ++ codes "\n"

-- `changed FIELD FROM to TO`, unless the words are the same
unfoldable pub change_line : List ℕ → List ℕ → List ℕ → List ℕ
change_line field from to =
    if bytes_eq from to then [] else codes "  changed " ++ field ++ codes " " ++ from ++ codes " to " ++ to ++ codes "\n"

-- the line of a moment that changed
abbrev pub moment_change : List ℕ → ℕ → ℕ → List ℕ
moment_change field from to = change_line field (moment_text from) (moment_text to)

-- the line of a text that changed
abbrev pub text_change : List ℕ → List ℕ → List ℕ → List ℕ
text_change field from to = change_line field (word_of from) (word_of to)

-- the lines of a silence's matchers, author and comment
abbrev pub about_lines : Silence → List ℕ
about_lines s =
    field_line (codes "matchers") (matchers_word s.matchers) ++ field_line (codes "author") (word_of s.created_by)
    ++ field_line (codes "comment") (word_of s.comment)

-- the lines of a silence's moments that changed, with the expiry if the sources say it
abbrev pub moment_changes : Bool → Mesh → Mesh → List ℕ
moment_changes has_expiries m greatest =
    moment_change (codes "starts") m.silence.starts_at greatest.silence.starts_at
    ++ moment_change (codes "ends") m.silence.ends_at greatest.silence.ends_at
    ++ moment_change (codes "updated") m.silence.updated_at greatest.silence.updated_at
    ++ (if has_expiries then moment_change (codes "expires") m.expires_at greatest.expires_at else [])

-- the lines of a silence's texts and matchers that changed
abbrev pub text_changes : Silence → Silence → List ℕ
text_changes s greatest =
    change_line (codes "matchers") (matchers_word s.matchers) (matchers_word greatest.matchers)
    ++ text_change (codes "author") s.created_by greatest.created_by ++ text_change (codes "comment") s.comment greatest.comment

-- `changed fields NUMBERS`, if there are any
abbrev pub fields_line : List ℕ → List ℕ
fields_line [] = []
fields_line numbers = codes "  changed fields " ++ numbers ++ codes "\n"

-- the line of the numbers of the unknown fields that changed
unfoldable pub fields_change : UnknownFields → UnknownFields → List ℕ
fields_change from to = fields_line (differing from to)

-- the details of a version of a silence
unfoldable pub long_silence : Bool → Mesh → Mesh → List ℕ
long_silence has_expiries m greatest =
    about_lines m.silence ++ moment_changes has_expiries m greatest ++ text_changes m.silence greatest.silence
    ++ fields_change m.unknown greatest.unknown

-- the receiver and the group of an entry, as they are except for what no line can have
unfoldable pub long_key : LogKey → List ℕ
long_key key =
    codes "  receiver " ++ tail_of key.receiver.group_name ++ codes "/" ++ tail_of key.receiver.integration ++ codes "/"
    ++ decimal key.receiver.idx ++ codes "\n  group " ++ tail_of key.group_key ++ codes "\n"
