-- The words of a silence and of an entry of the log.
use Rattle.std.specs.Prelude.{List, ℕ, [], ◌++◌, ◌||◌, not, codes, if◌then◌else◌}
use Rattle.am_version_order.specs.Versions.{is_live}
use Rattle.am_silence.specs.Mesh.{Mesh, mesh_version}
use Rattle.am_silence.specs.States.{state_of}
use Rattle.am_nflog.specs.Mesh.{Mesh as LogMesh}
use Rattle.am_nflog.specs.LogKeys.{LogKey}
use Rattle.am_report.specs.Words.{word_of}
use Rattle.am_report.specs.Lists.{numbers_word}
use Rattle.am_report.specs.Views.{key_words, state_word}
use Rattle.am_report.specs.Texts.{moment_text}
use Rattle.am_report.specs.Long.{fields_change, long_key, long_silence}
use Rattle.am_report.specs.declared.format.LineFormat.{LineFormat}

-- sil ID
abbrev pub begins_silence : List ℕ → List ℕ
begins_silence id = codes "sil " ++ word_of id

-- the state at the moment, or `gone` if the version isn't live then, as far as the sources say when that is
abbrev pub shown_state : LineFormat → Mesh → List ℕ
shown_state format m =
    if is_live format.moment (mesh_version m) || not format.has_expiries then state_word (state_of m.silence format.moment) else codes "gone"

-- STATE UPDATED ENDS
unfoldable pub told_silence : LineFormat → Mesh → List ℕ
told_silence format m =
    shown_state format m ++ codes " " ++ moment_text m.silence.updated_at ++ codes " " ++ moment_text m.silence.ends_at

-- the text below the line of a version in long lines, with what changed from it to the greatest; else nothing
abbrev pub more_of_silence : LineFormat → Mesh → Mesh → List ℕ
more_of_silence format m greatest = if format.is_long then long_silence format.has_expiries m greatest else []

-- nfl GROUP GROUPNAME INTEGRATION IDX
abbrev pub begins_entry : LogKey → List ℕ
begins_entry key = codes "nfl " ++ key_words key

-- UPDATED EXPIRES FIRING RESOLVED, in any format
unfoldable pub told_entry : LineFormat → LogMesh → List ℕ
told_entry format m =
    moment_text m.entry.timestamp ++ codes " " ++ moment_text m.expires_at ++ codes " "
    ++ numbers_word m.entry.firing_alerts ++ codes " " ++ numbers_word m.entry.resolved_alerts

-- the text below the line of an entry in long lines, with the unknown fields that changed from it to the greatest; else nothing
abbrev pub more_of_entry : LineFormat → LogMesh → LogMesh → List ℕ
more_of_entry format m greatest = if format.is_long then long_key m.entry.key ++ fields_change m.unknown greatest.unknown else []
