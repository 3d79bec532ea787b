-- The live entries of the log, as a reply lists them.
use Rattle.std.specs.Prelude.{◌≡◌, ℕ, List, ◌∷◌, map}
use Rattle.json.specs.Token.{Token, begin_array}
use Rattle.am_nflog.specs.Mesh.{Mesh}
use Rattle.am_silence_json.specs.Tokens.{row_tokens}
use Rattle.am_report.specs.Json.Values.{entry_data}
use Rattle.am_report.specs.Json.Views.{list_line}
use Rattle.am_api_silences.specs.Replies.{good_bytes}

-- entries that are being written, and how many of them are left
pub record Telling : Type 0 where
  pub rows : List Mesh
  pub left : ℕ

-- The opening bracket and these entries are written, and nothing else.
abbrev pub AreWritten : List Mesh → List Token → Type 0
AreWritten rows tokens = tokens ≡ begin_array ∷ row_tokens (map entry_data rows)

-- the reply 200 with the entries as one line of JSON, as `show` prints a log
abbrev pub log_bytes : List Mesh → List ℕ
log_bytes rows = good_bytes (list_line (map entry_data rows))
