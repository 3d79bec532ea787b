-- A list of silences being written.
use Rattle.std.specs.Prelude.{◌≡◌, ℕ, List, ◌∷◌}
use Rattle.json.specs.Token.{Token, begin_array}
use Rattle.serde_json.specs.Data.{Data}
use Rattle.am_silence.specs.declared.state.State.{State}
use Rattle.am_silence.specs.Mesh.{Mesh}
use Rattle.am_silence_json.specs.Gettables.{AreGettable}
use Rattle.am_silence_json.specs.Tokens.{row_tokens}

-- the silences, each in its state, and how many of them are left to be written
pub record Listed : Type 0 where
  pub rows : List (Mesh × State)
  pub left : ℕ

-- the opening bracket and these silences are written, and nothing else
abbrev pub AreWritten : List (Mesh × State) → List Token → Type 0
AreWritten rows tokens = (ds : List Data) × AreGettable rows ds × (tokens ≡ begin_array ∷ row_tokens ds)
