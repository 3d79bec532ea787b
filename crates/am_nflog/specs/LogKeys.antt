-- The key of a group of alerts and a receiver.
use Rattle.std.specs.Prelude.{ℕ, ◌-◌, ◌≤◌, List, length, take, drop}
use Rattle.std.specs.Str.{IsUtf8}
use Rattle.am_nflog.specs.declared.receiver.Receiver.{Receiver}

-- a key of the log
pub record LogKey : Type 0 where
  pub group_key : List ℕ
  pub receiver : Receiver

-- the part of a text between two places
abbrev pub between : ℕ → ℕ → List ℕ → List ℕ
between start end text = take (end - start) (drop start text)

-- the key whose three texts are stored as one, in which the second and the third begin at these places
abbrev pub key_in : List ℕ → ℕ → ℕ → ℕ → LogKey
key_in text group_name integration idx = record {
  group_key = take group_name text;
  receiver = record { group_name = between group_name integration text; integration = drop integration text; idx = idx };
}

-- the places are in order, and the parts from there on are UTF-8
pub record AreParted (text : List ℕ) (group_name integration : ℕ) : Type 0 where
  pub order : group_name ≤ integration
  pub within : integration ≤ length text
  pub name : IsUtf8 (between group_name integration text)
  pub rest : IsUtf8 (drop integration text)
