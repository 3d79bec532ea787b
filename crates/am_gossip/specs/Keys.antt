-- The keys of the states.
use Rattle.std.specs.Prelude.{ℕ, List, Option, Some, None, codes, bytes_eq, if◌then◌else◌}
use Rattle.am_gossip.specs.declared.frame.StateKey.{StateKey}
use Rattle.am_gossip.specs.declared.frame.StateKey.TheVariants.{Sil, Nfl}

-- the key of a state
abbrev pub key_text : StateKey → List ℕ
key_text Sil = codes "sil"
key_text Nfl = codes "nfl"

-- the state that a key names
abbrev pub key_of : List ℕ → Option StateKey
key_of text =
    if bytes_eq text (codes "sil") then Some Sil else
    if bytes_eq text (codes "nfl") then Some Nfl else None
