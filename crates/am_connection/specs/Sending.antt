-- The bytes that go out to a peer: a greeting, and frames behind it.
use Rattle.std.specs.Prelude.{◌≡◌, ℕ, List, ◌++◌, length, Option, Result, Ok, Err}
use Rattle.std.specs.List.{flat_map}
use Rattle.std.specs.Io.KnownBytes.{Appends}
use Rattle.am_gossip.specs.Frames.{frame_encoding}
use Rattle.am_gossip.specs.declared.frame.Frame.{Frame}
use Rattle.am_peers.specs.Outgoing.{greeting_encoding}
use Rattle.am_wire.specs.OutputWriting.{WritesPart}
use Rattle.am_connection.specs.declared.sending.SendError.{SendError}
use Rattle.am_connection.specs.declared.sending.SendError.TheVariants.{Write}

-- the greeting of this name, and the text of each frame in order
abbrev pub outgoing_text : List ℕ → List Frame → List ℕ
outgoing_text name frames = greeting_encoding name ++ flat_map frame_encoding frames

-- all of the text went out, and its bytes are counted; or exactly the counted first bytes if a write failed; else nothing
abbrev pub IsSentAs : List ℕ → Option (List ℕ) → Option (List ℕ) → Result ℕ SendError → Type 0
IsSentAs text before after (Ok count) = Appends before after text × (count ≡ length text)
IsSentAs text before after (Err (Write written)) = WritesPart before after text written
IsSentAs text before after (Err _) = after ≡ before
