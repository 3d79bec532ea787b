use Rattle.am_member.specs.Lives.{said_in, session_phases_in, turns_of}
use Rattle.am_member.proofs.Connections.{as_bytes, heard_from_fresh, pieces_of}
use Rattle.am_member.proofs.laws.connections_say_what_their_bytes_say.Goals as goal

pub returns : goal.returns
returns c = λ session_phases start new deeds connection life first all.
    as_bytes (turns_of connection deeds) (said_in (turns_of connection deeds)) (session_phases_in session_phases deeds connection)
    (c.pieces_are_their_bytes.ensures (pieces_of (turns_of connection deeds)) (said_in (turns_of connection deeds)) (session_phases_in session_phases deeds connection)
    (heard_from_fresh session_phases start new deeds connection life first all))
