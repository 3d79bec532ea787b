-- Requests of a push/pull, as memberlist itself writes them.
use Rattle.std.specs.Prelude.{ℕ, nat_lt, if◌then◌else◌, List, [], ◌∷◌, ◌++◌, length, codes}
use Rattle.std.specs.Int.{w16, w32, w64, to_be_bytes}

-- a number in its shortest form
abbrev pub number_text : ℕ → List ℕ
number_text n =
    if nat_lt n 128 then n ∷ []
    else if nat_lt n 256 then 0xcc ∷ n ∷ []
    else if nat_lt n 65_536 then 0xcd ∷ to_be_bytes w16 n
    else if nat_lt n 4_294_967_296 then 0xce ∷ to_be_bytes w32 n
    else 0xcf ∷ to_be_bytes w64 n

-- the type and the header of a push/pull that joins no cluster and names no node, with the number of bytes of states that follow
abbrev pub header : ℕ → List ℕ
header size = 6 ∷ 0x83 ∷ 0xa4 ∷ (codes "Join" ++ 0xc2 ∷ 0xa5 ∷ (codes "Nodes" ++ 0 ∷ 0xac ∷ (codes "UserStateLen" ++ number_text size)))

-- a request that gives these states
abbrev pub request_encoding : List ℕ → List ℕ
request_encoding states = header (length states) ++ states

-- a message that gives a part of a state
abbrev pub told_encoding : List ℕ → List ℕ
told_encoding part = 8 ∷ 0x81 ∷ 0xaa ∷ (codes "UserMsgLen" ++ (number_text (length part) ++ part))
