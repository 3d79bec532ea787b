-- The request to a server, and how much of its reply is read.
use Rattle.std.specs.Prelude.{ℕ, List, ◌++◌, codes, ⊤}
use Rattle.am_peers.specs.declared.error.ServerFault.{ServerFault}
use Rattle.am_peers.specs.declared.error.ServerFault.TheVariants.{Read, TooLarge, Memory}

-- the request for all silences by HTTP/1.0 (RFC 1945, section 5), of the server at a host, whose API stands below a path
abbrev pub request_text : List ℕ → List ℕ → List ℕ
request_text host path =
    codes "GET " ++ path ++ codes "/api/v2/silences HTTP/1.0\r\nHost: " ++ host ++ codes "\r\nAccept: application/json\r\nConnection: close\r\n\r\n"

-- the most bytes that are read of a reply
abbrev pub most_reply : ℕ
most_reply = 67125248

-- the faults of reading a reply
abbrev pub IsOfReading : ServerFault → Type 0
IsOfReading (Read at) = ⊤
IsOfReading TooLarge = ⊤
IsOfReading Memory = ⊤
IsOfReading _ = ⊥
