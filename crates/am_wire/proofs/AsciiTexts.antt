-- ASCII is UTF-8.
use Rattle.std.proofs.Common.{List, ℕ}
use Rattle.std.specs.Str.{IsAscii, IsUtf8}
use Rattle.std.proofs.lemmas.Str.{IsUtf8-from_ascii}

pub ascii_text : (bytes : List ℕ) → IsAscii bytes → IsUtf8 bytes
ascii_text = IsUtf8-from_ascii
