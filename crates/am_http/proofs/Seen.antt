-- A greeting that was read.
use Rattle.std.proofs.Common.{◌≡◌, ◌∙◌, ap, sym, ℕ, List, Option, Some, Result, Ok}
use denote.Ref.{Bor}
use Rattle.am_gossip.specs.declared.error.FrameError.{FrameError}
use Rattle.am_gossip.specs.Hellos.{hello_of, hello_seen}

abbrev pub Name : Type 0
Name = Option (Bor (List ℕ) × ℕ)

abbrev pub read : Name → Result Name FrameError
read name = Ok name

abbrev pub named : Bor (List ℕ) → ℕ → Name
named name len = Some (name, len)

pub seen_is : (bytes : List ℕ) (result : Result Name FrameError) (some : Name) (name : Bor (List ℕ)) (len : ℕ) → result ≡ read some → some ≡ named name len → hello_seen result ≡ hello_of bytes → hello_of bytes ≡ Ok (Some (name.now, len))
seen_is bytes result some name len is some_is seen = sym seen ∙ ap hello_seen (is ∙ ap read some_is)
