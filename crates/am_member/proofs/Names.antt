-- Names that a greeting may have.
use Rattle.std.proofs.Common.{◌≡◌, ℕ, Bool, List, length, true, ◌&&◌, nat_le, ap, ◌∙◌}
use Rattle.std.proofs.lemmas.Bool.{lt-ltb, le-leb}
use Rattle.am_instance.specs.Configs.{IsMemberName}
use Rattle.am_peers.specs.Outgoing.{is_name}

pub named_fit : (name : List ℕ) → IsMemberName name → is_name name ≡ true
named_fit name sized = ap (λ (b : Bool). b && nat_le (length name) 255) (lt-ltb 0 (length name) sized.0) ∙ le-leb (length name) 255 sized.1
