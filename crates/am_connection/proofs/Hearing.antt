-- Pieces that come one after the other.
use Rattle.std.proofs.Common.{false, is_some, ◌≡◌, ℕ, ◌+◌, ◌≤◌, List, [], ◌∷◌, ◌++◌, length, length-append, Option, None, Some, ◌∙◌, refl, sym, ap, subst, arith, append-nil, append_assoc}
use Rattle.std.proofs.KnownBytes.{Consumes-trans}
use Rattle.std.specs.Io.KnownBytes.{Consumes}
use Rattle.am_http.specs.Sessions.{most_bytes}
use Rattle.am_peers.specs.declared.fault.ConnectionFault.{ConnectionFault}
use Rattle.am_connection.specs.Connections.{AreTurns, IsTurn, Stand, joined}

-- so far pieces came that are not at fault, of so many bytes
pub record HasHeard (bits now count : ℕ) (input left : Option (List ℕ)) (before after : Stand) : Type 0 where
  pub pieces : List (List ℕ)
  pub consumed : Consumes input left (joined pieces)
  pub turns : AreTurns bits now pieces before after
  pub counted : count ≡ length (joined pieces)
  pub few : count ≤ most_bytes

-- the bytes of pieces and one more
pub joined-append : (pieces : List (List ℕ)) (piece : List ℕ) → joined (pieces ++ piece ∷ []) ≡ joined pieces ++ piece
joined-append [] piece = append-nil piece
joined-append (first ∷ pieces) piece = ap (λ (bytes : List ℕ). first ++ bytes) (joined-append pieces piece) ∙ sym (append_assoc first (joined pieces) piece)

-- one more turn behind others
turns-append : (bits now : ℕ) (pieces : List (List ℕ)) (piece : List ℕ) (before mid after : Stand) → AreTurns bits now pieces before mid → IsTurn bits now piece mid after None
    → AreTurns bits now (pieces ++ piece ∷ []) before after
turns-append bits now [] piece before mid after same turn = (after, subst (λ (s : Stand). IsTurn bits now piece s after None) same turn, refl)
turns-append bits now (first ∷ pieces) piece before mid after turns turn = (turns.0, turns.1, turns-append bits now pieces piece turns.0 mid after turns.2 turn)

none_of : (stop : Option ConnectionFault) → is_some stop ≡ false → stop ≡ None
none_of None on = refl
none_of (Some fault) on = absurd cc

-- one more piece came
pub heard_more : (bits now count : ℕ) (input mid_input left : Option (List ℕ)) (before mid after : Stand) (piece : List ℕ) (size : ℕ) (stop : Option ConnectionFault)
    → HasHeard bits now count input mid_input before mid → Consumes mid_input left piece → length piece ≡ size → IsTurn bits now piece mid after stop → is_some stop ≡ false
    → count + size ≤ most_bytes → HasHeard bits now (count + size) input left before after
heard_more bits now count input mid_input left before mid after piece size stop heard came length_is turn on few =
    let whole = joined-append heard.pieces piece in
    let all = ap length whole ∙ length-append (joined heard.pieces) piece in
    record {
      pieces = heard.pieces ++ piece ∷ [];
      consumed = subst (λ (bytes : List ℕ). Consumes input left bytes) (sym whole) (Consumes-trans input mid_input left (joined heard.pieces) piece heard.consumed came);
      turns = turns-append bits now heard.pieces piece before mid after heard.turns (subst (λ (f : Option ConnectionFault). IsTurn bits now piece mid after f) (none_of stop on) turn);
      counted = omega (arith, heard.counted, all, length_is);
      few = few;
    }
