-- Messages end in one place only, whatever follows them.
use Rattle.std.proofs.Common.{◌≡◌, ℕ, ◌+◌, ◌-◌, ◌≤◌, List, [], ◌∷◌, ◌++◌, length, take, drop, map, Result, Ok, Err, refl, sym, ap, ◌∙◌}
use Rattle.std.proofs.lemmas.List.{take-append-drop, take-append-le, drop-append-le}
use Rattle.am_wire.specs.declared.error.WireError.{WireError}
use Rattle.am_wire.specs.Fields.{row_at, next_piece, pieces, ◌>>=◌}
use Rattle.am_wire.specs.RoundTrip.Pieces.{pieces-first}
use Rattle.am_wire.proofs.Found.{row_found}
use Rattle.am_wire.specs.Inputs.{sound, message_at, AreMessages}
use Rattle.am_snapshot.proofs.Whole.{row_at-whole}

module _ {A : Type 0} (others : ℕ → List (Result A WireError)) where
  never_empty : (r : Result (A × ℕ) WireError) → next_piece others r ≡ [] → ⊥
  never_empty (Ok x) h = absurd cc
  never_empty (Err e) h = absurd cc

  first_sound : (r : Result (A × ℕ) WireError) (m : A) (rest : List (Result A WireError)) → next_piece others r ≡ sound m ∷ rest → (len : ℕ) × (r ≡ Ok (m, len))
  first_sound (Ok x) m rest h = (x.1, let same : x.0 ≡ m = cc in ap (λ (v : A). Ok (v, x.1)) same)
  first_sound (Err e) m rest h = absurd cc

behind : {A : Type 0} (x y : A) (xs ys : List A) → x ∷ xs ≡ y ∷ ys → xs ≡ ys
behind x y xs ys h = cc

module _ {A : Type 0} (reads : ℕ → List ℕ → Result A WireError) where
  abbrev pub from : ℕ → List ℕ → List (Result A WireError)
  from at bytes = pieces (message_at reads) 0 at bytes

  abbrev found : A × ℕ → Result (A × ℕ) WireError
  found x = Ok x

  -- the first message, of so many bytes
  pub record IsFirst (m : A) (at : ℕ) (bytes : List ℕ) (len : ℕ) : Type 0 where
    pub filled : 1 ≤ len
    pub within : len ≤ length bytes
    pub stays : (rest : List ℕ) → message_at reads at (bytes ++ rest) ≡ Ok (m, len)

  same_len : (v m : A) (n len : ℕ) → found (v, n) ≡ found (m, len) → n ≡ len
  same_len v m n len h = let same : (v, n) ≡ (m, len) = cc in ap (λ (x : A × ℕ). x.1) same

  len_is : (r : Result A WireError) (m : A) (n len : ℕ) → (r >>= λ v. found (v, n)) ≡ Ok (m, len) → n ≡ len
  len_is (Ok v) m n len h = same_len v m n len h
  len_is (Err e) m n len h = absurd cc

  first_by : (m : A) (at : ℕ) (bytes : List ℕ) (len : ℕ) (r : Result (List ℕ × ℕ) WireError) → row_at at bytes ≡ r
      → (r >>= λ row. (reads (at + (row.1 - length row.0)) row.0 >>= λ v. found (v, row.1))) ≡ Ok (m, len) → IsFirst m at bytes len
  first_by m at bytes len (Ok row) is h =
      let row_is = row_found at bytes row is in
      let n = len_is (reads (at + (row.1 - length row.0)) row.0) m row.1 len h in
      record {
        filled = rw (← n) row_is.filled;
        within = rw (← n) row_is.within;
        stays = λ rest. rw (row_at-whole at bytes rest row is) h;
      }
  first_by m at bytes len (Err e) is h = absurd cc

  -- of bytes that begin with a message: where it ends, and what stands behind it
  pub record HasFirst (m : A) (messages : List A) (at : ℕ) (bytes : List ℕ) : Type 0 where
    pub len : ℕ
    pub first : IsFirst m at bytes len
    pub rest : from (at + len) (drop len bytes) ≡ map sound messages

  pub has_first : (m : A) (messages : List A) (at : ℕ) (bytes : List ℕ) → from at bytes ≡ map sound (m ∷ messages) → HasFirst m messages at bytes
  unfolding pieces
  has_first m messages at [] h = absurd cc
  has_first m messages at (b ∷ bytes) h =
      let all : List ℕ = b ∷ bytes in
      let one = first_sound (λ skip. pieces (message_at reads) skip (at + 1) bytes) (message_at reads at all) m (map sound messages) h in
      let first = first_by m at all one.0 (row_at at all) refl one.1 in
      record {
        len = one.0;
        first = first;
        rest = behind (sound m) (sound m) _ _ (sym (pieces-first (message_at reads) at all (m, one.0) one.1 first.filled first.within) ∙ h);
      }

  pub none_there : (at : ℕ) (bytes : List ℕ) → from at bytes ≡ [] → bytes ≡ []
  unfolding pieces
  none_there at [] h = refl
  none_there at (b ∷ bytes) h = absurd (never_empty (λ skip. pieces (message_at reads) skip (at + 1) bytes) (message_at reads at (b ∷ bytes)) h)

  -- two fronts of the same bytes that are these messages are one
  same_end : (messages : List A) (at : ℕ) (one two x y : List ℕ) → one ++ x ≡ two ++ y → from at one ≡ map sound messages → from at two ≡ map sound messages → one ≡ two
  same_end [] at one two x y same first second = none_there at one first ∙ sym (none_there at two second)
  same_end (m ∷ messages) at one two x y same first second =
      let f = has_first m messages at one first in
      let s = has_first m messages at two second in
      let len : f.len ≡ s.len = same_len m m f.len s.len (sym (f.first.stays x) ∙ ap (λ (l : List ℕ). message_at reads at l) same ∙ s.first.stays y) in
      let within : f.len ≤ length two = rw len s.first.within in
      let fronts : take f.len one ≡ take f.len two = sym (take-append-le f.len one x f.first.within) ∙ ap (λ (l : List ℕ). take f.len l) same ∙ take-append-le f.len two y within in
      let backs : drop f.len one ++ x ≡ drop f.len two ++ y = sym (drop-append-le f.len one x f.first.within) ∙ ap (λ (l : List ℕ). drop f.len l) same ∙ drop-append-le f.len two y within in
      let others : from (at + f.len) (drop f.len two) ≡ map sound messages = rw len s.rest in
      let rest = same_end messages (at + f.len) (drop f.len one) (drop f.len two) x y backs f.rest others in
      sym (take-append-drop f.len one) ∙ ap (λ (l : List ℕ). l ++ drop f.len one) fronts ∙ ap (λ (l : List ℕ). take f.len two ++ l) rest ∙ take-append-drop f.len two

  pub ends_once : (messages : List A) (one two x y : List ℕ) → one ++ x ≡ two ++ y → AreMessages reads one messages → AreMessages reads two messages → one ≡ two
  ends_once messages one two x y same first second = same_end messages 0 one two x y same first second
