-- A challenge, a number, and names behind their lengths, one after the other.
use Rattle.std.proofs.Common.{◌≡◌, ℕ, ◌<◌, ◌^◌, List, ◌++◌, length, take, drop, refl, sym, ap, ◌∙◌, append_assoc}
use Rattle.std.proofs.Math.Seq.{drop-append_seam, take-append_seam}
use Rattle.std.proofs.lemmas.Nat.{from_be_bytes-to_be_bytes_8}
use Rattle.std.specs.Int.{w64, from_be_bytes, to_be_bytes}
use Rattle.am_peer_auth.specs.declared.sequence.Sequence.{Sequence}
use Rattle.am_peer_auth.specs.Seals.{sealed_message}

-- lists that are joined with others of the same length
split : (xs ys us vs : List ℕ) → length xs ≡ length us → xs ++ ys ≡ us ++ vs → (xs ≡ us) × (ys ≡ vs)
split xs ys us vs len same = (
  sym (take-append_seam xs ys) ∙ ap (take (length xs)) same ∙ ap (λ n. take n (us ++ vs)) len ∙ take-append_seam us vs,
  sym (drop-append_seam xs ys) ∙ ap (drop (length xs)) same ∙ ap (λ n. drop n (us ++ vs)) len ∙ drop-append_seam us vs,
)

-- a number in 8 bytes, and what stands behind it
number_apart : (n m : ℕ) (rest more : List ℕ) → n < 2 ^ 64 → m < 2 ^ 64 → to_be_bytes w64 n ++ rest ≡ to_be_bytes w64 m ++ more → (n ≡ m) × (rest ≡ more)
number_apart n m rest more short brief same =
    let parts = split (to_be_bytes w64 n) rest (to_be_bytes w64 m) more refl same in
    (sym (from_be_bytes-to_be_bytes_8 n short) ∙ ap (from_be_bytes w64) parts.0 ∙ from_be_bytes-to_be_bytes_8 m brief, parts.1)

-- the length of a name in 8 bytes
abbrev size : List ℕ → List ℕ
size name = to_be_bytes w64 (length name)

-- a name behind its length, and what stands behind it
name_apart : (name rest other more : List ℕ) → length name < 2 ^ 64 → length other < 2 ^ 64 → (size name ++ name) ++ rest ≡ (size other ++ other) ++ more
    → (name ≡ other) × (rest ≡ more)
name_apart name rest other more short brief same =
    let first = number_apart (length name) (length other) (name ++ rest) (other ++ more) short brief
    (sym (append_assoc (size name) name rest) ∙ same ∙ append_assoc (size other) other more) in
    split name rest other more first.0 first.1

-- names behind their lengths, and an encoding
abbrev named : List ℕ → List ℕ → List ℕ → List ℕ
named sender addressee encoding = (size sender ++ sender) ++ ((size addressee ++ addressee) ++ encoding)

regroup : (place : Sequence) (sender addressee encoding : List ℕ)
    → sealed_message place sender addressee encoding ≡ place.challenge ++ (to_be_bytes w64 place.number ++ named sender addressee encoding)
regroup place sender addressee encoding =
    let head : List ℕ = place.challenge ++ to_be_bytes w64 place.number in
    let first : List ℕ = head ++ size sender in
    append_assoc ((first ++ sender) ++ size addressee) addressee encoding
    ∙ append_assoc (first ++ sender) (size addressee) (addressee ++ encoding)
    ∙ ap (λ (l : List ℕ). (first ++ sender) ++ l) (sym (append_assoc (size addressee) addressee encoding))
    ∙ ap (λ (l : List ℕ). l ++ ((size addressee ++ addressee) ++ encoding)) (append_assoc head (size sender) sender)
    ∙ append_assoc head (size sender ++ sender) ((size addressee ++ addressee) ++ encoding)
    ∙ append_assoc place.challenge (to_be_bytes w64 place.number) (named sender addressee encoding)

same_place : (place elsewhere : Sequence) → place.challenge ≡ elsewhere.challenge → place.number ≡ elsewhere.number → place ≡ elsewhere
same_place place elsewhere challenge number =
    ap (λ (c : List ℕ). record place { challenge = c }) challenge ∙ ap (λ (n : ℕ). record elsewhere { number = n }) number

pub apart : (place elsewhere : Sequence) (sender addressee encoding other whom what : List ℕ) → length place.challenge ≡ 32 → length elsewhere.challenge ≡ 32
    → place.number < 2 ^ 64 → elsewhere.number < 2 ^ 64 → length sender < 2 ^ 64 → length addressee < 2 ^ 64 → length other < 2 ^ 64
    → length whom < 2 ^ 64 → sealed_message place sender addressee encoding ≡ sealed_message elsewhere other whom what
    → (place ≡ elsewhere) × (sender ≡ other) × (addressee ≡ whom) × (encoding ≡ what)
apart place elsewhere sender addressee encoding other whom what long long' n m s a o w same =
    let whole = split place.challenge (to_be_bytes w64 place.number ++ named sender addressee encoding) elsewhere.challenge
    (to_be_bytes w64 elsewhere.number ++ named other whom what) (long ∙ sym long')
    (sym (regroup place sender addressee encoding) ∙ same ∙ regroup elsewhere other whom what) in
    let number = number_apart place.number elsewhere.number (named sender addressee encoding) (named other whom what) n m whole.1 in
    let one = name_apart sender ((size addressee ++ addressee) ++ encoding) other ((size whom ++ whom) ++ what) s o number.1 in
    let two = name_apart addressee encoding whom what a w one.1 in
    (same_place place elsewhere whole.0 number.0, one.0, two.0, two.1)
