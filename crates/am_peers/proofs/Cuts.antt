-- A peer's word is cut at its last sign =.
use Rattle.std.proofs.Common.{◌≡◌, ℕ, ◌+◌, ◌-◌, ◌<◌, List, [], ◌∷◌, ◌++◌, length, get_or, drop, arith, sym, ap, ◌∙◌, inl, inr, suc, append_assoc}
use Rattle.std.proofs.lemmas.Bool.{cases_lt}
use Rattle.std.specs.Prelude.{◌≢◌}
use Rattle.std.specs.declared.net.socket_addr.SocketAddr.{SocketAddr}
use Rattle.std.proofs.Math.Seq.{get_or-append_seam, get_or-append_right}
use Rattle.std.proofs.lemmas.List.{drop_at, length-append}
use Rattle.am_peers.specs.Addresses.{IsAddressWord, IsPeerWord}

-- no sign stands in a text
abbrev pub HasNone : List ℕ → Type 0
HasNone text = (i : ℕ) → i < length text → get_or text i 0 ≢ 61

-- the last sign stands right before what has none
last_at : (name text : List ℕ) (k : ℕ) → HasNone text → k < length (name ++ (61 ∷ text)) → get_or (name ++ (61 ∷ text)) k 0 ≡ 61
    → ((i : ℕ) → k < i → i < length (name ++ (61 ∷ text)) → get_or (name ++ (61 ∷ text)) i 0 ≢ 61) → length name ≡ k
last_at name text k none inside sign after =
    let whole : length (name ++ (61 ∷ text)) ≡ length name + suc (length text) = length-append name (61 ∷ text) in
    let seam = get_or-append_seam name 61 text 0 in
    elim (cases_lt k (length name)) [
      | inl before ↦ absurd (after (length name) before (omega (arith, whole)) seam)
      | inr behind ↦ elim (cases_lt (length name) k) [
        | inl past ↦
            let at : suc (k - length name - 1) ≡ k - length name = omega arith in
            let same = get_or-append_right name (61 ∷ text) k 0 behind in
            let there : get_or text (k - length name - 1) 0 ≡ 61 = ap (λ n. get_or (61 ∷ text) n 0) at ∙ sym same ∙ sign in
            absurd (none (k - length name - 1) (omega (arith, whole)) there)
        | inr not_past ↦ omega arith
      ]
    ]

append_step : (name text : List ℕ) → name ++ (61 ∷ text) ≡ (name ++ (61 ∷ [])) ++ text
append_step name text = sym (append_assoc name (61 ∷ []) text)

-- what stands behind the last sign is the text
pub text_behind : (word name text : List ℕ) (k : ℕ) → word ≡ name ++ (61 ∷ text) → HasNone text → k < length word → get_or word k 0 ≡ 61
    → ((i : ℕ) → k < i → i < length word → get_or word i 0 ≢ 61) → drop (k + 1) word ≡ text
text_behind word name text k is none inside sign after =
    let at = last_at name text k none (rw (sym is) inside) (rw (sym is) sign) (λ i past in_word bad. after i past (rw is in_word) (rw is bad)) in
    rw (is, append_step name text) (drop_at (name ++ (61 ∷ [])) text (k + 1) (length-append name (61 ∷ []) ∙ omega (arith, at)))

-- a word without a sign is no peer
pub none_without : (word : List ℕ) → HasNone word → (name : List ℕ) (address : SocketAddr) → ¬ IsPeerWord word name address
none_without word free name address = λ peer.
    let inside : length name < length word = rw (peer.parts, length-append name (61 ∷ peer.text)) (omega arith) in
    free (length name) inside (rw peer.parts (get_or-append_seam name 61 peer.text 0))

-- nor is one of which no address stands behind the last sign
pub none_behind : (word back : List ℕ) (k : ℕ) → k < length word → get_or word k 0 ≡ 61 → ((i : ℕ) → k < i → i < length word → get_or word i 0 ≢ 61)
    → back ≡ drop (k + 1) word → ((address : SocketAddr) → ¬ IsAddressWord back address) → (name : List ℕ) (address : SocketAddr) → ¬ IsPeerWord word name address
none_behind word back k inside sign after is bad name address = λ peer.
    let same : drop (k + 1) word ≡ peer.text = text_behind word name peer.text k peer.parts peer.last inside sign after in
    bad address (rw (is, same) peer.is)
