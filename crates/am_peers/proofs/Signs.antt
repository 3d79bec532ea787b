-- The last sign = of a text, as std finds it, in bytes.
use Rattle.std.proofs.Common.{◌≡◌, ℕ, ◌+◌, ◌-◌, ◌<◌, List, ◌∷◌, ◌++◌, length, get_or, take, drop, suc, arith, sym, ap, ◌∙◌, lit<}
use Rattle.std.specs.Prelude.{◌≢◌, ◌==◌}
use Rattle.std.specs.Str.{NoCharPasses}
use Rattle.std.specs.Str.Pattern.{HasCharAt}
use Rattle.std.specs.declared.net.socket_addr.SocketAddr.{SocketAddr}
use Rattle.std.proofs.lemmas.List.{length-drop, get_or-drop, take-append-drop}
use Rattle.std.proofs.lemmas.Str.Pattern.{NoCharPasses-char, drop_at_char}
use Rattle.am_peers.specs.Addresses.{IsAddressWord, IsPeerWord}
use Rattle.am_peers.proofs.Cuts.{HasNone, none_without, none_behind}

-- no sign passes, so none stands there
pub has_none : (text : List ℕ) → NoCharPasses (λ d. d == 61) text → HasNone text
has_none text free i inside = NoCharPasses-char 61 text i free (lit< tt) inside

pub none_found : (word : List ℕ) → NoCharPasses (λ d. d == 61) word → (name : List ℕ) (address : SocketAddr) → ¬ IsPeerWord word name address
none_found word free = none_without word (has_none word free)

-- a sign stands at i, and none from j on, which is the place behind it
module _ (word : List ℕ) (i j : ℕ) (free : NoCharPasses (λ d. d == 61) (drop j word)) (at : HasCharAt 61 word i j) where
  pub parts_at : word ≡ take i word ++ (61 ∷ drop j word)
  parts_at = sym (take-append-drop i word) ∙ ap (λ back. take i word ++ back) (drop_at_char 61 word i j at (lit< tt))

  next : j ≡ i + 1
  next = at.ends

  inside : i < length word
  inside =
      let behind = length-drop i word in
      let there : length (drop i word) ≡ suc (length (drop j word)) = ap length (drop_at_char 61 word i j at (lit< tt)) in
      omega (arith, behind, there)

  after : (k : ℕ) → i < k → k < length word → get_or word k 0 ≢ 61
  after k past in_word sign =
      let back : j + (k - j) ≡ k = let e = next in omega (arith, e) in
      let behind = length-drop j word in
      let e = next in
      has_none (drop j word) free (k - j) (omega (arith, behind, e)) (get_or-drop j word (k - j) 0 ∙ ap (λ n. get_or word n 0) back ∙ sign)

  pub none_cut : (rest : List ℕ) → rest ≡ drop j word → ((address : SocketAddr) → ¬ IsAddressWord rest address) → (name : List ℕ) (address : SocketAddr)
      → ¬ IsPeerWord word name address
  none_cut rest is bad = none_behind word rest i inside (at.byte (lit< tt)) after (is ∙ ap (λ n. drop n word) next) bad
