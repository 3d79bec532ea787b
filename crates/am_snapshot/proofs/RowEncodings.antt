-- The row of versions that are sent one after the other.
use Rattle.std.proofs.Common.{◌≡◌, ℕ, ◌≤◌, ◌+◌, List, [], ◌∷◌, ◌++◌, length, sym, ap, ◌∙◌, arith, append-nil, append_assoc, length-append}
use Rattle.am_version_order.specs.Versions.{Version}
use Rattle.am_wire.specs.Writing.{delimited}
use Rattle.am_snapshot.specs.Encodings.{row_encoding}

module _ {K X : Type 0} (seen : X → Version K) where
  module _ (sent : List ℕ) (left rest held : List X) (v : X) (is : left ≡ v ∷ rest) (whole : sent ++ row_encoding seen left ≡ row_encoding seen held) where
    -- what was sent, one version further
    pub row_more : (sent ++ delimited (seen v).content) ++ row_encoding seen rest ≡ row_encoding seen held
    row_more = append_assoc sent (delimited (seen v).content) (row_encoding seen rest) ∙ ap (λ (vs : List X). sent ++ row_encoding seen vs) (sym is) ∙ whole

    pub row_within : length sent + length (delimited (seen v).content) ≤ length (row_encoding seen held)
    row_within =
        let all = ap (λ (x : List ℕ). length x) row_more in
        let one = length-append (sent ++ delimited (seen v).content) (row_encoding seen rest) in
        let two = length-append sent (delimited (seen v).content) in
        omega (arith, all, one, two)

  -- and once none is left
  pub row_end : (sent : List ℕ) (left held : List X) → left ≡ [] → sent ++ row_encoding seen left ≡ row_encoding seen held → sent ≡ row_encoding seen held
  row_end sent left held none whole = sym (append-nil sent) ∙ ap (λ (vs : List X). sent ++ row_encoding seen vs) (sym none) ∙ whole

  -- the row of one version more
  pub row_first : (left rest : List X) (v : X) → left ≡ v ∷ rest → length (row_encoding seen left) ≡ length (delimited (seen v).content) + length (row_encoding seen rest)
  row_first left rest v is = ap (λ (vs : List X). length (row_encoding seen vs)) is ∙ length-append (delimited (seen v).content) (row_encoding seen rest)
