-- A filter from its parts, and its one reading.
use Rattle.std.proofs.Common.{◌≡◌, ℕ, false, List, [], ◌∷◌, ◌++◌, map, refl, sym, ap, ◌∙◌, subst, inl, inr, true≢false}
use Rattle.std.specs.Prelude.{chars, encode_utf8_all}
use Rattle.std.specs.List.{list_any}
use Rattle.std.proofs.lemmas.List.{append_cancel_right}
use Rattle.am_silence.specs.declared.matcher.Matcher.{Matcher}
use Rattle.am_silence.specs.declared.matcher.MatcherKind.{MatcherKind}
use Rattle.am_matcher.specs.declared.pieces.Piece.{Piece}
use Rattle.am_matcher.specs.Filters.{pieces, quote, is_quote, IsInside, IsSplit, IsValue, IsFilter}
use Rattle.am_matcher.proofs.Splits.{steps_of, same_steps, SameParts}

-- ---- quotes
rest_of : (a b : Piece) (xs ys : List Piece) → a ∷ xs ≡ b ∷ ys → xs ≡ ys
rest_of a b xs ys e = cc

no_quote_first : (inside rest : List Piece) → list_any is_quote inside ≡ false → inside ≡ quote ∷ rest → ⊥
no_quote_first inside rest plain e = true≢false (sym (ap (list_any is_quote) e) ∙ plain)

pub inside_once : (all a b : List Piece) → IsInside all a → IsInside all b → a ≡ b
inside_once all a b p q =
    elim p.around [
      | inl e ↦ elim q.around [ inl f ↦ sym e ∙ f | inr f ↦ absurd (no_quote_first a (b ++ quote ∷ []) p.plain (sym e ∙ f)) ]
      | inr e ↦
          elim q.around [
            | inl f ↦ absurd (no_quote_first b (a ++ quote ∷ []) q.plain (sym f ∙ e))
            | inr f ↦ append_cancel_right a b (quote ∷ []) (rest_of quote quote (a ++ quote ∷ []) (b ++ quote ∷ []) (sym e ∙ f))
          ]
    ]

-- ---- one reading
same_split : (text : List ℕ) (kind other : MatcherKind) (name name' written written' : List ℕ) → IsSplit text kind name written → IsSplit text other name' written' → SameParts kind other name name' written written'
same_split text kind other name name' written written' p q =
    same_steps text kind other name name' written written' (steps_of text kind name written p) (steps_of text other name' written' q)

pub filter_once : (bytes : List ℕ) (m other : Matcher) → IsFilter bytes m → IsFilter bytes other → m ≡ other
filter_once bytes m other p q =
    let parts = same_split (chars bytes) m.kind other.kind p.name q.name p.written q.written p.split q.split in
    let moved : IsInside (pieces p.written) q.is_value.inside =
    subst (λ (l : List ℕ). IsInside (pieces l) q.is_value.inside) (sym parts.same_written) q.is_value.is_inside in
    let inside = inside_once (pieces p.written) p.is_value.inside q.is_value.inside p.is_value.is_inside moved in
    let value : p.value ≡ q.value =
    p.is_value.characters ∙ ap (λ (l : List Piece). map (λ piece. piece.character) l) inside ∙ sym q.is_value.characters in
    let name : m.name ≡ other.name = p.name_is ∙ ap encode_utf8_all parts.same_name ∙ sym q.name_is in
    let pattern : m.pattern ≡ other.pattern = p.pattern_is ∙ ap encode_utf8_all value ∙ sym q.pattern_is in
    λ i. record { kind = parts.same_kind i; name = name i; pattern = pattern i }

-- ---- from the parts
pub no_filter-split : (bytes text : List ℕ) → text ≡ chars bytes → ((kind : MatcherKind) (name written : List ℕ) → IsSplit text kind name written → ⊥) → (m : Matcher) → IsFilter bytes m → ⊥
no_filter-split bytes text is none m f =
    none m.kind f.name f.written (subst (λ (l : List ℕ). IsSplit l m.kind f.name f.written) (sym is) f.split)

pub no_filter-value : (bytes text : List ℕ) (kind : MatcherKind) (name written : List ℕ) → text ≡ chars bytes → IsSplit text kind name written → ((value : List ℕ) → IsValue written value → ⊥) → (m : Matcher) → IsFilter bytes m → ⊥
no_filter-value bytes text kind name written is split none m f =
    let moved : IsSplit text m.kind f.name f.written = subst (λ (l : List ℕ). IsSplit l m.kind f.name f.written) (sym is) f.split in
    let parts = same_split text kind m.kind name f.name written f.written split moved in
    none f.value (subst (λ (l : List ℕ). IsValue l f.value) (sym parts.same_written) f.is_value)

pub no_value : (written : List ℕ) (all : List Piece) → all ≡ pieces written → ((inside : List Piece) → IsInside all inside → ⊥) → (value : List ℕ) → IsValue written value → ⊥
no_value written all is_all none value v = none v.inside (subst (λ (l : List Piece). IsInside l v.inside) (sym is_all) v.is_inside)

pub value_of_pieces : (written : List ℕ) (all inside : List Piece) → all ≡ pieces written → IsInside all inside → IsValue written (map (λ piece. piece.character) inside)
value_of_pieces written all inside is_all is_inside =
    record { inside = inside; is_inside = subst (λ (l : List Piece). IsInside l inside) is_all is_inside; characters = refl }

pub filter_of_parts : (bytes text : List ℕ) (m : Matcher) (name written value : List ℕ) → text ≡ chars bytes → IsSplit text m.kind name written → IsValue written value → m.name ≡ encode_utf8_all name → m.pattern ≡ encode_utf8_all value → IsFilter bytes m
filter_of_parts bytes text m name written value is split is_value name_is pattern_is = record {
  name = name;
  written = written;
  value = value;
  split = subst (λ (l : List ℕ). IsSplit l m.kind name written) is split;
  is_value = is_value;
  name_is = name_is;
  pattern_is = pattern_is;
}
