-- The lines of a difference, from the greatest version down.
use Rattle.std.proofs.Common.{◌≡◌, ℕ, true, List, [], ◌∷◌, ◌++◌, Some, None, drop, refl, sym, ap, ◌∙◌, subst, append_assoc, append-nil, ◌⊎◌, inl, inr}
use Rattle.std.specs.Prelude.{All}
use Rattle.std.specs.List.{flat_map}
use Rattle.std.proofs.lemmas.List.Elements.{All-from_recursion}
use Rattle.am_version_order.specs.Versions.{Version, is_below}
use Rattle.am_version_order.proofs.Ranks.{below_trans}
use Rattle.am_merge.proofs.Keys.{all_weaker}
use Rattle.am_report.specs.Sources.{Holding}
use Rattle.am_report.specs.Groups.{IsLessBy, greatest_within, part_between}
use Rattle.am_report.proofs.Parts.{less_by_part}
use Rattle.am_report.proofs.Ranking.{chain_below}
use Rattle.am_report.specs.Ranked.{ranked}
use Rattle.am_report.specs.ReportLine.{IsKeyOf, greatest_line, behind_line, missing_line, version_lines, difference_lines}
use Rattle.am_report.proofs.Placing.{IsDown, ranked_down, greatest_first, from_head, no_head, next_is}

module _ {K X : Type 0} (seen : X → Version K) where
  -- where the walk over the versions is: at the last one whose line is written
  pub record IsAt (holdings : List (Holding X)) (greatest last : X) : Type 0 where
    pub done : List X
    pub rest : List X
    pub all : ranked seen holdings ≡ done ++ last ∷ rest
    pub under : (last ≡ greatest) ⊎ (is_below (seen last) (seen greatest) ≡ true)

  pub greatest_is_first : (holdings : List (Holding X)) (greatest : X) → greatest_within seen None holdings ≡ Some greatest
      → ranked seen holdings ≡ greatest ∷ drop 1 (ranked seen holdings)
  greatest_is_first holdings greatest is = from_head seen (ranked seen holdings) greatest (sym (greatest_first seen holdings) ∙ is)

  pub at_greatest : (holdings : List (Holding X)) (greatest : X) → greatest_within seen None holdings ≡ Some greatest → IsAt holdings greatest greatest
  at_greatest holdings greatest is = record {
    done = [];
    rest = drop 1 (ranked seen holdings);
    all = greatest_is_first holdings greatest is;
    under = inl refl;
  }

  -- the next one is less than the greatest
  pub next_under : (holdings : List (Holding X)) (greatest last v : X) → IsAt holdings greatest last → Some v ≡ greatest_within seen (Some last) holdings
      → is_below (seen v) (seen greatest) ≡ true
  next_under holdings greatest last v at is =
      let below = chain_below seen holdings last v (sym is) in
      elim at.under [
        | inl same ↦ subst (λ x. is_below (seen v) (seen x) ≡ true) same below
        | inr under ↦ below_trans (seen v) (seen last) (seen greatest) below under
      ]

  next_rest : (holdings : List (Holding X)) (greatest last v : X) (at : IsAt holdings greatest last) → Some v ≡ greatest_within seen (Some last) holdings
      → at.rest ≡ v ∷ drop 1 at.rest
  next_rest holdings greatest last v at is = from_head seen at.rest v (sym (next_is seen holdings at.done at.rest last at.all) ∙ sym is)

  pub at_next : (holdings : List (Holding X)) (greatest last v : X) → IsAt holdings greatest last → Some v ≡ greatest_within seen (Some last) holdings
      → IsAt holdings greatest v
  at_next holdings greatest last v at is = record {
    done = at.done ++ last ∷ [];
    rest = drop 1 at.rest;
    all =
        at.all
        ∙ ap (λ rest. at.done ++ last ∷ rest) (next_rest holdings greatest last v at is)
        ∙ sym (append_assoc at.done (last ∷ []) (v ∷ drop 1 at.rest));
    under = inr (next_under holdings greatest last v at is);
  }

  -- of the texts of the versions behind the greatest, those behind the last are still to be written; texts of bytes or of what else
  pub record IsWritten {C : Type 0} (line : X → List C) (holdings : List (Holding X)) (greatest last : X) (start text : List C) : Type 0 where
    pub at : IsAt holdings greatest last
    pub text_is : text ++ flat_map line at.rest ≡ start ++ flat_map line (drop 1 (ranked seen holdings))

  module _ {C : Type 0} (line : X → List C) (holdings : List (Holding X)) (greatest : X) (start : List C) where
    pub written_none : greatest_within seen None holdings ≡ Some greatest → IsWritten line holdings greatest greatest start start
    unfolding at_greatest
    written_none is = record { at = at_greatest holdings greatest is; text_is = refl }

    pub written_more : (last v : X) (text new : List C) → IsWritten line holdings greatest last start text → Some v ≡ greatest_within seen (Some last) holdings
        → new ≡ text ++ line v → IsWritten line holdings greatest v start new
    unfolding at_next
    written_more last v text new before is written = record {
      at = at_next holdings greatest last v before.at is;
      text_is =
          ap (λ t. t ++ flat_map line (drop 1 before.at.rest)) written
          ∙ append_assoc text (line v) (flat_map line (drop 1 before.at.rest))
          ∙ ap (λ rest. text ++ flat_map line rest) (sym (next_rest holdings greatest last v before.at is))
          ∙ before.text_is;
    }

    pub written_all : (last : X) (text : List C) → IsWritten line holdings greatest last start text → None ≡ greatest_within seen (Some last) holdings
        → text ≡ start ++ flat_map line (drop 1 (ranked seen holdings))
    written_all last text before is =
        let none = no_head seen before.at.rest (sym (next_is seen holdings before.at.done before.at.rest last before.at.all) ∙ sym is) in
        sym (append-nil text) ∙ ap (λ rest. text ++ flat_map line rest) (sym none) ∙ before.text_is

  -- ---- the whole difference

  module _ (begins : K → List ℕ) (told : X → List ℕ) (more by : X → X → List ℕ) (holdings : List (Holding X)) (greatest : X) where
    lines_by : (key : K) (versions : List X) → versions ≡ greatest ∷ drop 1 versions
        → version_lines seen begins told more by key holdings versions
        ≡ greatest_line seen begins told more key holdings greatest ++ flat_map (behind_line seen begins told more by key holdings greatest) (drop 1 versions)
    lines_by key versions is = ap (version_lines seen begins told more by key holdings) is

    pub difference_is : (start first second third : List ℕ) → Some greatest ≡ greatest_within seen None holdings
        → first ≡ start ++ greatest_line seen begins told more (seen greatest).key holdings greatest
        → second ≡ first ++ flat_map (behind_line seen begins told more by (seen greatest).key holdings greatest) (drop 1 (ranked seen holdings))
        → third ≡ second ++ missing_line seen begins (seen greatest).key holdings
        → (key : K) → IsKeyOf seen holdings key → third ≡ start ++ difference_lines seen begins told more by (record { key = key; holdings = holdings })
    unfolding difference_lines
    difference_is start first second third is one others missing key own =
        let same : own.greatest ≡ greatest = (let both : Some own.greatest ≡ Some greatest = sym own.held ∙ sym is in cc) in
        let key_is : (seen greatest).key ≡ key = ap (λ v. (seen v).key) (sym same) ∙ own.own in
        let head = greatest_line seen begins told more (seen greatest).key holdings greatest in
        let tail = flat_map (behind_line seen begins told more by (seen greatest).key holdings greatest) (drop 1 (ranked seen holdings)) in
        let last = missing_line seen begins (seen greatest).key holdings in
        missing
        ∙ ap (λ text. text ++ last) (others ∙ ap (λ text. text ++ tail) one ∙ append_assoc start head tail)
        ∙ append_assoc start (head ++ tail) last
        ∙ ap (λ text. start ++ (text ++ last)) (sym (lines_by (seen greatest).key (ranked seen holdings) (greatest_is_first holdings greatest (sym is))))
        ∙ ap (λ k. start ++ (version_lines seen begins told more by k holdings (ranked seen holdings) ++ missing_line seen begins k holdings)) key_is

  pub nothing_held : (holdings : List (Holding X)) (key : K) → None ≡ greatest_within seen None holdings → IsKeyOf seen holdings key → ⊥
  nothing_held holdings key none own = let never : None ≡ Some own.greatest = none ∙ own.held in cc

  -- ---- laws

  pub others_less : (holdings : List (Holding X)) (greatest : X) (others : List X) → ranked seen holdings ≡ greatest ∷ others
      → All (λ v. IsLessBy (part_between (seen v) (seen greatest)) (seen v) (seen greatest)) others
  others_less holdings greatest others is =
      let down = subst (λ vs. IsDown seen vs) is (ranked_down seen holdings) in
      All-from_recursion (λ v. IsLessBy (part_between (seen v) (seen greatest)) (seen v) (seen greatest)) others
      (all_weaker (λ v. is_below (seen v) (seen greatest) ≡ true) (λ v. IsLessBy (part_between (seen v) (seen greatest)) (seen v) (seen greatest))
      (λ v less. less_by_part (seen v) (seen greatest) less) others down.0)
