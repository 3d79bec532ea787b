-- The groups of a difference, one value after the other.
use Rattle.std.proofs.Common.{◌≡◌, ℕ, Bool, true, cond, List, [], ◌∷◌, ◌++◌, Option, Some, None, drop, map, sym, ap, ◌∙◌, subst, append_assoc, append-nil}
use Rattle.std.specs.Prelude.{codes}
use Rattle.std.specs.List.{list_any}
use Rattle.std.proofs.lemmas.Grind.{flat_map-append}
use Rattle.json.specs.Token.{begin_object, end_object, key, string}
use Rattle.json.specs.Written.{Written}
use Rattle.serde_json.specs.Data.{Data}
use Rattle.am_version_order.specs.Versions.{Version}
use Rattle.am_report.specs.Sources.{Holding}
use Rattle.am_report.specs.Differences.{is_same}
use Rattle.am_report.specs.Groups.{greatest_within}
use Rattle.am_report.specs.Ranked.{ranked}
use Rattle.am_report.specs.ReportLine.{IsKeyOf}
use Rattle.am_report.proofs.GroupLines.{greatest_is_first}
use Rattle.am_silence_json.specs.Tokens.{Adds, data_tokens, row_tokens}
use Rattle.am_silence_json.proofs.Bodies.{chain}
use Rattle.am_report.specs.Json.Groups.{behind_data, greatest_data, groups_data, missing_data, missing_group, sources_data, version_groups}

module _ {K X : Type 0} (seen : X → Version K) (holdings : List (Holding X)) (greatest : X) where
  module _ (name : List ℕ) (value : X → Data) (by : X → X → List ℕ) where
    abbrev others : List Data
    others = map (behind_data seen name value by holdings greatest) (drop 1 (ranked seen holdings))

    groups_are : greatest_within seen None holdings ≡ Some greatest
        → data_tokens (greatest_data seen name value holdings greatest) ++ (row_tokens others ++ row_tokens (missing_group seen holdings))
        ≡ row_tokens (groups_data seen name value by holdings)
    groups_are is =
        let first = data_tokens (greatest_data seen name value holdings greatest) in
        let last = row_tokens (missing_group seen holdings) in
        sym (append_assoc first (row_tokens others) last)
        ∙ ap (λ versions. row_tokens (version_groups seen name value by holdings versions) ++ last) (sym (greatest_is_first seen holdings greatest is))
        ∙ sym (flat_map-append data_tokens (version_groups seen name value by holdings (ranked seen holdings)) (missing_group seen holdings))

    pub groups_added : {a b d e : Written} → greatest_within seen None holdings ≡ Some greatest
        → Adds a b (data_tokens (greatest_data seen name value holdings greatest)) → Adds b d (row_tokens others) → Adds d e (row_tokens (missing_group seen holdings))
        → Adds a e (row_tokens (groups_data seen name value by holdings))
    groups_added {a} {b} {d} {e} is one behind missing = subst (λ ts. Adds a e ts) (groups_are is) (chain one (chain behind missing))

  -- the key of a difference is that of the greatest version
  pub key_is : (k : K) → Some greatest ≡ greatest_within seen None holdings → IsKeyOf seen holdings k → (seen greatest).key ≡ k
  key_is k is own =
      let same : own.greatest ≡ greatest = (let both : Some own.greatest ≡ Some greatest = sym own.held ∙ sym is in cc) in
      ap (λ v. (seen v).key) (sym same) ∙ own.own

-- those that hold nothing, where there are some
module _ {K X : Type 0} (seen : X → Version K) (holdings : List (Holding X)) where
  missing_is : (some : Bool) → some ≡ list_any (λ holding. is_same seen holding.here None) holdings → some ≡ true
      → data_tokens (missing_data seen holdings) ≡ row_tokens (missing_group seen holdings)
  missing_is some is held =
      sym (append-nil (data_tokens (missing_data seen holdings)))
      ∙ ap (λ t. row_tokens (cond t (missing_data seen holdings ∷ []) [])) (sym held ∙ is)

  pub missing_added : (here : Option X) (some : Bool) {a b d e f : Written} → here ≡ None → some ≡ list_any (λ holding. is_same seen holding.here here) holdings
      → some ≡ true → Adds a b (begin_object ∷ []) → Adds b d (key (codes "sources") ∷ data_tokens (sources_data seen here holdings))
      → Adds d e (key (codes "relation") ∷ string (codes "missing") ∷ []) → Adds e f (end_object ∷ []) → Adds a f (row_tokens (missing_group seen holdings))
  missing_added here some {a} {b} {d} {e} {f} none is held opening sources relation closing =
      let found = rw none at is in
      let those = subst (λ h. Adds b d (key (codes "sources") ∷ data_tokens (sources_data seen h holdings))) none sources in
      subst (λ ts. Adds a f ts) (missing_is some found held) (chain opening (chain those (chain relation closing)))
