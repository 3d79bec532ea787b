-- Names of sources that hold the same, one more.
use Rattle.std.proofs.Common.{◌≡◌, ℕ, ◌+◌, ◌<◌, Bool, true, false, cond, List, [], ◌∷◌, ◌++◌, Option, length, get_or, take, map, sym, ap, ◌∙◌, subst, append-nil}
use Rattle.std.proofs.lemmas.Grind.{flat_map-append}
use Rattle.std.proofs.lemmas.List.{map-append}
use Rattle.json.specs.Written.{Written}
use Rattle.serde_json.specs.Data.{string}
use Rattle.am_version_order.specs.Versions.{Version}
use Rattle.am_report.specs.Sources.{MergeCursor, holding_of}
use Rattle.am_report.specs.Differences.{is_same}
use Rattle.am_report.specs.ReportLine.{holders}
use Rattle.am_report.proofs.Naming.{holders_more}
use Rattle.am_silence_json.specs.Tokens.{Adds, data_tokens, row_tokens}
use Rattle.am_silence_json.proofs.Bodies.{chain}

name_more : (b : Bool) (names : List (List ℕ)) (name : List ℕ) → map string names ++ cond b (string name ∷ []) [] ≡ map string (names ++ cond b (name ∷ []) [])
name_more true names name = sym (map-append string names (name ∷ []))
name_more false names name = append-nil (map string names) ∙ ap (map string) (sym (append-nil names))

row_more : (b : Bool) (names : List (List ℕ)) (name : List ℕ)
    → row_tokens (map string names) ++ row_tokens (cond b (string name ∷ []) []) ≡ row_tokens (map string (names ++ cond b (name ∷ []) []))
row_more b names name =
    sym (flat_map-append data_tokens (map string names) (cond b (string name ∷ []) [])) ∙ ap row_tokens (name_more b names name)

module _ {K X : Type 0} (seen : X → Version K) (here : Option X) where
  abbrev names_of : List (MergeCursor X) → List (List ℕ)
  names_of sides = holders seen here (map holding_of sides)

  names_more : (sides : List (MergeCursor X)) (i : ℕ) (cursor : MergeCursor X) → i < length sides → cursor ≡ get_or sides i cursor
      → names_of (take (i + 1) sides) ≡ names_of (take i sides) ++ cond (is_same seen cursor.here here) (cursor.name ∷ []) []
  names_more sides i cursor less is =
      holders_more seen here sides i cursor less
      ∙ ap (λ (s : MergeCursor X). names_of (take i sides) ++ cond (is_same seen s.here here) (s.name ∷ []) []) (sym is)

  pub holder_more : (sides : List (MergeCursor X)) (i : ℕ) (cursor : MergeCursor X) {a b d : Written} → i < length sides → cursor ≡ get_or sides i cursor
      → Adds a b (row_tokens (map string (names_of (take i sides)))) → Adds b d (row_tokens (cond (is_same seen cursor.here here) (string cursor.name ∷ []) []))
      → Adds a d (row_tokens (map string (names_of (take (i + 1) sides))))
  holder_more sides i cursor {a} {b} {d} less is before added =
      subst (λ ts. Adds a d ts)
      (row_more (is_same seen cursor.here here) (names_of (take i sides)) cursor.name ∙ ap (λ names. row_tokens (map string names)) (sym (names_more sides i cursor less is)))
      (chain before added)
