-- All differences, one value after the other, and their line.
use Rattle.std.proofs.Common.{◌≡◌, ℕ, Bool, List, [], ◌∷◌, ◌++◌, map, sym, ap, ◌∙◌}
use Rattle.std.specs.declared.cmp.Ordering.{Ordering}
use Rattle.json.specs.Print.{print}
use Rattle.json.specs.Token.{begin_array, end_array}
use Rattle.json.specs.Written.{Written}
use Rattle.serde_json.specs.Data.{Data, array}
use Rattle.serde_json.specs.View.{items_of}
use Rattle.am_version_order.specs.Versions.{Version}
use Rattle.am_report.specs.Sources.{MergeCursor, Source, rest_of}
use Rattle.am_report.specs.declared.compared.Compared.{Compared}
use Rattle.am_merge.proofs.Keys.{IsKeyOrder}
use Rattle.am_report.specs.ReportLine.{is_any}
use Rattle.am_report.proofs.Differing.{AreAllTold, one_list}
use Rattle.am_silence_json.specs.Tokens.{Adds, data_tokens}
use Rattle.am_silence_json.proofs.Bodies.{list_is}
use Rattle.am_report.specs.Json.Groups.{difference_data, differences_line}
use Rattle.am_report.specs.Json.Written.{AreAdded, IsLine}
use Rattle.am_report.proofs.Adding.{line_is, row_of}

module _ {K X : Type 0} (seen : X → Version K) (cmp : K → K → Ordering) (key_data : K → Data) (name : List ℕ) (value : X → Data) (by : X → X → List ℕ) (compared : Compared) (now : ℕ) where
  pub all_added : (all : List (MergeCursor X)) (a b : Written) (found : Bool) → b.before ≡ a.before
      → AreAllTold seen cmp compared now (λ d. data_tokens (difference_data seen name value by key_data d)) all a.tokens b.tokens found
      → AreAdded seen cmp key_data name value by compared now (map rest_of all) found a b
  all_added all a b found before told = record {
    differences = told.differences;
    all = told.are;
    any = told.any;
    added = row_of (difference_data seen name value by key_data) told.differences before told.text_is;
  }

  -- between brackets in a new writer
  pub line_of_all : (sources : List (Source X)) (found : Bool) (first a b last : Written) (line start : List ℕ) → first.before ≡ start → start ≡ [] → first.tokens ≡ []
      → Adds first a (begin_array ∷ []) → AreAdded seen cmp key_data name value by compared now sources found a b → Adds b last (end_array ∷ [])
      → line ≡ last.before ++ print last.tokens ++ 10 ∷ [] → IsLine seen cmp key_data name value by compared now sources found line
  line_of_all sources found first a b last line start before none tokens opening row closing e =
      let values = map (difference_data seen name value by key_data) row.differences in
      record {
        differences = row.differences;
        all = row.all;
        any = row.any;
        text = line_is first last line start (array (items_of values)) before none tokens (list_is first a b last values opening row.added closing) e;
      }

  pub one_line : IsKeyOrder cmp → (sources : List (Source X)) (found other_found : Bool) (line other : List ℕ)
      → IsLine seen cmp key_data name value by compared now sources found line → IsLine seen cmp key_data name value by compared now sources other_found other
      → (found ≡ other_found) × (line ≡ other)
  one_line keys sources found other_found line other are also =
      let same = one_list seen cmp keys compared now sources are.differences also.differences are.all also.all in (
        are.any ∙ ap is_any same ∙ sym also.any,
        are.text ∙ ap (λ ds. differences_line seen name value by key_data ds) same ∙ sym also.text,
      )
