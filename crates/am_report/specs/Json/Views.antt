-- The view of a map at a moment, as one line of JSON. X is the type of versions, `seen` is what the merge sees of one, and
-- `value` is the value of one at a moment.
use Rattle.std.specs.Prelude.{ℕ, List, ◌++◌, map, codes}
use Rattle.serde_json.specs.Data.{Data, array}
use Rattle.serde_json.specs.View.{items_of}
use Rattle.serde_json.specs.Written.{compact_text}
use Rattle.am_version_order.specs.Versions.{Version}
use Rattle.am_merge.specs.Maps.{swept}

-- a list of values with no blank space, ended by a line feed
abbrev pub list_line : List Data → List ℕ
list_line values = compact_text (array (items_of values)) ++ codes "\n"

module _ {K X : Type 0} (seen : X → Version K) (value : ℕ → X → Data) where
  -- the held versions that are live at the moment
  abbrev pub view_line : ℕ → List X → List ℕ
  view_line now held = list_line (map (value now) (swept seen now held))
