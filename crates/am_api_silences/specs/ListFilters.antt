-- Lists whose filters are held against their silences a stretch at a time.
use Rattle.std.specs.Prelude.{◌≡◌, ◌+◌, ◌<◌, ◌≤◌, ◌⊎◌, ℕ, List, [], filter}
use Rattle.std.specs.List.{list_all}
use Rattle.std.specs.Global.{Vec}
use Rattle.am_silence.specs.Mesh.{Mesh}
use Rattle.am_silence.specs.declared.matcher.Matcher.{Matcher}
use Rattle.am_silence.specs.declared.state.State.{State}
use Rattle.am_matcher.specs.Matching.{passes}
use Rattle.am_instance.specs.declared.event.Event.{Event}
use Rattle.am_instance.specs.declared.event.Event.TheVariants as events
use Rattle.am_instance.specs.declared.event.Request.TheVariants as requests

-- the silences, each in its state, that pass all filters
abbrev pub passing : List Matcher → List (Mesh × State) → List (Mesh × State)
passing filters rows = filter (λ row. list_all (λ f. passes f row.0.silence) filters) rows

-- the silences that pass, each in its state, and the number of silences that are still to be judged
pub record Sifted : Type 0 where
  pub rows : List (Mesh × State)
  pub left : ℕ

-- More silences are judged, at most so many, and the same ones pass.
pub record IsShorter (most : ℕ) (old new : Sifted) : Type 0 where
  pub same : new.rows ≡ old.rows
  pub fewer : new.left < old.left
  pub few : 0 < most → old.left ≤ new.left + most

-- The filters are those of the event: it asks for a list by them, and the other event for all silences; or there are none, and
-- the events are the same.
abbrev pub IsParted : Event → Event → List Matcher → Type 0
IsParted event bare filters =
    ((bare ≡ event) × (filters ≡ []))
    ⊎ ((given : Vec Matcher) × (none : Vec Matcher) × (event ≡ events.Request (requests.List given))
    × (bare ≡ events.Request (requests.List none)) × (none.items ≡ []) × (filters ≡ given.items))
