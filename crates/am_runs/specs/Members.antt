-- The effect of steps on a member. A member's copy is given by its past: the events that led to it from the empty map at the
-- first moment. Its map, its bare set, its collections and its last moment follow from that.
-- X is the type of versions, and `seen` is what the merge sees of one.
use Rattle.std.specs.Prelude.{ℕ, List, [], ◌∷◌, ◌++◌, Bool, true, false, Option, None, if◌then◌else◌, map, nat_lt}
use Rattle.std.specs.declared.cmp.Ordering.{Ordering}
use Rattle.am_version_order.specs.Versions.{Version}
use Rattle.am_collect.specs.Events.{Events, taken, last_moment, after_all}
use Rattle.am_collect.specs.Events.MapEvent.{Delivered, Collected, Passed}
use Rattle.am_runs.specs.Steps.{RunStep, is_at}
use Rattle.am_runs.specs.Steps.RunStep.{Took, Ticked, Back, Refused, Saved, Stopped, Started}

-- the past of a member's copy, the past of its last saved copy (empty if there is none), and whether the member runs
pub record Member (X : Type 0) : Type 0 where
  pub past : Events X
  pub saved : Events X
  pub runs : Bool

module _ {X : Type 0} where
  -- an event at a moment that delivers versions: the moment passes, then the versions come one after another
  abbrev pub passes : ℕ → List X → Events X
  passes now versions = (Passed, now) ∷ map (λ v. (Delivered v, now)) versions

  -- a member after a step of its own; a start brings back the saved copy, whatever came since
  abbrev pub stepped : Member X → RunStep X → Member X
  stepped m (Took place now source versions frames) = record { past = m.past ++ passes now versions; saved = m.saved; runs = m.runs }
  stepped m (Ticked place now) = record { past = m.past ++ (Collected, now) ∷ []; saved = m.saved; runs = m.runs }
  stepped m (Back place now) = m
  stepped m (Refused now) = m
  stepped m (Saved place) = record { past = m.past; saved = m.past; runs = m.runs }
  stepped m (Stopped place) = record { past = m.past; saved = m.saved; runs = false }
  stepped m (Started place now) = record { past = m.saved ++ (Passed, now) ∷ []; saved = m.saved; runs = true }

  -- the member `q` after any step
  abbrev pub member_after : ℕ → Member X → RunStep X → Member X
  member_after q m step = if is_at q step then stepped m step else m

  -- the member `q` after steps
  abbrev pub member_from : ℕ → Member X → List (RunStep X) → Member X
  member_from q m [] = m
  member_from q m (step ∷ steps) = member_from q (member_after q m step) steps

  -- the member `q` of a cluster after steps; at first each member runs, is empty and has nothing saved
  abbrev pub member_of : ℕ → ℕ → List (RunStep X) → Member X
  member_of members q steps = member_from q (record { past = []; saved = []; runs = nat_lt q members }) steps

  -- the bare set of a member
  abbrev pub set_of : Member X → List X
  set_of m = taken [] m.past

  -- the moment of a member's last event or start
  abbrev pub last_of : Member X → ℕ
  last_of m = last_moment 0 m.past

-- the map after a past, as the function from a key to its version
abbrev pub map_of : {K X : Type 0} → (X → Version K) → (K → K → Ordering) → Events X → K → Option X
map_of seen cmp past = after_all seen cmp (λ key. None) past
