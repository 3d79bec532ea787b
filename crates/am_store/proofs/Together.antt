-- The map of a file and two logs.
use Rattle.std.proofs.Common.{ℕ, List, ◌++◌, Option, Some, None, IfSome, Result}
use Rattle.std.specs.Prelude.{IsPermutation}
use Rattle.std.proofs.lemmas.List.Sorted.{Contains-permutation, IsPermutation-sym}
use Rattle.std.specs.declared.cmp.Ordering.{Ordering}
use Rattle.am_version_order.specs.Versions.{Version}
use Rattle.am_wire.specs.declared.error.WireError.{WireError}
use Rattle.am_merge.specs.Maps.{IsMap}
use Rattle.am_merge.proofs.Keys.{IsKeyOrder}
use Rattle.am_merge.specs.Views.{HoldsBest}
use Rattle.am_snapshot.specs.Loads.{IsLoaded}
use Rattle.am_store.specs.Logs.{JoinsLog}
use Rattle.am_store.specs.Recovering.{HoldsRow, IsRecovered}
use Rattle.am_store.proofs.Joining.{best_of_best, holds_itself}

module _ {K X : Type 0} (seen : X → Version K) where
  pub holds_loaded : (cmp : K → K → Ordering) → IsKeyOrder cmp → (versions map : List X) → IsMap seen cmp map → IsPermutation versions map → HoldsBest seen versions map
  holds_loaded cmp keys versions map is_map moved =
      let own = holds_itself seen cmp keys map is_map in
      record {
        best = λ v member.
            let best = own.best v member in
            record {
              member = Contains-permutation map versions v (IsPermutation-sym versions map moved) best.member;
              unbeaten = λ w among same. best.unbeaten w (Contains-permutation versions map w moved among) same;
            };
        keys = λ v member. own.keys v (Contains-permutation versions map v moved member);
      }

  pub loads : (cmp : K → K → Ordering) → IsKeyOrder cmp → (reads : ℕ → List ℕ → Result X WireError) (row : Option (List ℕ)) (map : List X) → IsMap seen cmp map → IfSome row (λ r. IsLoaded seen reads r map)
      → IfSome row (λ r. HoldsRow seen reads r map)
  loads cmp keys reads None map is_map loaded = tt
  loads cmp keys reads (Some r) map is_map (versions, all, distinct, moved) =
      record { versions = versions; all = all; best = holds_loaded cmp keys versions map is_map moved }

  pub recovers : (reads : ℕ → List ℕ → Result X WireError) (row first second : Option (List ℕ)) (loaded map new : List X) → IfSome row (λ r. HoldsRow seen reads r loaded)
      → IfSome first (λ f. JoinsLog seen reads loaded f map) → IfSome second (λ s. JoinsLog seen reads map s new)
      → IfSome row (λ r. IfSome first (λ f. IfSome second (λ s. IsRecovered seen reads r f s new)))
  recovers reads None first second loaded map new held one other = tt
  recovers reads (Some r) None second loaded map new held one other = tt
  recovers reads (Some r) (Some f) None loaded map new held one other = tt
  recovers reads (Some r) (Some f) (Some s) loaded map new held one other =
      record {
        in_row = held.versions;
        in_first = one.versions;
        in_second = other.versions;
        all_of_row = held.all;
        all_of_first = one.all;
        all_of_second = other.all;
        best = best_of_best seen (held.versions ++ one.versions) map other.versions new (best_of_best seen held.versions loaded one.versions map held.best one.best) other.best;
      }
