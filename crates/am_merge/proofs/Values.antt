-- A property of all versions that a map was made of is one of the map's versions.
use Rattle.std.proofs.Common.{◌≡◌, ℕ, List, [], ◌∷◌, take, ⊎_elim, sym, subst}
use Rattle.std.specs.Prelude.{All, Contains, Result, Ok, Err, OnOk, OnErr, IfErr}
use Rattle.std.proofs.lemmas.List.Elements.{All-nil, All-cons, All-contains, All-contains_itself, All-take, All-weaker}
use Rattle.std.specs.declared.cmp.Ordering.{Ordering}
use Rattle.am_version_order.specs.Versions.{Version}
use Rattle.am_merge.specs.Maps.{IsMap, IsJoin}
use Rattle.am_merge.specs.Takings.{IsPut}
use Rattle.am_merge.specs.Stores.{versions}
use Rattle.am_merge.specs.declared.held.MergeError.{MergeError}
use Rattle.am_merge.specs.declared.store.Store.{Store}
use Rattle.am_merge.proofs.Keys.{IsKeyOrder}
use Rattle.am_merge.proofs.Joins.{Contains-join}

pub all_of_join : {K X : Type 0} (seen : X → Version K) (cmp : K → K → Ordering) → IsKeyOrder cmp → (P : X → Type 0) (a b joined : List X) → IsMap seen cmp joined → IsJoin seen cmp a b joined → All P a → All P b → All P joined
all_of_join seen cmp keys P a b joined map join all_a all_b =
    All-weaker (Contains joined) P
    (λ v member. ⊎_elim (λ here. All-contains P a v all_a here) (λ there. All-contains P b v all_b there) (Contains-join seen cmp keys a b joined v map join member))
    joined (All-contains_itself joined)

pub all_of_put : {K X : Type 0} (seen : X → Version K) (cmp : K → K → Ordering) → IsKeyOrder cmp → (P : X → Type 0) (map : List X) (v : X) (new : List X) → IsPut seen cmp map v new → All P map → P v → All P new
all_of_put seen cmp keys P map v new put all own = all_of_join seen cmp keys P map (v ∷ []) new put.order put.joined all (All-cons P v [] own (All-nil P))

-- of a merge that may have stopped
pub all_of_merge : {K X : Type 0} (seen : X → Version K) (cmp : K → K → Ordering) → IsKeyOrder cmp → (P : X → Type 0) (map other new : List X) (result : Result ℕ MergeError) → IsMap seen cmp new → OnOk result (IsJoin seen cmp map other new) → IfErr result (λ e. IsJoin seen cmp map (take e.taken other) new) → All P map → All P other → All P new
all_of_merge seen cmp keys P map other new (Ok n) order joined stopped all more = all_of_join seen cmp keys P map other new order joined all more
all_of_merge seen cmp keys P map other new (Err e) order joined stopped all more = all_of_join seen cmp keys P map (take e.taken other) new order stopped all (All-take P e.taken other more)

-- of a version that was taken, unless memory ran out
pub all_of_taking : {K X A E : Type 0} (seen : X → Version K) (cmp : K → K → Ordering) → IsKeyOrder cmp → (P : X → Type 0) (map : List X) (v : X) (new : List X) (result : Result A E) → OnOk result (IsPut seen cmp map v new) → OnErr result (new ≡ map) → All P map → P v → All P new
all_of_taking seen cmp keys P map v new (Ok a) put same all own = all_of_put seen cmp keys P map v new put all own
all_of_taking seen cmp keys P map v new (Err e) put same all own = subst (All P) (sym same) all

-- an empty store in the place of another
pub emptied : {X : Type 0} (Is : Store X → Type 0) (P : X → Type 0) (empty store : Store X) → store ≡ empty → Is empty → versions empty ≡ [] → Is store × All P (versions store)
emptied Is P empty store same is none = subst (λ s. Is s × All P (versions s)) (sym same) (is, subst (All P) (sym none) (All-nil P))
