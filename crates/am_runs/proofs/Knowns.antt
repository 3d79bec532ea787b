-- The tests of calm keep exactly the facts about a member that they need.
use Rattle.std.proofs.Common.{◌≢◌, ℕ, ◌<◌, Bool, true, false, cond, max, List, [], ◌∷◌, ◌++◌, Option, Some, None, refl, sym, subst, arith}
use Rattle.std.specs.Prelude.{Contains, All}
use Rattle.std.specs.declared.cmp.Ordering.{Ordering}
use Rattle.std.proofs.lemmas.Bool.{lt-leb, leb-false}
use Rattle.std.proofs.lemmas.List.Elements.{All-push, All-weaker, All-nil, All-contains, Contains-push, Contains-append_left, All-contains_itself}
use Rattle.am_version_order.specs.Versions.{Version}
use Rattle.am_merge.proofs.Keys.{IsKeyOrder}
use Rattle.am_collect.specs.Events.{taken, collections}
use Rattle.am_runs.specs.Steps.{RunStep, is_at}
use Rattle.am_runs.specs.Steps.RunStep.{Took, Ticked, Back, Refused, Saved, Stopped, Started}
use Rattle.am_runs.specs.Members.{Member, stepped, member_after, member_from, member_of}
use Rattle.am_runs.specs.Tests.{MaxTaken, LastCollection, later, lasted, lasts_after, lasts_from, last_in, topped, tops_after, tops_from, top_in, top_among}
use Rattle.am_runs.proofs.Pasts.{taken-passes, taken-tick, taken-pass, collections-passes, collections-tick, collections-pass}
use Rattle.am_runs.proofs.Calmed.{IsTop, IsLast, top_all}

all_front : (P : ℕ → Type 0) (xs : List ℕ) (x : ℕ) → All P (xs ++ x ∷ []) → All P xs
all_front P xs x all = All-weaker (Contains xs) P (λ y c. All-contains P (xs ++ x ∷ []) y all (Contains-append_left xs (x ∷ []) y c)) xs (All-contains_itself xs)

all_last : (P : ℕ → Type 0) (xs : List ℕ) (x : ℕ) → All P (xs ++ x ∷ []) → P x
all_last P xs x all = All-contains P (xs ++ x ∷ []) x all (Contains-push xs x)

-- one collection more
last_push : (last : Option ℕ) (moments : List ℕ) (now : ℕ) → IsLast last moments → IsLast (later last now) (moments ++ now ∷ [])
last_push None moments now ends = λ m. (
  λ not. All-push (λ n. n < m) moments now ((ends m).0 refl) (leb-false m now not),
  λ all. lt-leb m now (all_last (λ n. n < m) moments now all),
)
last_push (Some last) moments now ends = λ m. (
  λ not.
      let both : max last now < m = leb-false m (max last now) not in
      let old : last < m = omega arith in
      let new : now < m = omega arith in
      All-push (λ n. n < m) moments now ((ends m).0 (lt-leb m last old)) new,
  λ all.
      let old : last < m = leb-false m last ((ends m).1 (all_front (λ n. n < m) moments now all)) in
      let new : now < m = all_last (λ n. n < m) moments now all in
      lt-leb m (max last now) (omega arith),
)

module _ {K X : Type 0} (seen : X → Version K) (cmp : K → K → Ordering) (keys : IsKeyOrder cmp) (key : K) where
  pub record IsKnown (m : Member X) (tops : MaxTaken X) (lasts : LastCollection) : Type 0 where
    pub top : IsTop seen (taken [] m.past) key tops.top
    pub saved_top : IsTop seen (taken [] m.saved) key tops.saved
    pub last : IsLast lasts.last (collections m.past)
    pub saved_last : IsLast lasts.saved (collections m.saved)

  known_stepped : (m : Member X) (tops : MaxTaken X) (lasts : LastCollection) (step : RunStep X) → IsKnown m tops lasts → IsKnown (stepped m step) (topped seen cmp key tops step) (lasted lasts step)
  known_stepped m tops lasts (Took place now source versions frames) k = record {
    top = subst (λ set. IsTop seen set key (top_among seen cmp key tops.top versions)) (sym (taken-passes m.past now versions)) (top_all seen cmp keys (taken [] m.past) key tops.top versions k.top);
    saved_top = k.saved_top;
    last = subst (IsLast lasts.last) (sym (collections-passes m.past now versions)) k.last;
    saved_last = k.saved_last;
  }
  known_stepped m tops lasts (Ticked place now) k = record {
    top = subst (λ set. IsTop seen set key tops.top) (sym (taken-tick m.past now)) k.top;
    saved_top = k.saved_top;
    last = subst (IsLast (later lasts.last now)) (sym (collections-tick m.past now)) (last_push lasts.last (collections m.past) now k.last);
    saved_last = k.saved_last;
  }
  known_stepped m tops lasts (Back place now) k = k
  known_stepped m tops lasts (Refused now) k = k
  known_stepped m tops lasts (Saved place) k = record { top = k.top; saved_top = k.top; last = k.last; saved_last = k.last }
  known_stepped m tops lasts (Stopped place) k = record { top = k.top; saved_top = k.saved_top; last = k.last; saved_last = k.saved_last }
  known_stepped m tops lasts (Started place now) k = record {
    top = subst (λ set. IsTop seen set key tops.saved) (sym (taken-pass m.saved now)) k.saved_top;
    saved_top = k.saved_top;
    last = subst (IsLast lasts.saved) (sym (collections-pass m.saved now)) k.saved_last;
    saved_last = k.saved_last;
  }

  known_where : (b : Bool) (m n : Member X) (tops others : MaxTaken X) (lasts ends : LastCollection) → IsKnown m tops lasts → IsKnown n others ends → IsKnown (cond b n m) (cond b others tops) (cond b ends lasts)
  known_where true m n tops others lasts ends k j = j
  known_where false m n tops others lasts ends k j = k

  known_from : (q : ℕ) (m : Member X) (tops : MaxTaken X) (lasts : LastCollection) (steps : List (RunStep X)) → IsKnown m tops lasts → IsKnown (member_from q m steps) (tops_from seen cmp q key tops steps) (lasts_from q lasts steps)
  known_from q m tops lasts [] k = k
  known_from q m tops lasts (step ∷ steps) k =
      known_from q (member_after q m step) (tops_after seen cmp q key tops step) (lasts_after q lasts step) steps
      (known_where (is_at q step) m (stepped m step) tops (topped seen cmp key tops step) lasts (lasted lasts step) k (known_stepped m tops lasts step k))

  none_there : (v : X) → Contains [] v → (seen v).key ≢ key
  none_there v c same = let few = c.1 in omega arith

  none_ends : IsLast None []
  none_ends m = (λ e. All-nil (λ n. n < m), λ all. refl)

  -- what is known of a member of a run
  pub known_of : (members q : ℕ) (steps : List (RunStep X)) → IsTop seen (taken [] (member_of members q steps).past) key (top_in seen cmp q key steps) × IsLast (last_in q steps) (collections (member_of members q steps).past)
  known_of members q steps =
      let k = known_from q _ (record { top = None; saved = None }) (record { last = None; saved = None }) steps (record { top = none_there; saved_top = none_there; last = none_ends; saved_last = none_ends }) in
      (k.top, k.last)
