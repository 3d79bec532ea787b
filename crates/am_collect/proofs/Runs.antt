-- Events and steps one after the other, and what maps show behind them.
use Rattle.std.proofs.Common.{◌≡◌, ℕ, ◌<◌, ◌≤◌, ◌+◌, List, [], ◌∷◌, ◌++◌, Option, refl, sym, ap, ◌∙◌, subst, arith, take, get_or, length}
use Rattle.std.specs.Prelude.{All}
use Rattle.std.proofs.lemmas.List.{take_more, map-append}
use Rattle.std.specs.declared.cmp.Ordering.{Ordering}
use Rattle.am_version_order.specs.Versions.{Version}
use Rattle.am_merge.specs.Maps.{if_live, at}
use Rattle.am_merge.specs.Views.{IsViewAt}
use Rattle.am_merge.proofs.Keys.{IsKeyOrder}
use Rattle.am_collect.specs.declared.keeper.Step.{Step}
use Rattle.am_collect.specs.Kept.{Kept}
use Rattle.am_collect.specs.Events.{Events, HaveSame, MoveForward, taken, last_moment, after, after_all}
use Rattle.am_collect.specs.Keepers.{IsLeftBy, IsCalmlyLeft, ShowsBareSet, view_at, event_of, events_of}
use Rattle.am_collect.proofs.Greatest.{same_view}
use Rattle.am_collect.proofs.Histories.{last_moment-append, calm_shows}

MoveForward-append : {X : Type 0} (from : ℕ) (past events : Events X) → MoveForward from past → MoveForward (last_moment from past) events → MoveForward from (past ++ events)
MoveForward-append from [] events before after = after
MoveForward-append from (e ∷ past) events before after = (before.0, MoveForward-append e.1 past events before.1 after)

module _ {K X : Type 0} (seen : X → Version K) (cmp : K → K → Ordering) where
  after_all-append : (map : K → Option X) (past events : Events X) → after_all seen cmp map (past ++ events) ≡ after_all seen cmp (after_all seen cmp map past) events
  after_all-append map [] events = refl
  after_all-append map (e ∷ past) events = after_all-append (after seen cmp map e.0 e.1) past events

  -- events after events
  pub IsLeftBy-append : (old mid new : Kept X) (past events : Events X) → IsLeftBy seen cmp old past mid → IsLeftBy seen cmp mid events new → IsLeftBy seen cmp old (past ++ events) new
  IsLeftBy-append old mid new past events before after =
      let same : at seen cmp mid.held ≡ after_all seen cmp (at seen cmp old.held) past = (λ i key. before.map key i) in
      record {
        forward = MoveForward-append old.last past events before.forward (subst (λ moment. MoveForward moment events) before.last after.forward);
        map = λ key. after.map key ∙ ap (λ map. after_all seen cmp map events key) same ∙ sym (ap (λ map. map key) (after_all-append (at seen cmp old.held) past events));
        last = after.last ∙ ap (λ moment. last_moment moment events) before.last ∙ sym (last_moment-append old.last past events);
      }

  -- one step more
  pub IsLeftBy-more : (old mid new : Kept X) (steps : List (Step X × ℕ)) (place : ℕ) (s : Step X × ℕ) → place < length steps → s ≡ get_or steps place s → IsLeftBy seen cmp old (events_of (take place steps)) mid → IsLeftBy seen cmp mid ((event_of s.0, s.1) ∷ []) new → IsLeftBy seen cmp old (events_of (take (place + 1) steps)) new
  IsLeftBy-more old mid new steps place s within is before after =
      let more : events_of (take (place + 1) steps) ≡ events_of (take place steps) ++ (event_of s.0, s.1) ∷ [] =
      ap events_of (take_more steps place s within)
      ∙ ap (λ t. events_of (take place steps ++ t ∷ [])) (sym is)
      ∙ map-append (λ t. (event_of t.0, t.1)) (take place steps) (s ∷ []) in
      subst (λ events. IsLeftBy seen cmp old events new) (sym more)
      (IsLeftBy-append old mid new (events_of (take place steps)) ((event_of s.0, s.1) ∷ []) before after)

  -- what events left shows the bare set, where all of them were calm
  pub shows : IsKeyOrder cmp → (old new : Kept X) (events : Events X) → IsLeftBy seen cmp old events new → ShowsBareSet seen cmp old events new
  shows keys old new events left start past is_map before calm now key forward =
      let whole = IsLeftBy-append start old new past events before left in
      let last = whole.last in
      subst (λ found. IsViewAt seen (taken start.held (past ++ events)) now key (if_live seen now found)) (sym (whole.map key))
      (calm_shows seen cmp keys key start.held start.last (past ++ events) now is_map calm (omega arith))

  shown_by : IsKeyOrder cmp → (start new : Kept X) (events : Events X) (now : ℕ) (key : K) → IsCalmlyLeft seen cmp start events new → new.last ≤ now → IsViewAt seen (taken start.held events) now key (view_at seen cmp new now key)
  shown_by keys start new events now key calmly forward =
      let last = calmly.left.last in
      subst (λ found. IsViewAt seen (taken start.held events) now key (if_live seen now found)) (sym (calmly.left.map key))
      (calm_shows seen cmp keys key start.held start.last events now calmly.map calmly.calm (omega arith))

  -- maps that calmly took the same show the same
  pub agree : IsKeyOrder cmp → (is_value : X → Type 0) → ((v w : X) → is_value v → is_value w → seen v ≡ seen w → v ≡ w) →
      (start begin : Kept X) (events others : Events X) (one other : Kept X) (now : ℕ) (key : K) →
      IsCalmlyLeft seen cmp start events one → IsCalmlyLeft seen cmp begin others other →
      HaveSame (taken start.held events) (taken begin.held others) → All is_value (taken start.held events) →
      one.last ≤ now → other.last ≤ now → view_at seen cmp one now key ≡ view_at seen cmp other now key
  agree keys is_value exact start begin events others one other now key first second same values after_first after_second =
      same_view seen is_value exact (taken start.held events) (taken begin.held others) now key (view_at seen cmp one now key) (view_at seen cmp other now key) same values
      (shown_by keys start one events now key first after_first)
      (shown_by keys begin other others now key second after_second)
