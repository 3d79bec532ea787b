-- A member's past as steps go on.
use Rattle.std.proofs.Common.{◌≡◌, ℕ, List, [], ◌∷◌, ◌++◌, Option, None, refl, ap, ◌∙◌, map, append-nil}
use Rattle.std.specs.declared.cmp.Ordering.{Ordering}
use Rattle.std.proofs.lemmas.Grind.{flat_map-append}
use Rattle.am_version_order.specs.Versions.{Version}
use Rattle.am_collect.specs.Events.{MapEvent, Events, taken, delivered, collections, collected, last_moment, after, after_all}
use Rattle.am_collect.specs.Events.MapEvent.{Delivered, Collected, Passed}
use Rattle.am_collect.proofs.Histories.{last_moment-append}
use Rattle.am_runs.specs.Steps.{RunStep, delivered_by, delivered_in, flights_by, flights_of}
use Rattle.am_runs.specs.Members.{Member, passes, member_after, member_from, member_of, map_of}

module _ {X : Type 0} where
  pub member_from-append : (q : ℕ) (m : Member X) (before steps : List (RunStep X)) → member_from q m (before ++ steps) ≡ member_from q (member_from q m before) steps
  member_from-append q m [] steps = refl
  member_from-append q m (s ∷ before) steps = member_from-append q (member_after q m s) before steps

  -- a member after one step more
  pub member_of-push : (members q : ℕ) (before : List (RunStep X)) (s : RunStep X) → member_of members q (before ++ s ∷ []) ≡ member_after q (member_of members q before) s
  member_of-push members q before s = member_from-append q _ before (s ∷ [])

  pub delivered_in-push : (before : List (RunStep X)) (s : RunStep X) → delivered_in (before ++ s ∷ []) ≡ delivered_in before ++ delivered_by s
  delivered_in-push before s = flat_map-append delivered_by before (s ∷ []) ∙ ap (λ vs. delivered_in before ++ vs) (append-nil (delivered_by s))

  pub flights_of-push : (before : List (RunStep X)) (s : RunStep X) → flights_of (before ++ s ∷ []) ≡ flights_of before ++ flights_by s
  flights_of-push before s = flat_map-append flights_by before (s ∷ []) ∙ ap (λ fs. flights_of before ++ fs) (append-nil (flights_by s))

  -- the set of events after others
  pub taken-append : (past events : Events X) → taken [] (past ++ events) ≡ taken [] past ++ taken [] events
  taken-append past events = flat_map-append (λ e. delivered e.0) past events

  taken-deliveries : (now : ℕ) (vs : List X) → taken [] (map (λ v. (Delivered v, now)) vs) ≡ vs
  taken-deliveries now [] = refl
  taken-deliveries now (v ∷ vs) = ap (λ ws. v ∷ ws) (taken-deliveries now vs)

  pub taken-passes : (past : Events X) (now : ℕ) (vs : List X) → taken [] (past ++ passes now vs) ≡ taken [] past ++ vs
  taken-passes past now vs = taken-append past (passes now vs) ∙ ap (λ ws. taken [] past ++ ws) (taken-deliveries now vs)

  last-deliveries : (now : ℕ) (vs : List X) → last_moment now (map (λ v. (Delivered v, now)) vs) ≡ now
  last-deliveries now [] = refl
  last-deliveries now (v ∷ vs) = last-deliveries now vs

  pub last-passes : (past : Events X) (now : ℕ) (vs : List X) → last_moment 0 (past ++ passes now vs) ≡ now
  last-passes past now vs = last_moment-append 0 past (passes now vs) ∙ last-deliveries now vs

  pub last-one : (past : Events X) (e : MapEvent X) (now : ℕ) → last_moment 0 (past ++ (e, now) ∷ []) ≡ now
  last-one past e now = last_moment-append 0 past ((e, now) ∷ [])

  collections-append : (past events : Events X) → collections (past ++ events) ≡ collections past ++ collections events
  collections-append past events = flat_map-append (λ e. collected e.0 e.1) past events

  pub collections-push : (past : Events X) (e : MapEvent X × ℕ) → collections (past ++ e ∷ []) ≡ collections past ++ collected e.0 e.1
  collections-push past e = collections-append past (e ∷ []) ∙ ap (λ ms. collections past ++ ms) (append-nil (collected e.0 e.1))

  collections-deliveries : (now : ℕ) (vs : List X) → collections (map (λ v. (Delivered v, now)) vs) ≡ []
  collections-deliveries now [] = refl
  collections-deliveries now (v ∷ vs) = collections-deliveries now vs

  pub collections-passes : (past : Events X) (now : ℕ) (vs : List X) → collections (past ++ passes now vs) ≡ collections past
  collections-passes past now vs = collections-append past (passes now vs) ∙ ap (λ ms. collections past ++ ms) (collections-deliveries now vs) ∙ append-nil (collections past)

  pub collections-tick : (past : Events X) (now : ℕ) → collections (past ++ (Collected, now) ∷ []) ≡ collections past ++ now ∷ []
  collections-tick past now = collections-append past ((Collected, now) ∷ [])

  pub collections-pass : (past : Events X) (now : ℕ) → collections (past ++ (Passed, now) ∷ []) ≡ collections past
  collections-pass past now = collections-append past ((Passed, now) ∷ []) ∙ append-nil (collections past)

  pub taken-tick : (past : Events X) (now : ℕ) → taken [] (past ++ (Collected, now) ∷ []) ≡ taken [] past
  taken-tick past now = taken-append past ((Collected, now) ∷ []) ∙ append-nil (taken [] past)

  pub taken-pass : (past : Events X) (now : ℕ) → taken [] (past ++ (Passed, now) ∷ []) ≡ taken [] past
  taken-pass past now = taken-append past ((Passed, now) ∷ []) ∙ append-nil (taken [] past)

module _ {K X : Type 0} (seen : X → Version K) (cmp : K → K → Ordering) where
  after_all-append : (map : K → Option X) (past events : Events X) → after_all seen cmp map (past ++ events) ≡ after_all seen cmp (after_all seen cmp map past) events
  after_all-append map [] events = refl
  after_all-append map (e ∷ past) events = after_all-append (after seen cmp map e.0 e.1) past events

  pub map_of-append : (past events : Events X) → map_of seen cmp (past ++ events) ≡ after_all seen cmp (map_of seen cmp past) events
  map_of-append past events = after_all-append (λ key. None) past events
