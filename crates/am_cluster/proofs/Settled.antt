-- After a settle, everybody holds the join of all that was held and live.
use Rattle.am_wire.specs.declared.unknown.Unknown.TheVariants.{Drop}
use Rattle.std.proofs.Common.{◌≡◌, ◌≢◌, ◌⊎◌, inl, inr, ℕ, zero, suc, ◌+◌, ◌-◌, ◌<◌, ◌≤◌, Bool, true, false, cond, eqb, List, [], ◌∷◌, ◌++◌, Option, Some, None, Result, Ok, Err, refl, sym, ap, ◌∙◌, subst, slice_get, length, map, set, arith, append-nil}
use Rattle.std.specs.Prelude.{All, OnOk}
use Rattle.std.specs.List.{range_with_len}
use Rattle.std.specs.Ordering.{eq_by_cmp}
use Rattle.std.specs.declared.cmp.Ordering.{Ordering}
use Rattle.std.proofs.lemmas.Bool.{cases_lt}
use Rattle.std.proofs.lemmas.Bool.Decides.{eqb_tells}
use Rattle.std.proofs.lemmas.List.Elements.{All-contains}
use Rattle.std.proofs.lemmas.Option.{slice_get_within}
use Rattle.am_version_order.specs.Versions.{Version, is_below}
use Rattle.am_version_order.proofs.Ranks.{below_itself, below_trans, tied}
use Rattle.am_silence.specs.Mesh.{IsMesh}
use Rattle.am_silence.specs.RoundTrip.{mesh_exact as silences_exact}
use Rattle.am_nflog.specs.Mesh.{IsMesh as IsLogMesh}
use Rattle.am_nflog.specs.RoundTrip.{mesh_exact as entries_exact}
use Rattle.am_merge.specs.Maps.{IsMap, at, greater_of, swept}
use Rattle.am_merge.proofs.Keys.{IsKeyOrder, at-Contains, at-above, same_key}
use Rattle.am_merge.proofs.Joins.{greater_of-assoc, greater_of-comm, greater_of-same}
use Rattle.am_merge.proofs.Puts.{greater_of-none}
use Rattle.am_collect.proofs.Greatest.{first_kept}
use Rattle.am_collect.specs.Events.{after, after_all}
use Rattle.am_collect.specs.Events.MapEvent.{Delivered}
use Rattle.am_gossip.specs.declared.frame.Frame.{Frame}
use Rattle.am_instance.specs.declared.event.Event.TheVariants as events
use Rattle.am_gossip.specs.declared.refusals.StepError.{StepError}
use Rattle.am_gossip.specs.declared.refusals.StepError.TheVariants.{Memory, MomentBack, UnknownPeer, Frame as FrameFault}
use Rattle.am_instance.specs.declared.reply.Outcome.{Outcome}
use Rattle.am_instance.specs.declared.reply.Reply.{Reply}
use Rattle.am_instance.specs.Deliveries.Delivery.{OfEntry, OfSilence}
use Rattle.am_instance.specs.OneStep.{IsStep}
use Rattle.am_instance.specs.InstanceStates.{InstanceState}
use Rattle.am_instance.specs.Steps.{AreSwept, brought, delivers}
use Rattle.am_cluster.specs.BothStates.{StateOf, log_state, silence_state}
use Rattle.am_cluster.specs.Contents.{IsReadable, held_in}
use Rattle.am_cluster.proofs.RoundTrip.{All-unmap, whole_carries}
use Rattle.am_cluster.proofs.Making.{frame_makes_nothing}
use Rattle.am_cluster.proofs.States.{IsStateOf, of_log, of_silences, takings}
use Rattle.am_runs.specs.declared.step.DeliverySource.{DeliverySource}
use Rattle.am_runs.specs.declared.step.DeliverySource.TheVariants.{Lent, Made}
use Rattle.am_runs.specs.Settles.{join_of}
use Rattle.am_cluster.specs.declared.error.SettleError.{SettleError}
use Rattle.am_cluster.specs.Events.{IsTold, with_stand}
use Rattle.am_cluster.specs.Settling.{AreTurnsMade, CanLend, CanSettle, HasSettled, HoldTheJoin, IsMade, IsSettle, Turn, all_turns, begun, collections, gatherings, held_of, loan, spreadings}
use Rattle.am_cluster.specs.Settling.Turn.{Collects, Takes}
use Rattle.am_cluster.specs.Worlds.{Replica, World, replica_at}
use Rattle.am_cluster.proofs.Admitted.{begun_members, can_begun}
use Rattle.am_cluster.proofs.Places.{got_other, got_set}
use Rattle.am_cluster.proofs.Turned.{still_can}

-- ---- joins of maps, at one key

module _ {K X : Type 0} (seen : X → Version K) where
  -- what a version adds nothing to, it adds nothing to when something greater came
  kept_below : (u w t : X) (b : Bool) → is_below (seen u) (seen w) ≡ b → cond b (Some w) (Some u) ≡ Some u → is_below (seen u) (seen t) ≡ true → is_below (seen t) (seen w) ≡ false
  kept_below u w t true less same up = absurd (let one : w ≡ u = cc in let never : is_below (seen u) (seen u) ≡ true = subst (λ x. is_below (seen u) (seen x) ≡ true) one less in let itself = below_itself (seen u) in cc)
  kept_below u w t false not same up = by (is_below (seen t) (seen w)) refl where
    by : (b : Bool) → is_below (seen t) (seen w) ≡ b → is_below (seen t) (seen w) ≡ false
    by true less = absurd (let further = below_trans (seen u) (seen t) (seen w) up less in cc)
    by false is = is

  kept_by : (u w t : X) (b : Bool) → is_below (seen u) (seen t) ≡ b → greater_of seen (Some u) (Some w) ≡ Some u → greater_of seen (cond b (Some t) (Some u)) (Some w) ≡ cond b (Some t) (Some u)
  kept_by u w t true up same = first_kept seen t w (kept_below u w t (is_below (seen u) (seen w)) refl same up)
  kept_by u w t false not same = same

  still_kept : (j s x : Option X) → greater_of seen j x ≡ j → greater_of seen (greater_of seen j s) x ≡ greater_of seen j s
  still_kept None s x same = ap (greater_of seen s) same ∙ greater_of-none seen s
  still_kept (Some u) s None same = greater_of-none seen (greater_of seen (Some u) s)
  still_kept (Some u) None (Some w) same = same
  still_kept (Some u) (Some t) (Some w) same = kept_by u w t (is_below (seen u) (seen t)) refl same

  -- the join of maps has all of them in it
  pub covers : (maps : ℕ → K → Option X) (key : K) (n place : ℕ) → place < n → greater_of seen (join_of seen n maps key) (maps place key) ≡ join_of seen n maps key
  covers maps key zero place less = absurd (omega arith)
  covers maps key (suc n) place less = by (cases_lt place n) (covers maps key n place) where
    by : (place < n) ⊎ (n ≤ place) → (place < n → greater_of seen (join_of seen n maps key) (maps place key) ≡ join_of seen n maps key) →
        greater_of seen (join_of seen (suc n) maps key) (maps place key) ≡ join_of seen (suc n) maps key
    by (inl earlier) rest = still_kept (join_of seen n maps key) (maps n key) (maps place key) (rest earlier)
    by (inr last) rest =
        let here : n ≡ place = omega (arith, less, last) in
        subst (λ p. greater_of seen (join_of seen (suc n) maps key) (maps p key) ≡ join_of seen (suc n) maps key) here
        (greater_of-assoc seen (join_of seen n maps key) (maps n key) (maps n key) ∙ ap (greater_of seen (join_of seen n maps key)) (greater_of-same seen (maps n key)))

  module _ (cmp : K → K → Ordering) (keys : IsKeyOrder cmp) where
    -- taking the versions of a map one after the other joins it
    taken_one : (held : Option X) (v : X) (vs : List X) (key : K) (b : Bool) → eq_by_cmp cmp (seen v).key key ≡ b → IsMap seen cmp (v ∷ vs) →
        greater_of seen (greater_of seen held (cond b (Some v) None)) (at seen cmp vs key) ≡ greater_of seen held (cond b (Some v) (at seen cmp vs key))
    taken_one held v vs key true e is =
        let same : (seen v).key ≡ key = same_key seen cmp keys (seen v).key key e in
        let none : at seen cmp vs key ≡ None = subst (λ k. at seen cmp vs k ≡ None) same (at-above seen cmp keys vs (seen v).key is.0) in
        ap (greater_of seen (greater_of seen held (Some v))) none ∙ greater_of-none seen (greater_of seen held (Some v))
    taken_one held v vs key false e is = ap (λ o. greater_of seen o (at seen cmp vs key)) (greater_of-none seen held)

    pub taken_all : (held : K → Option X) (now : ℕ) (vs : List X) (key : K) → IsMap seen cmp vs → after_all seen cmp held (takings now vs) key ≡ greater_of seen (held key) (at seen cmp vs key)
    taken_all held now [] key is = sym (greater_of-none seen (held key))
    taken_all held now (v ∷ vs) key is = taken_all (after seen cmp held (Delivered v) now) now vs key is.1 ∙ taken_one (held key) v vs key (eq_by_cmp cmp (seen v).key key) refl is

-- ---- what a turn leaves of one state, which `of` has of a member

module _ {K X : Type 0} (seen : X → Version K) (cmp : K → K → Ordering) (of : Option Replica → List X) where
  -- a member's map is swept
  pub record IsSweeping (old : World) (place now : ℕ) (new : World) : Type 0 where
    pub here : of (replica_at new place) ≡ swept seen now (of (replica_at old place))
    pub others : (q : ℕ) → place ≢ q → of (replica_at new q) ≡ of (replica_at old q)

  -- one is joined with that of another, whose versions are values
  pub record IsJoining (is_value : X → Type 0) (old : World) (borrower lender : ℕ) (new : World) : Type 0 where
    pub here : (key : K) → at seen cmp (of (replica_at new borrower)) key ≡ greater_of seen (at seen cmp (of (replica_at old borrower)) key) (at seen cmp (of (replica_at old lender)) key)
    pub others : (q : ℕ) → borrower ≢ q → of (replica_at new q) ≡ of (replica_at old q)
    pub values : All is_value (of (replica_at old lender))

module _ {X : Type 0} (of : Option Replica → List X) (old : World) (place : ℕ) (was will : Replica) (new : World) (found : replica_at old place ≡ Some was) (are : new.replicas ≡ set old.replicas place will) where
  changed_here : of (replica_at new place) ≡ of (Some will)
  changed_here = ap of (ap (λ rs. slice_get rs place) are ∙ got_set old.replicas place will was found)

  same_elsewhere : (q : ℕ) → place ≢ q → of (replica_at new q) ≡ of (replica_at old q)
  same_elsewhere q other = ap of (ap (λ rs. slice_get rs q) are ∙ got_other old.replicas place q will other)

-- ---- turns, one after the other

made_apart : (old new : World) (turns more : List Turn) (now line : ℕ) → AreTurnsMade old (turns ++ more) now line new → (between : World) × AreTurnsMade old turns now line between × AreTurnsMade between more now line new
made_apart old new [] more now line made = (old, refl, made)
made_apart old new (turn ∷ turns) more now line made =
    let rest = made_apart made.0 new turns more now line made.2 in
    (rest.0, (made.0, made.1, rest.1), rest.2)

module _ {K X : Type 0} (seen : X → Version K) (cmp : K → K → Ordering) (keys : IsKeyOrder cmp) (is_value : X → Type 0) (exact : (v w : X) → is_value v → is_value w → seen v ≡ seen w → v ≡ w) (of : Option Replica → List X) (now line : ℕ)
    (sweeps : (old new : World) (place : ℕ) → IsMade old (Collects place) now line new → IsSweeping seen cmp of old place now new)
    (joins : (old new : World) (borrower lender : ℕ) → IsMade old (Takes borrower lender) now line new → IsJoining seen cmp of is_value old borrower lender new) (start : World) (count : ℕ) where
  -- what was live at each member
  abbrev pub live : ℕ → List X
  live place = swept seen now (of (replica_at start place))

  abbrev pub maps : ℕ → K → Option X
  maps place key = at seen cmp (live place) key

  -- all members before a place have collected
  record AreSweptTo (w : World) (place : ℕ) : Type 0 where
    done : (q : ℕ) → q < place → of (replica_at w q) ≡ live q
    left : (q : ℕ) → place ≤ q → of (replica_at w q) ≡ of (replica_at start q)

  swept_one : (w new : World) (place : ℕ) → IsSweeping seen cmp of w place now new → AreSweptTo w place → AreSweptTo new (place + 1)
  swept_one w new place s so_far = record {
    done = λ q less. by q less (eqb_tells place q);
    left = λ q from. s.others q (λ e. omega (arith, e, from)) ∙ so_far.left q (omega (arith, from));
  } where
    by : (q : ℕ) → q < place + 1 → ((eqb place q ≡ true) × (place ≡ q)) ⊎ ((eqb place q ≡ false) × (place ≢ q)) → of (replica_at new q) ≡ live q
    by q less (inl own) = subst (λ p. of (replica_at new p) ≡ live p) own.1 (s.here ∙ ap (swept seen now) (so_far.left place (omega arith)))
    by q less (inr other) = let apart = other.1 in s.others q apart ∙ so_far.done q (before q less apart) where
      before : (q : ℕ) → q < place + 1 → place ≢ q → q < place
      before q less apart = omega arith

  swept_all : (n place : ℕ) (w new : World) → AreSweptTo w place → AreTurnsMade w (map Collects (range_with_len place n)) now line new → AreSweptTo new (place + n)
  swept_all zero place w new so_far made = subst (AreSweptTo new) (omega arith) (subst (λ u. AreSweptTo u place) (sym made) so_far)
  swept_all (suc n) place w new so_far made =
      subst (AreSweptTo new) (omega arith) (swept_all n (place + 1) made.0 new (swept_one w made.0 place (sweeps w made.0 place made.1) so_far) made.2)

  -- the first member has the maps of all before a place
  record HasGathered (w : World) (place : ℕ) : Type 0 where
    first : (key : K) → at seen cmp (of (replica_at w 0)) key ≡ join_of seen place maps key
    others : (q : ℕ) → 0 < q → q < count → of (replica_at w q) ≡ live q
    values : (q : ℕ) → 0 < q → q < place → All is_value (live q)

  gathered_one : (w new : World) (place : ℕ) → 0 < place → place < count → IsJoining seen cmp of is_value w 0 place new → HasGathered w place → HasGathered new (place + 1)
  gathered_one w new place positive within j so_far = record {
    first = λ key. j.here key ∙ (ap (λ o. greater_of seen o (at seen cmp (of (replica_at w place)) key)) (so_far.first key)
        ∙ (ap (λ vs. greater_of seen (join_of seen place maps key) (at seen cmp vs key)) (so_far.others place positive within) ∙ ap (λ n. join_of seen n maps key) next));
    others = λ q above below. j.others q (λ e. omega (arith, e, above)) ∙ so_far.others q above below;
    values = λ q above below. by q above below (cases_lt q place);
  } where
    next : suc place ≡ place + 1
    next = omega arith

    by : (q : ℕ) → 0 < q → q < place + 1 → (q < place) ⊎ (place ≤ q) → All is_value (live q)
    by q above below (inl earlier) = so_far.values q above earlier
    by q above below (inr last) =
        let here : place ≡ q = omega (arith, below, last) in
        subst (λ p. All is_value (live p)) here (subst (All is_value) (so_far.others place positive within) j.values)

  gathered_all : (n place : ℕ) (w new : World) → 0 < place → place + n ≡ count → HasGathered w place → AreTurnsMade w (map (λ p. Takes 0 p) (range_with_len place n)) now line new → HasGathered new count
  gathered_all zero place w new positive all so_far made = subst (HasGathered new) (omega (arith, all)) (subst (λ u. HasGathered u place) (sym made) so_far)
  gathered_all (suc n) place w new positive all so_far made =
      gathered_all n (place + 1) made.0 new (omega arith) (omega (arith, all)) (gathered_one w made.0 place positive (omega (arith, all)) (joins w made.0 0 place made.1) so_far) made.2

  -- all members before a place have the join of all
  record HasSpread (w : World) (place : ℕ) : Type 0 where
    done : (q : ℕ) → q < place → (key : K) → at seen cmp (of (replica_at w q)) key ≡ join_of seen count maps key
    left : (q : ℕ) → place ≤ q → q < count → of (replica_at w q) ≡ live q

  -- who takes the join of all has that join
  joined : (place : ℕ) (whole : List X) (key : K) → place < count → All is_value (live place) → All is_value whole → at seen cmp whole key ≡ join_of seen count maps key →
      greater_of seen (maps place key) (join_of seen count maps key) ≡ join_of seen count maps key
  joined place whole key within own all is = greater_of-comm seen (maps place key) (join_of seen count maps key) one ∙ covers seen maps key count place within where
    one : (v w : X) → maps place key ≡ Some v → join_of seen count maps key ≡ Some w → is_below (seen v) (seen w) ≡ false → is_below (seen w) (seen v) ≡ false → v ≡ w
    one v w here there not_up not_down =
        let first = at-Contains seen cmp keys (live place) key v here in
        let second = at-Contains seen cmp keys whole key w (is ∙ there) in
        exact v w (All-contains is_value (live place) v own first.1) (All-contains is_value whole w all second.1) (tied (seen v) (seen w) (first.0 ∙ sym second.0) not_up not_down)

  spread_one : (w new : World) (place : ℕ) → 0 < place → place < count → All is_value (live place) → IsJoining seen cmp of is_value w place 0 new → HasSpread w place → HasSpread new (place + 1)
  spread_one w new place positive within own j so_far = record {
    done = λ q less key. by q less key (eqb_tells place q);
    left = λ q from below. j.others q (λ e. omega (arith, e, from)) ∙ so_far.left q (omega (arith, from)) below;
  } where
    here : (key : K) → at seen cmp (of (replica_at new place)) key ≡ join_of seen count maps key
    here key =
        j.here key ∙ (ap (λ vs. greater_of seen (at seen cmp vs key) (at seen cmp (of (replica_at w 0)) key)) (so_far.left place (omega arith) within)
        ∙ (ap (greater_of seen (maps place key)) (so_far.done 0 positive key) ∙ joined place (of (replica_at w 0)) key within own j.values (so_far.done 0 positive key)))

    by : (q : ℕ) → q < place + 1 → (key : K) → ((eqb place q ≡ true) × (place ≡ q)) ⊎ ((eqb place q ≡ false) × (place ≢ q)) → at seen cmp (of (replica_at new q)) key ≡ join_of seen count maps key
    by q less key (inl own) = subst (λ p. at seen cmp (of (replica_at new p)) key ≡ join_of seen count maps key) own.1 (here key)
    by q less key (inr other) = let apart = other.1 in ap (λ vs. at seen cmp vs key) (j.others q apart) ∙ so_far.done q (before q less apart) key where
      before : (q : ℕ) → q < place + 1 → place ≢ q → q < place
      before q less apart = omega arith

  spread_all : (n place : ℕ) (w new : World) → 0 < place → place + n ≡ count → ((q : ℕ) → 0 < q → q < count → All is_value (live q)) → HasSpread w place →
      AreTurnsMade w (map (λ p. Takes p 0) (range_with_len place n)) now line new → HasSpread new count
  spread_all zero place w new positive all values so_far made = subst (HasSpread new) (omega (arith, all)) (subst (λ u. HasSpread u place) (sym made) so_far)
  spread_all (suc n) place w new positive all values so_far made =
      spread_all n (place + 1) made.0 new (omega arith) (omega (arith, all)) values
      (spread_one w made.0 place positive (omega (arith, all)) (values place positive (omega (arith, all))) (joins w made.0 place 0 made.1) so_far) made.2

  pub all_joined : (new : World) → AreTurnsMade start (collections count ++ (gatherings count ++ spreadings count)) now line new →
      (q : ℕ) → q < count → (key : K) → at seen cmp (of (replica_at new q)) key ≡ join_of seen count maps key
  all_joined new made q within key =
      let first = made_apart start new (collections count) (gatherings count ++ spreadings count) now line made in
      let second = made_apart first.0 new (gatherings count) (spreadings count) now line first.2 in
      let swept_now : AreSweptTo first.0 count =
      subst (AreSweptTo first.0) (omega arith) (swept_all count 0 start first.0 (record { done = λ p less. absurd (omega (arith, less)); left = λ p from. refl }) first.1) in
      let gathered : HasGathered second.0 count = gathered_all (count - 1) 1 first.0 second.0 (omega arith) (omega (arith, within)) (record {
        first = λ k. ap (λ vs. at seen cmp vs k) (swept_now.done 0 (omega (arith, within)));
        others = λ p above below. swept_now.done p below;
        values = λ p above below. absurd (omega (arith, above, below));
      }) second.1 in
      let spread : HasSpread new count = spread_all (count - 1) 1 second.0 new (omega arith) (omega (arith, within)) gathered.values (record {
        done = λ p less k. ap (λ x. at seen cmp (of (replica_at second.0 x)) k) (nought p less) ∙ gathered.first k;
        left = λ p from below. gathered.others p from below;
      }) second.2 in
      spread.done q within key where
        nought : (p : ℕ) → p < 1 → p ≡ 0
        nought p less = omega arith

-- ---- both states

swept_told : (source : DeliverySource) (before after : InstanceState) (now : ℕ) (answer : Result Outcome StepError) (frames : List (ℕ × Frame)) (reply : Reply) →
    IsStep before events.Tick now answer after → IsTold source answer frames (Ok reply) → AreSwept now before after
swept_told source before after now (Ok outcome) frames reply step told = step.swept refl
swept_told source before after now (Err (MomentBack last)) frames reply step told = absurd told
swept_told source before after now (Err UnknownPeer) frames reply step told = absurd told
swept_told source before after now (Err (Memory taken)) frames reply step told = absurd told
swept_told source before after now (Err (FrameFault fault)) frames reply step told = absurd told

-- what comes with the maps of another is those maps
lent_whole : (lender now : ℕ) (before lent : InstanceState) (outcome : Outcome) (after : InstanceState) → CanLend lent → IsStep before (loan lender lent) now (Ok outcome) after → delivers before.config.unknown (loan lender lent) outcome.made ≡ held_in lent.silences lent.log
lent_whole lender now before lent outcome after can step =
    ap (λ ds. brought before.config.unknown (loan lender lent) ++ ds) (frame_makes_nothing outcome.made step.reply.1)
    ∙ (append-nil (brought before.config.unknown (loan lender lent)) ∙ whole_carries before.config.unknown lent.silences lent.log (can.silences before.config.unknown) (can.log before.config.unknown))

-- what a settle has to know of a state: what a sweep leaves of it, and that what is lent of it are values, told apart by what is seen
record CanBeSettled {K X : Type 0} (state : StateOf K X) (is_value : X → Type 0) : Type 0 where
  facts : IsStateOf state
  exact : (v w : X) → is_value v → is_value w → state.seen v ≡ state.seen w → v ≡ w
  sweep : (now : ℕ) (before after : InstanceState) → AreSwept now before after → (state.kept after).held ≡ swept state.seen now (state.kept before).held
  values : (lent : InstanceState) → CanLend lent → All is_value (state.kept lent).held

silences_settle : CanBeSettled silence_state IsMesh
silences_settle = record {
  facts = of_silences;
  exact = silences_exact;
  sweep = λ now before after swept. swept.silences;
  values = λ lent can k v within. (All-unmap (IsReadable Drop) OfSilence lent.silences (can.silences Drop) k v within).value;
}

log_settle : CanBeSettled log_state IsLogMesh
log_settle = record {
  facts = of_log;
  exact = entries_exact;
  sweep = λ now before after swept. swept.log;
  values = λ lent can k e within. (All-unmap (IsReadable Drop) OfEntry lent.log (can.log Drop) k e within).value;
}

module _ {K X : Type 0} {state : StateOf K X} {is_value : X → Type 0} (can_be : CanBeSettled state is_value) where
  lent_joined : (source : DeliverySource) (lender now : ℕ) (before lent after : InstanceState) → CanLend lent → (answer : Result Outcome StepError) (frames : List (ℕ × Frame)) (reply : Reply) →
      IsStep before (loan lender lent) now answer after → IsTold source answer frames (Ok reply) → (key : K) →
      at state.seen state.cmp (state.kept after).held key
      ≡ greater_of state.seen (at state.seen state.cmp (state.kept before).held key) (at state.seen state.cmp (state.kept lent).held key)
  lent_joined source lender now before lent after can (Ok outcome) frames reply step told key =
      let held : K → Option X = at state.seen state.cmp (state.kept before).held in
      let came = ap state.versions_in (lent_whole lender now before lent outcome after can step) ∙ can_be.facts.parted lent in
      (can_be.facts.left before after (loan lender lent) now (Ok outcome) step).map key
      ∙ (ap (λ f. f key) (can_be.facts.lift now held (delivers before.config.unknown (loan lender lent) outcome.made))
      ∙ (ap (λ vs. after_all state.seen state.cmp held (takings now vs) key) came
      ∙ taken_all state.seen state.cmp can_be.facts.keys held now (state.kept lent).held key (can_be.facts.maps lent can.maps)))
  lent_joined source lender now before lent after can (Err (MomentBack last)) frames reply step told key = absurd told
  lent_joined source lender now before lent after can (Err UnknownPeer) frames reply step told key = absurd told
  lent_joined source lender now before lent after can (Err (Memory taken)) frames reply step told key = absurd told
  lent_joined source lender now before lent after can (Err (FrameFault fault)) frames reply step told key = absurd told

  module _ (now line : ℕ) where
    sweeps : (old new : World) (place : ℕ) → IsMade old (Collects place) now line new → IsSweeping state.seen state.cmp (held_of state) old place now new
    sweeps old new place made =
        let was = made.1.0 in let h = made.1.2 in let are = ap (λ w. w.replicas) h.world in
        record {
          here = changed_here (held_of state) old place was (with_stand was h.stand) new made.1.1 are
              ∙ (can_be.sweep now was.stand h.stand (swept_told Made was.stand h.stand now h.answer h.frames made.0 h.step h.told) ∙ ap (λ o. swept state.seen now (held_of state o)) (sym made.1.1));
          others = same_elsewhere (held_of state) old place was (with_stand was h.stand) new made.1.1 are;
        }

    joins : (old new : World) (borrower lender : ℕ) → IsMade old (Takes borrower lender) now line new → IsJoining state.seen state.cmp (held_of state) is_value old borrower lender new
    joins old new borrower lender made =
        let was = made.1.0 in let lent = made.1.1 in let found = made.1.2 in let there = made.1.3 in let can = made.1.4 in let h = made.1.5 in let are = ap (λ w. w.replicas) h.world in
        record {
          here = λ key. ap (λ vs. at state.seen state.cmp vs key) (changed_here (held_of state) old borrower was (with_stand was h.stand) new found are)
              ∙ (lent_joined (Lent lender) lender now was.stand lent.stand h.stand can h.answer h.frames made.0 h.step h.told key
              ∙ (ap (λ o. greater_of state.seen (at state.seen state.cmp (held_of state o) key) (at state.seen state.cmp (state.kept lent.stand).held key)) (sym found)
              ∙ ap (λ o. greater_of state.seen (at state.seen state.cmp (held_of state (replica_at old borrower)) key) (at state.seen state.cmp (held_of state o) key)) (sym there)));
          others = same_elsewhere (held_of state) old borrower was (with_stand was h.stand) new found are;
          values = subst (λ o. All is_value (held_of state o)) (sym there) (can_be.values lent.stand can);
        }

    -- all members hold the join of what was live
    settles : (old new : World) → AreTurnsMade old (all_turns (length old.replicas)) now line new → ((place : ℕ) (replica : Replica) → replica_at new place ≡ Some replica → place < length old.replicas) →
        HoldTheJoin state old now new
    settles old new made within = λ place replica there key.
        ap (λ o. at state.seen state.cmp (held_of state o) key) (sym there)
        ∙ all_joined state.seen state.cmp can_be.facts.keys is_value can_be.exact (held_of state) now line sweeps joins old (length old.replicas) new made place (within place replica there) key

settled_by : (old new : World) (now line : ℕ) → CanSettle old now → AreTurnsMade old (all_turns (length old.replicas)) now line new → HasSettled old now new
settled_by old new now line ready made = record {
  members = members;
  silences = settles silences_settle now line old new made within;
  log = settles log_settle now line old new made within;
} where
  members : length new.replicas ≡ length old.replicas
  members = (still_can old (all_turns (length old.replicas)) now line new ready made).members

  within : (place : ℕ) (replica : Replica) → replica_at new place ≡ Some replica → place < length old.replicas
  within place replica there = subst (λ n. place < n) members (slice_get_within new.replicas place replica there)

-- to write the moment down changes no member
settled_begun : (rs : List Replica) (old new : World) (now line : ℕ) → HasSettled (begun rs old now line) now new → HasSettled old now new
settled_begun [] old new now line settled = record { members = settled.members; silences = settled.silences; log = settled.log }
settled_begun (r ∷ rs) old new now line settled = settled

pub has_settled : (old new : World) (now line : ℕ) (result : Result Unit SettleError) → IsSettle old now line result new → OnOk result (HasSettled old now new)
has_settled old new now line (Ok done) is =
    let start = begun old.replicas old now line in
    settled_begun old.replicas old new now line
    (settled_by start new now line (can_begun old.replicas old now line is.0)
    (subst (λ rs. AreTurnsMade start (all_turns (length rs)) now line new) (sym (begun_members old.replicas old now line)) is.1))
has_settled old new now line (Err error) is = tt
