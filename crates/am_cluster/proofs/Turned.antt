-- Turns of a settle, one after the other.
use Rattle.std.proofs.Common.{◌≡◌, ◌≢◌, ◌⊎◌, inl, inr, ℕ, zero, suc, ◌+◌, ◌<◌, ◌≤◌, Bool, true, false, cond, eqb, ltb, not, ◌&&◌, List, [], ◌∷◌, ◌++◌, Some, None, Result, Ok, Err, refl, sym, ap, ◌∙◌, subst, slice_get, length, set, map, arith, append_assoc}
use Rattle.std.proofs.lemmas.Bool.{lt-ltb}
use Rattle.std.proofs.lemmas.Bool.Decides.{eqb_tells}
use Rattle.am_collect.specs.Events.{last_moment}
use Rattle.am_collect.specs.Events.MapEvent.{Collected}
use Rattle.am_gossip.specs.declared.frame.Frame.{Frame}
use Rattle.am_instance.specs.declared.event.Event.{Event}
use Rattle.am_instance.specs.declared.event.Event.TheVariants as events
use Rattle.am_gossip.specs.declared.refusals.StepError.{StepError}
use Rattle.am_gossip.specs.declared.refusals.StepError.TheVariants.{Memory, MomentBack, UnknownPeer, Frame as FrameFault}
use Rattle.am_instance.specs.declared.reply.Outcome.{Outcome}
use Rattle.am_instance.specs.declared.reply.Reply.{Reply}
use Rattle.am_instance.specs.Deliveries.{Delivery, events_at, to_silences}
use Rattle.am_instance.specs.InstanceStates.{InstanceState}
use Rattle.am_instance.specs.Configs.{Settings}
use Rattle.am_instance.specs.Steps.{collects, delivers, fault_of, knows_peer, peer_of}
use Rattle.am_instance.specs.OneStep.{IsStep}
use Rattle.am_cluster.proofs.States.{last_arrivals}
use Rattle.am_runs.specs.declared.step.DeliverySource.{DeliverySource}
use Rattle.am_runs.specs.declared.step.DeliverySource.TheVariants.{Lent, Made}
use Rattle.am_cluster.specs.declared.error.ClusterError.{ClusterError}
use Rattle.am_cluster.specs.declared.error.ClusterError.TheVariants as errors
use Rattle.am_cluster.specs.Worlds.{Replica, World, replica_at}
use Rattle.am_cluster.specs.Events.{CanHave, HasHappened, IsEvent, IsTold, with_stand}
use Rattle.am_cluster.specs.Lives.{OfMember}
use Rattle.std.specs.List.{range_with_len}
use Rattle.std.proofs.lemmas.List.FromFn.{map-range_with_len_more}
use Rattle.am_cluster.specs.declared.error.SettleError.{SettleError}
use Rattle.am_cluster.specs.declared.error.SettleError.TheVariants as settle_errors
use Rattle.am_cluster.specs.Settling.{AreCutShort, AreTurnsMade, AreTurns, CanLend, CanSettle, IsMade, IsStopped, Turn, loan}
use Rattle.am_cluster.specs.Settling.Turn.{Collects, Takes}
use Rattle.am_cluster.specs.Ties.{IsWorld}
use Rattle.am_cluster.proofs.Places.{got_other, got_set, set_length, some_is}

-- ---- what an event that a member can have answers

-- want of memory is all that is told of it
memory_alone : (source : DeliverySource) (answer : Result Outcome StepError) (frames : List (ℕ × Frame)) (e : ClusterError) → IsTold source answer frames (Err e) → e ≡ errors.Memory
memory_alone source (Ok outcome) frames e told = told.0
memory_alone source (Err (Memory taken)) frames e told = told.0
memory_alone source (Err (MomentBack last)) frames e told = absurd told
memory_alone source (Err UnknownPeer) frames e told = absurd told
memory_alone source (Err (FrameFault fault)) frames e told = absurd told

module _ (old : World) (place : ℕ) (replica : Replica) (event : Event) (source : DeliverySource) (now line : ℕ) (new : World) where
  pub happened_with : (reply : Reply) → IsEvent old place replica event source now line (Ok reply) new → HasHappened old place replica event source now line (Ok reply) new
  happened_with reply (inl unmade) = absurd (let e = unmade.error in cc)
  happened_with reply (inr happened) = happened

  stopped_by : (e : ClusterError) → IsEvent old place replica event source now line (Err e) new → (new ≡ old) ⊎ HasHappened old place replica event source now line (Err errors.Memory) new
  stopped_by e (inl unmade) = inl unmade.world
  stopped_by e (inr h) = inr (subst (λ x. HasHappened old place replica event source now line (Err x) new) (memory_alone source h.answer h.frames e h.told) h)

-- ---- one turn

pub one_made : (old : World) (turn : Turn) (now line : ℕ) (new : World) → IsMade old turn now line new → AreTurnsMade old (turn ∷ []) now line new
one_made old turn now line new made = (new, made, refl)

pub one_stopped : (old : World) (turn : Turn) (now line : ℕ) (new : World) → IsStopped old turn now line new → AreCutShort old (turn ∷ []) now line new
one_stopped old turn now line new stopped = record { made = []; turn = turn; left = []; all = refl; between = old; first = refl; stopped = stopped }

pub got : {A : Type 0} (xs : List A) (n : ℕ) → n < length xs → (x : A) × (slice_get xs n ≡ Some x)
got [] n less = absurd (omega arith)
got (x ∷ xs) zero less = (x, refl)
got (x ∷ xs) (suc n) less = got xs n (omega arith)

module _ (old : World) (place now line : ℕ) (new : World) (within : place < length old.replicas) where
  pub collected : (reply : Reply) → OfMember old place (λ replica. IsEvent old place replica events.Tick Made now line (Ok reply) new) → AreTurnsMade old (Collects place ∷ []) now line new
  collected reply event =
      let here = got old.replicas place within in
      one_made old (Collects place) now line new (reply, (here.0, here.1, happened_with old place here.0 events.Tick Made now line new reply (event here.0 here.1)))

  pub not_collected : (e : ClusterError) → OfMember old place (λ replica. IsEvent old place replica events.Tick Made now line (Err e) new) → AreCutShort old (Collects place ∷ []) now line new
  not_collected e event =
      let here = got old.replicas place within in
      one_stopped old (Collects place) now line new
      (elim (stopped_by old place here.0 events.Tick Made now line new e (event here.0 here.1)) [ inl same ↦ inl same | inr h ↦ inr (here.0, here.1, h) ])

module _ (old : World) (borrower lender now line : ℕ) (new : World) (within : borrower < length old.replicas) (lender_within : lender < length old.replicas) where
  pub took : (reply : Reply) (event : Event) → OfMember old lender (λ lent. event ≡ loan lender lent.stand) → OfMember old lender (λ lent. CanLend lent.stand) →
      OfMember old borrower (λ replica. IsEvent old borrower replica event (Lent lender) now line (Ok reply) new) → AreTurnsMade old (Takes borrower lender ∷ []) now line new
  took reply event is can came =
      let here = got old.replicas borrower within in
      let there = got old.replicas lender lender_within in
      one_made old (Takes borrower lender) now line new
      (reply, (here.0, there.0, here.1, there.1, can there.0 there.1, subst (λ e. HasHappened old borrower here.0 e (Lent lender) now line (Ok reply) new) (is there.0 there.1) (happened_with old borrower here.0 event (Lent lender) now line new reply (came here.0 here.1))))

  pub not_taken : (e : ClusterError) (event : Event) → OfMember old lender (λ lent. event ≡ loan lender lent.stand) → OfMember old lender (λ lent. CanLend lent.stand) →
      OfMember old borrower (λ replica. IsEvent old borrower replica event (Lent lender) now line (Err e) new) → AreCutShort old (Takes borrower lender ∷ []) now line new
  not_taken e event is can came =
      let here = got old.replicas borrower within in
      let there = got old.replicas lender lender_within in
      one_stopped old (Takes borrower lender) now line new
      (elim (stopped_by old borrower here.0 event (Lent lender) now line new e (came here.0 here.1)) [
        | inl same ↦ inl same
        | inr h ↦ inr (here.0, there.0, here.1, there.1, can there.0 there.1, subst (λ x. HasHappened old borrower here.0 x (Lent lender) now line (Err errors.Memory) new) (is there.0 there.1) h)
      ])

  -- nothing is lent
  pub nothing_lent : new ≡ old → AreCutShort old (Takes borrower lender ∷ []) now line new
  nothing_lent same = one_stopped old (Takes borrower lender) now line new (inl same)

-- ---- turns, one after the other

pub made_then : (old between new : World) (turns more : List Turn) (now line : ℕ) → AreTurnsMade old turns now line between → AreTurnsMade between more now line new → AreTurnsMade old (turns ++ more) now line new
made_then old between new [] more now line first then_made = subst (λ w. AreTurnsMade w more now line new) first then_made
made_then old between new (turn ∷ turns) more now line first then_made = (first.0, first.1, made_then first.0 between new turns more now line first.2 then_made)

pub cut_early : (old new : World) (turns more : List Turn) (now line : ℕ) → AreCutShort old turns now line new → AreCutShort old (turns ++ more) now line new
cut_early old new turns more now line cut = record {
  made = cut.made;
  turn = cut.turn;
  left = cut.left ++ more;
  all = ap (λ ts. ts ++ more) cut.all ∙ append_assoc cut.made (cut.turn ∷ cut.left) more;
  between = cut.between;
  first = cut.first;
  stopped = cut.stopped;
}

pub cut_later : (old between new : World) (turns more : List Turn) (now line : ℕ) → AreTurnsMade old turns now line between → AreCutShort between more now line new → AreCutShort old (turns ++ more) now line new
cut_later old between new turns more now line first cut = record {
  made = turns ++ cut.made;
  turn = cut.turn;
  left = cut.left;
  all = ap (λ ts. turns ++ ts) cut.all ∙ sym (append_assoc turns cut.made (cut.turn ∷ cut.left));
  between = cut.between;
  first = made_then old between cut.between turns cut.made now line first cut.first;
  stopped = cut.stopped;
}

-- ---- the members afterwards

last_by : (before now : ℕ) (collecting : Bool) (ds : List Delivery) → last_moment before (cond collecting ((Collected, now) ∷ []) (events_at to_silences now ds)) ≡ now
last_by before now true ds = refl
last_by before now false ds = last_arrivals to_silences now ds

last_is : (before after : InstanceState) (event : Event) (now : ℕ) (outcome : Outcome) → IsStep before event now (Ok outcome) after → after.last ≡ now
last_is before after event now outcome step = step.silences.last ∙ last_by before.last now (collects event) (delivers before.config.unknown event outcome.made)

told_last : (source : DeliverySource) (before after : InstanceState) (event : Event) (now : ℕ) (answer : Result Outcome StepError) (frames : List (ℕ × Frame)) (reply : Reply) →
    IsStep before event now answer after → IsTold source answer frames (Ok reply) → after.last ≡ now
told_last source before after event now (Ok outcome) frames reply step told = last_is before after event now outcome step
told_last source before after event now (Err (MomentBack last)) frames reply step told = absurd told
told_last source before after event now (Err UnknownPeer) frames reply step told = absurd told
told_last source before after event now (Err (Memory taken)) frames reply step told = absurd told
told_last source before after event now (Err (FrameFault fault)) frames reply step told = absurd told

-- as many members, and each of them can still settle
pub record StillCan (old : World) (now : ℕ) (new : World) : Type 0 where
  pub members : length new.replicas ≡ length old.replicas
  pub ready : CanSettle new now

module _ (old : World) (place : ℕ) (replica : Replica) (event : Event) (source : DeliverySource) (now line : ℕ) (reply : Reply) (new : World) where
  after_one : (q : ℕ) (r : Replica) (stand : InstanceState) → CanSettle old now → replica.runs ≡ true → stand.last ≡ now → replica_at old place ≡ Some replica →
      slice_get (set old.replicas place (with_stand replica stand)) q ≡ Some r → ((eqb place q ≡ true) × (place ≡ q)) ⊎ ((eqb place q ≡ false) × (place ≢ q)) → (r.runs ≡ true) × (r.stand.last ≤ now)
  after_one q r stand ready runs last found there (inl own) =
      let same : with_stand replica stand ≡ r = some_is (with_stand replica stand) r (sym (got_set old.replicas place (with_stand replica stand) replica found) ∙ subst (λ p. slice_get (set old.replicas place (with_stand replica stand)) p ≡ Some r) (sym own.1) there) in
      (sym (ap (λ x. x.runs) same) ∙ runs, let here : stand.last ≡ r.stand.last = ap (λ x. x.stand.last) same in omega (arith, last))
  after_one q r stand ready runs last found there (inr other) =
      let before = sym (got_other old.replicas place q (with_stand replica stand) other.1) ∙ there in (ready.runs q r before, ready.forward q r before)

  pub still_after : CanSettle old now → replica_at old place ≡ Some replica → HasHappened old place replica event source now line (Ok reply) new → StillCan old now new
  still_after ready found h =
      let last = told_last source replica.stand h.stand event now h.answer h.frames reply h.step h.told in
      let are = ap (λ w. w.replicas) h.world in
      record {
        members = ap length are ∙ set_length old.replicas place (with_stand replica h.stand);
        ready = record {
          runs = λ q r there. (after_one q r h.stand ready h.runs last found (subst (λ rs. slice_get rs q ≡ Some r) are there) (eqb_tells place q)).0;
          forward = λ q r there. (after_one q r h.stand ready h.runs last found (subst (λ rs. slice_get rs q ≡ Some r) are there) (eqb_tells place q)).1;
        };
      }

still_made : (old : World) (turn : Turn) (now line : ℕ) (new : World) → CanSettle old now → IsMade old turn now line new → StillCan old now new
still_made old (Collects place) now line new ready made = still_after old place made.1.0 events.Tick Made now line made.0 new ready made.1.1 made.1.2
still_made old (Takes borrower lender) now line new ready made = still_after old borrower made.1.0 (loan lender made.1.1.stand) (Lent lender) now line made.0 new ready made.1.2 made.1.5

pub still_can : (old : World) (turns : List Turn) (now line : ℕ) (new : World) → CanSettle old now → AreTurnsMade old turns now line new → StillCan old now new
still_can old [] now line new ready made = subst (λ w. StillCan old now w) (sym made) (record { members = refl; ready = ready })
still_can old (turn ∷ turns) now line new ready made =
    let first = still_made old turn now line made.0 ready made.1 in
    let others = still_can made.0 turns now line new first.ready made.2 in
    record { members = others.members ∙ first.members; ready = others.ready }

-- ---- the lender is a peer of the borrower

peer_where : (lender place members : ℕ) → lender < members → place ≢ lender → (ltb lender members && not (eqb lender place)) ≡ true
peer_where lender place members within other = by (eqb_tells lender place) where
  by : ((eqb lender place ≡ true) × (lender ≡ place)) ⊎ ((eqb lender place ≡ false) × (lender ≢ place)) → (ltb lender members && not (eqb lender place)) ≡ true
  by (inl same) = absurd (other (sym same.1))
  by (inr apart) = ap (λ b. b && not (eqb lender place)) (lt-ltb lender members within) ∙ ap not apart.0

pub peer_known : (w : World) (borrower lender : ℕ) (replica : Replica) → IsWorld w → replica_at w borrower ≡ Some replica → lender < length w.replicas → borrower ≢ lender →
    knows_peer replica.stand.config (Some lender) ≡ true
peer_known w borrower lender replica is found within other =
    let m = is.members borrower replica found in
    peer_where lender replica.stand.config.place (length replica.stand.config.members) (subst (λ n. lender < n) (sym m.members) within) (λ same. other (sym m.place ∙ same))

pub peer_seen : (w v : World) (borrower lender : ℕ) → w ≡ v → IsWorld w → lender < length v.replicas → borrower ≢ lender →
    (replica : Replica) → replica_at v borrower ≡ Some replica → knows_peer replica.stand.config (Some lender) ≡ true
peer_seen w v borrower lender same is within other replica found = peer_known v borrower lender replica (subst IsWorld same is) found within other

-- a member can have what is lent to it
pub can_take : (w : World) (borrower lender now : ℕ) (event : Event) → lender < length w.replicas → CanSettle w now →
    ((replica : Replica) → replica_at w borrower ≡ Some replica → knows_peer replica.stand.config (Some lender) ≡ true) → OfMember w lender (λ lent. event ≡ loan lender lent.stand) →
    ((settings : Settings) (at : ℕ) → fault_of settings at event ≡ None) → OfMember w borrower (λ replica. CanHave replica event now)
can_take w borrower lender now event within ready known is sound replica found =
    let there = got w.replicas lender within in record {
      runs = ready.runs borrower replica found;
      accepted = record {
        forward = ready.forward borrower replica found;
        known = subst (λ e. knows_peer replica.stand.config (peer_of e) ≡ true) (sym (is there.0 there.1)) (known replica found);
        sound = sound replica.stand.config now;
      };
    }

-- ---- the turns of places, one after the other

module _ (f : ℕ → Turn) where
  later_in : (a n k : ℕ) → k < n → (rest : List Turn) × (map f (range_with_len a n) ≡ map f (range_with_len a k) ++ f (a + k) ∷ rest)
  later_in a zero k less = absurd (omega arith)
  later_in a (suc n) zero less = (map f (range_with_len (a + 1) n), ap (λ p. f p ∷ map f (range_with_len (a + 1) n)) (omega arith))
  later_in a (suc n) (suc k) less =
      let more = later_in (a + 1) n k (omega arith) in
      (more.0, ap (λ ts. f a ∷ ts) more.1 ∙ ap (λ p. f a ∷ (map f (range_with_len (a + 1) k) ++ f p ∷ more.0)) (omega arith))

  module _ (old between new : World) (now line : ℕ) where
    pub one_more : (a n place : ℕ) → a + n ≡ place → AreTurnsMade old (map f (range_with_len a n)) now line between → AreTurnsMade between (f place ∷ []) now line new → AreTurnsMade old (map f (range_with_len a (n + 1))) now line new
    one_more a n place is first next =
        subst (λ ts. AreTurnsMade old ts now line new) (sym (map-range_with_len_more f a n place is)) (made_then old between new (map f (range_with_len a n)) (f place ∷ []) now line first next)

    pub one_fails : (a n k place : ℕ) → k < n → a + k ≡ place → (e : SettleError) → AreTurnsMade old (map f (range_with_len a k)) now line between → AreTurns between (f place ∷ []) now line (Err e) new →
        AreTurns old (map f (range_with_len a n)) now line (Err e) new
    one_fails a n k place less is settle_errors.Memory first next =
        let more = later_in a n k less in
        let all : map f (range_with_len a n) ≡ (map f (range_with_len a k) ++ f place ∷ []) ++ more.0 =
        more.1 ∙ (ap (λ p. map f (range_with_len a k) ++ f p ∷ more.0) is ∙ sym (append_assoc (map f (range_with_len a k)) (f place ∷ []) more.0)) in
        subst (λ ts. AreCutShort old ts now line new) (sym all)
        (cut_early old new (map f (range_with_len a k) ++ f place ∷ []) more.0 now line (cut_later old between new (map f (range_with_len a k)) (f place ∷ []) now line first next))
    one_fails a n k place less is settle_errors.Stopped first next = absurd next
    one_fails a n k place less is settle_errors.MomentBack first next = absurd next

-- turns after turns
pub turns_then : (old between new : World) (turns more : List Turn) (now line : ℕ) (result : Result Unit SettleError) → AreTurnsMade old turns now line between → AreTurns between more now line result new → AreTurns old (turns ++ more) now line result new
turns_then old between new turns more now line (Ok u) first next = made_then old between new turns more now line first next
turns_then old between new turns more now line (Err settle_errors.Memory) first next = cut_later old between new turns more now line first next
turns_then old between new turns more now line (Err settle_errors.Stopped) first next = absurd next
turns_then old between new turns more now line (Err settle_errors.MomentBack) first next = absurd next

pub turns_fail : (old new : World) (turns more : List Turn) (now line : ℕ) (e : SettleError) → AreTurns old turns now line (Err e) new → AreTurns old (turns ++ more) now line (Err e) new
turns_fail old new turns more now line settle_errors.Memory first = cut_early old new turns more now line first
turns_fail old new turns more now line settle_errors.Stopped first = absurd first
turns_fail old new turns more now line settle_errors.MomentBack first = absurd first
