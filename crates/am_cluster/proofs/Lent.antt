-- Maps that a member of a cluster lends.
use Rattle.am_wire.specs.declared.unknown.Unknown.{Unknown}
use Rattle.am_wire.specs.declared.unknown.Unknown.TheVariants.{Drop, Keep}
use Rattle.am_wire.specs.Unknown.{StaysWhole}
use Rattle.am_silence.specs.Mesh.{without_unknown}
use Rattle.am_nflog.specs.Mesh.{without_unknown as entry_without_unknown}
use Rattle.std.specs.Prelude.{All}
use Rattle.std.proofs.lemmas.List.Elements.{All-weaker}
use Rattle.std.proofs.Common.{◌≡◌, ℕ, List, true, Some, sym, ◌∙◌, subst, length}
use Rattle.am_gossip.specs.declared.frame.Frame.{Frame}
use Rattle.am_gossip.specs.declared.frame.Frame.TheVariants.{Pull}
use Rattle.am_instance.specs.Sendings.{whole_state}
use Rattle.am_instance.specs.InstanceStates.{InstanceState, HoldsWhole}
use Rattle.am_runs.specs.declared.step.DeliverySource.TheVariants.{Lent}
use Rattle.am_runs.specs.Runs.{AreFrom}
use Rattle.am_cluster.specs.Contents.{carries}
use Rattle.am_cluster.specs.Recorded.{HasGoneThrough}
use Rattle.am_cluster.specs.Worlds.{Replica, World, replica_at}
use Rattle.am_cluster.specs.Lives.{OfMember}
use Rattle.am_cluster.specs.Settling.{CanLend}
use Rattle.am_cluster.specs.BothRuns.{RunOf}
use Rattle.am_cluster.specs.Ties.{IsMember, IsTiedIn, IsWorld, member_in}
use Rattle.am_cluster.proofs.Lived.{for_replica}

-- versions without unknown fields lose nothing, whatever is done with those
pub whole_by : {A : Type 0} (plain : A → A) (unknown : Unknown) (xs : List A) → All (StaysWhole plain Drop) xs → All (StaysWhole plain unknown) xs
whole_by plain Drop xs all = all
whole_by plain Keep xs all = All-weaker (StaysWhole plain Drop) (StaysWhole plain Keep) (λ x is. tt) xs all

-- so it is of what a member holds that drops them
pub silences_whole : (stand : InstanceState) (unknown : Unknown) → stand.config.unknown ≡ Drop → HoldsWhole stand → All (StaysWhole without_unknown unknown) stand.silences
silences_whole stand unknown drops whole =
    whole_by without_unknown unknown stand.silences (subst (λ u. All (StaysWhole without_unknown u) stand.silences) drops whole.silences)

pub log_whole : (stand : InstanceState) (unknown : Unknown) → stand.config.unknown ≡ Drop → HoldsWhole stand → All (StaysWhole entry_without_unknown unknown) stand.log
log_whole stand unknown drops whole =
    whole_by entry_without_unknown unknown stand.log (subst (λ u. All (StaysWhole entry_without_unknown u) stand.log) drops whole.log)

module _ (w v : World) (place now : ℕ) (r : Replica) (s : InstanceState) (frame : Frame) (same : w ≡ v) (is : IsWorld w) (found : replica_at w place ≡ Some r) (stand : r.stand ≡ s)
    (runs : OfMember v place (λ lent. lent.runs ≡ true)) (frame_is : frame ≡ Pull (whole_state s.silences s.log)) where
  running : r.runs ≡ true
  running = runs r (subst (λ u. replica_at u place ≡ Some r) same found)

  -- what a frame of its maps brings to one of the runs
  pub lent_in : {K X : Type 0} (run : RunOf K X) → (IsMember w place r → IsTiedIn run w place r) →
      ((member_in run w place).runs ≡ true → HasGoneThrough run.state (member_in run w place).past (run.state.kept s) →
      AreFrom run.state.seen run.state.cmp (length w.replicas) (run.steps w) now (Lent place) (run.state.versions_in (carries Drop (Pull (whole_state s.silences s.log))))) →
      AreFrom run.state.seen run.state.cmp (length v.replicas) (run.steps v) now (Lent place) (run.state.versions_in (carries Drop frame))
  lent_in run tied_in law =
      let tied = tied_in (is.members place r found) in
      subst (λ u. AreFrom run.state.seen run.state.cmp (length u.replicas) (run.steps u) now (Lent place) (run.state.versions_in (carries Drop frame))) same
      (subst (λ f. AreFrom run.state.seen run.state.cmp (length w.replicas) (run.steps w) now (Lent place) (run.state.versions_in (carries Drop f))) (sym frame_is)
      (law (tied.runs ∙ running)
      (subst (λ t. HasGoneThrough run.state (member_in run w place).past (run.state.kept t)) stand tied.held)))

pub lendable : (w v : World) (place : ℕ) (r : Replica) (s : InstanceState) → w ≡ v → replica_at w place ≡ Some r → r.stand ≡ s → CanLend s → OfMember v place (λ lent. CanLend lent.stand)
lendable w v place r s same found stand can = for_replica (λ u lent. CanLend lent.stand) w v place r same found (subst CanLend (sym stand) can)
