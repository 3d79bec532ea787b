-- A cluster after a member was saved, stopped or started.
use Rattle.std.proofs.Common.{◌≡◌, ◌≢◌, inl, inr, ℕ, zero, suc, ◌-◌, ◌<◌, ◌≤◌, max, arith, Bool, true, false, eqb, List, [], ◌∷◌, ◌++◌, Some, refl, sym, ap, ◌∙◌, subst, slice_get, slice_index_or, length}
use Rattle.std.specs.Ordering.{is_lt, nat_cmp}
use Rattle.std.proofs.lemmas.Bool.Decides.{eqb_tells, nat_tests}
use Rattle.std.proofs.lemmas.Option.{slice_get-get_or}
use Rattle.am_silence.specs.Mesh.{Mesh}
use Rattle.am_nflog.specs.Mesh.{Mesh as LogMesh}
use Rattle.am_instance.specs.InstanceStates.{InstanceState, kept_silences, kept_log}
use Rattle.am_runs.specs.Steps.{RunStep}
use Rattle.am_runs.specs.Steps.RunStep.{Saved, Stopped, Started}
use Rattle.am_runs.specs.Members.{last_of, member_of}
use Rattle.am_cluster.specs.BothStates.{log_state, silence_state}
use Rattle.am_cluster.specs.Accounts.{Account}
use Rattle.am_cluster.specs.Worlds.{Replica, World, replica_at, with_replica, written}
use Rattle.am_cluster.specs.declared.flight.Flight.{Flight}
use Rattle.am_cluster.specs.Lives.{saved, stopped, started, OfMember}
use Rattle.am_cluster.specs.BothRuns.{log_run, silence_run}
use Rattle.am_cluster.specs.Ties.{IsTiedIn, IsWorld}
use Rattle.am_cluster.proofs.Places.{own_place, some_is}
use Rattle.am_cluster.proofs.Tied.{tied_here, tied_saved, tied_stopped, tied_started}
use Rattle.am_cluster.proofs.Goes.{goes_on_at}

-- the member that stands at a place is the one that is read there
pub found_at : (replicas : List Replica) (place : ℕ) (r : Replica) → place < length replicas → r ≡ slice_index_or replicas place r → slice_get replicas place ≡ Some r
found_at replicas place r inside is = slice_get-get_or replicas place r inside ∙ ap (λ x. Some x) (sym is)

-- a place within a cluster that is seen in two ways
pub inside : (v w : World) (place : ℕ) → v ≡ w → place < length w.replicas → place < length v.replicas
inside v w place same less = subst (λ x. place < length x.replicas) (sym same) less

pub elsewhere : (place q : ℕ) → place ≢ q → eqb place q ≡ false
elsewhere place q other = elim (eqb_tells place q) [ inl same ↦ absurd (other same.1) | inr apart ↦ apart.0 ]

module _ (w : World) (place : ℕ) (r : Replica) (line : ℕ) (is : IsWorld w) (found : replica_at w place ≡ Some r) where
  silences_tied : IsTiedIn silence_run w place r
  silences_tied = (is.members place r found).silences

  log_tied : IsTiedIn log_run w place r
  log_tied = (is.members place r found).log

  pub world_saved : IsWorld (written (with_replica w place (saved r)) (Saved place) (Saved place) line)
  world_saved = goes_on_at w place r (saved r) (Saved place) (Saved place) line is found (elsewhere place) (elsewhere place)
      (tied_here silence_state (length w.replicas) place w.silences (Saved place) r.runs (kept_silences r.stand) r.stand.silences (own_place place) (tied_saved silence_state _ place 0 r.runs (kept_silences r.stand) r.saved_silences silences_tied))
      (tied_here log_state (length w.replicas) place w.log (Saved place) r.runs (kept_log r.stand) r.stand.log (own_place place) (tied_saved log_state _ place 0 r.runs (kept_log r.stand) r.saved_log log_tied))
      refl (is.members place r found).whole (record { silences = (is.members place r found).whole.silences; log = (is.members place r found).whole.log })

  pub world_stopped : IsWorld (written (with_replica w place (stopped r)) (Stopped place) (Stopped place) line)
  world_stopped = goes_on_at w place r (stopped r) (Stopped place) (Stopped place) line is found (elsewhere place) (elsewhere place)
      (tied_here silence_state (length w.replicas) place w.silences (Stopped place) false (kept_silences r.stand) r.saved_silences (own_place place) (tied_stopped silence_state _ place 0 r.runs (kept_silences r.stand) r.saved_silences silences_tied))
      (tied_here log_state (length w.replicas) place w.log (Stopped place) false (kept_log r.stand) r.saved_log (own_place place) (tied_stopped log_state _ place 0 r.runs (kept_log r.stand) r.saved_log log_tied))
      refl (is.members place r found).whole (is.members place r found).saved_whole

  pub world_started : (now : ℕ) → IsWorld (written (with_replica w place (started r now)) (Started place now) (Started place now) line)
  world_started now = goes_on_at w place r (started r now) (Started place now) (Started place now) line is found (elsewhere place) (elsewhere place)
      (tied_here silence_state (length w.replicas) place w.silences (Started place now) true _ r.saved_silences (own_place place) (tied_started silence_state _ place now r.runs (kept_silences r.stand) r.saved_silences silences_tied))
      (tied_here log_state (length w.replicas) place w.log (Started place now) true _ r.saved_log (own_place place) (tied_started log_state _ place now r.runs (kept_log r.stand) r.saved_log log_tied))
      refl
      (record { silences = (is.members place r found).saved_whole.silences; log = (is.members place r found).saved_whole.log })
      (record { silences = (is.members place r found).saved_whole.silences; log = (is.members place r found).saved_whole.log })

pub same_world : (rs others : List Replica) (ss ss2 : List (RunStep Mesh)) (ls ls2 : List (RunStep LogMesh)) (ns ns2 : List ℕ) (fs : List Flight) (m m2 : ℕ) →
    rs ≡ others → ss ≡ ss2 → ls ≡ ls2 → ns ≡ ns2 → m ≡ m2 →
    ◌≡◌ {A = World} (record { replicas = rs; silences = ss; log = ls; lines = ns; flights = fs; room = m }) (record { replicas = others; silences = ss2; log = ls2; lines = ns2; flights = fs; room = m2 })
same_world rs others ss ss2 ls ls2 ns ns2 fs m m2 a b c d e = cc

-- one step takes some of the room, which is made where there is none
pub room_spent : (n : ℕ) → max n 1 - 1 ≡ n - 1
room_spent zero = refl
room_spent (suc n) = omega arith

-- a cluster once room was made in its journal, and a step written down
pub world_written : (rs others : List Replica) (fs : List Flight) (first roomy new : Account) (s : RunStep Mesh) (l : RunStep LogMesh) (line : ℕ) → rs ≡ others →
    roomy.silences ≡ first.silences → roomy.log ≡ first.log → roomy.lines ≡ first.lines → roomy.room ≡ max first.room 1 →
    new.silences ≡ roomy.silences ++ s ∷ [] → new.log ≡ roomy.log ++ l ∷ [] → new.lines ≡ roomy.lines ++ line ∷ [] → new.room ≡ roomy.room - 1 →
    ◌≡◌ {A = World} (record { replicas = rs; silences = new.silences; log = new.log; lines = new.lines; flights = fs; room = new.room })
    (written (record { replicas = others; silences = first.silences; log = first.log; lines = first.lines; flights = fs; room = first.room }) s l line)
world_written rs others fs first roomy new s l line members silences log lines room more_silences more_log more_lines spent =
    same_world rs others _ _ _ _ _ _ fs _ _ members
    (more_silences ∙ ap (λ x. x ++ s ∷ []) silences) (more_log ∙ ap (λ x. x ++ l ∷ []) log) (more_lines ∙ ap (λ x. x ++ line ∷ []) lines)
    (spent ∙ (ap (λ n. n - 1) room ∙ room_spent first.room))

-- a member with another instance runs
abbrev pub revive : Replica → InstanceState → Replica
revive m stand = record m { stand = stand; runs = true }

-- an instance with what was saved of a member makes it the one that was started
pub started_with : (m r n : Replica) (stand : InstanceState) (now : ℕ) → m ≡ r → stand ≡ (started r now).stand → n ≡ revive m stand → n ≡ started r now
started_with m r n stand now same is begun = begun ∙ (ap (λ x. revive x stand) same ∙ ap (revive r) is)

-- what is said of the member that was read at a place is said of any that stands there
pub for_replica : (P : World → Replica → Type 0) (w v : World) (place : ℕ) (r : Replica) → w ≡ v → replica_at w place ≡ Some r → P w r → OfMember v place (P v)
for_replica P w v place r same found holds = subst (λ u. OfMember u place (P u)) same (λ replica there. subst (P w) (some_is r replica (sym found ∙ there)) holds)

-- a place that is read twice
pub read_again : (replicas : List Replica) (place : ℕ) (r s : Replica) → place < length replicas → r ≡ slice_index_or replicas place r → s ≡ slice_index_or replicas place s → s ≡ r
read_again replicas place r s inside is also = some_is s r (sym (found_at replicas place s inside also) ∙ found_at replicas place r inside is)

-- what a member's run tells is what the member tells
pub runs_told : (w : World) (place : ℕ) (r : Replica) (n : ℕ) (ss : List (RunStep Mesh)) → IsWorld w → replica_at w place ≡ Some r → n ≡ length w.replicas → ss ≡ w.silences →
    (running : Bool) → r.runs ≡ running → (member_of n place ss).runs ≡ running
runs_told w place r n ss is found members silences running runs =
    subst (λ x. (member_of x place ss).runs ≡ running) (sym members)
    (subst (λ x. (member_of (length w.replicas) place x).runs ≡ running) (sym silences) ((is.members place r found).silences.runs ∙ runs))

pub answered : (f : World → Replica → World) (w v n : World) (place : ℕ) (r : Replica) (running : Bool) → w ≡ v → replica_at w place ≡ Some r → r.runs ≡ running → n ≡ f w r →
    OfMember v place (λ replica. (replica.runs ≡ running) × (n ≡ f v replica))
answered f w v n place r running same found runs is = for_replica (λ u replica. (replica.runs ≡ running) × (n ≡ f u replica)) w v place r same found (runs, is)

pub changed : (f : World → Replica → World) (w v n : World) (place : ℕ) (r : Replica) → w ≡ v → replica_at w place ≡ Some r → n ≡ f w r → OfMember v place (λ replica. n ≡ f v replica)
changed f w v n place r same found is = for_replica (λ u replica. n ≡ f u replica) w v place r same found is

-- and the member's last moment is that of its run
pub last_told : (w : World) (place : ℕ) (r : Replica) (n : ℕ) (ss : List (RunStep Mesh)) → IsWorld w → replica_at w place ≡ Some r → n ≡ length w.replicas → ss ≡ w.silences → r.stand.last ≡ last_of (member_of n place ss)
last_told w place r n ss is found members silences =
    subst (λ x. r.stand.last ≡ last_of (member_of x place ss)) (sym members)
    (subst (λ x. r.stand.last ≡ last_of (member_of (length w.replicas) place x)) (sym silences) ((is.members place r found).silences.held.last))

-- what a comparison of two moments tells
pub told_less : (a b : ℕ) (t : Bool) → t ≡ is_lt (nat_cmp a b) → t ≡ true → a < b
told_less a b t is holds = let told : is_lt (nat_cmp a b) ≡ true = sym is ∙ holds in grind (arith, nat_tests, told)

pub told_not : (a b : ℕ) (t : Bool) → t ≡ is_lt (nat_cmp a b) → t ≡ false → b ≤ a
told_not a b t is fails = let told : is_lt (nat_cmp a b) ≡ false = sym is ∙ fails in grind (arith, nat_tests, told)

-- room changes nothing else of a cluster
pub roomy_world : (w : World) (n : ℕ) → IsWorld w → IsWorld (record w { room = n })
roomy_world w n is = record {
  members = λ q replica there. let m = is.members q replica there in record { silences = m.silences; log = m.log; place = m.place; members = m.members; names = m.names; unknown = m.unknown; whole = m.whole; saved_whole = m.saved_whole };
  flights = λ flight there. let f = is.flights flight there in record {
    index = f.index;
    number = f.number;
    handed = f.handed;
    silences = f.silences;
    log = f.log;
    sound = f.sound;
    addressee = f.addressee;
    sender = f.sender;
    other = f.other;
  };
  numbers = is.numbers;
}
