-- A cluster hangs together as steps go on.
use Rattle.am_wire.specs.declared.unknown.Unknown.TheVariants.{Drop}
use Rattle.std.proofs.Common.{◌≡◌, ◌≢◌, ◌⊎◌, inl, inr, ℕ, zero, suc, ◌+◌, ◌<◌, true, false, eqb, List, [], ◌∷◌, ◌++◌, Some, refl, sym, ap, ◌∙◌, subst, append_assoc, slice_get, length, set, arith}
use Rattle.std.proofs.lemmas.Bool.Decides.{eqb_tells}
use Rattle.std.proofs.lemmas.Grind.{flat_map-append}
use Rattle.am_silence.specs.Mesh.{Mesh}
use Rattle.am_nflog.specs.Mesh.{Mesh as LogMesh}
use Rattle.am_instance.specs.InstanceStates.{HoldsWhole, kept_silences, kept_log}
use Rattle.am_runs.specs.Steps.{RunStep, flights_by, flights_of, is_at}
use Rattle.am_runs.specs.Members.{Member, stepped, member_of}
use Rattle.am_cluster.specs.BothStates.{StateOf, log_state, silence_state}
use Rattle.am_cluster.specs.Contents.{carries}
use Rattle.am_cluster.specs.Recorded.{HasGoneThrough}
use Rattle.am_cluster.specs.declared.flight.Flight.{Flight}
use Rattle.am_cluster.specs.Worlds.{Replica, World, replica_at, with_replica, written}
use Rattle.am_cluster.specs.Ties.{IsTied, IsMember, IsFlying, IsWorld, WasHandedOut, WasSent, names_of, saved_stand}
use Rattle.am_cluster.proofs.Places.{got_before, got_set, got_other, set_length, some_is}
use Rattle.am_cluster.proofs.Tied.{tied_elsewhere, tied_idle}

-- the sending at a number among those before and those that are sent now
got_behind : {A : Type 0} (xs ys : List A) (n : ℕ) (y : A) → slice_get ys n ≡ Some y → slice_get (xs ++ ys) (length xs + n) ≡ Some y
got_behind [] ys n y e = ap (slice_get ys) (omega arith) ∙ e
got_behind (x ∷ xs) ys n y e = let more : length (x ∷ xs) + n ≡ suc (length xs + n) = omega arith in ap (slice_get ((x ∷ xs) ++ ys)) more ∙ got_behind xs ys n y e

-- a frame that was sent stands at its place among all that were
pub sent_there : {K X : Type 0} (state : StateOf K X) (members : ℕ) (steps : List (RunStep X)) (index : ℕ) (flight : Flight) (handed : WasHandedOut flight) → WasSent state members steps index flight handed →
    slice_get (flights_of steps) index ≡ Some (record { sent = flight.sent; versions = state.versions_in (carries Drop flight.frame) })
sent_there state members steps index flight handed was =
    ap (λ ss. slice_get (flights_of ss) index) was.parts
    ∙ (ap (λ fs. slice_get fs index) (flat_map-append flights_by was.before (was.step ∷ was.rest))
    ∙ (ap (λ n. slice_get (flights_of was.before ++ (flights_by was.step ++ flights_of was.rest)) n) was.index_is
    ∙ got_behind (flights_of was.before) (flights_by was.step ++ flights_of was.rest) handed.nth _ (got_before (flights_by was.step) (flights_of was.rest) handed.nth _ was.sent)))

-- a frame that flew still does after a step more
still_sent : {K X : Type 0} (state : StateOf K X) (members more : ℕ) (same : more ≡ members) (steps : List (RunStep X)) (s : RunStep X) (index : ℕ) (flight : Flight) (handed : WasHandedOut flight) →
    WasSent state members steps index flight handed → WasSent state more (steps ++ s ∷ []) index flight handed
still_sent state members more same steps s index flight handed was = record {
  before = was.before;
  step = was.step;
  rest = was.rest ++ s ∷ [];
  parts = ap (λ ss. ss ++ s ∷ []) was.parts ∙ append_assoc was.before (was.step ∷ was.rest) (s ∷ []);
  stood = subst (λ n. HasGoneThrough state (member_of n flight.sender was.before).past (state.kept handed.stand)) (sym same) was.stood;
  is = was.is;
  own = was.own;
  index_is = was.index_is;
  sent = was.sent;
}

module _ (old : World) (s : RunStep Mesh) (l : RunStep LogMesh) (line : ℕ) where
  pub still_flying : (replicas : List Replica) (flight : Flight) → length replicas ≡ length old.replicas → IsFlying old flight →
      IsFlying (written (record old { replicas = replicas }) s l line) flight
  still_flying replicas flight same f = record {
    index = f.index;
    number = f.number;
    handed = f.handed;
    silences = still_sent silence_state (length old.replicas) (length replicas) same old.silences s f.index flight f.handed f.silences;
    log = still_sent log_state (length old.replicas) (length replicas) same old.log l f.index flight f.handed f.log;
    sound = f.sound;
    addressee = subst (λ n. flight.addressee < n) (sym same) f.addressee;
    sender = subst (λ n. flight.sender < n) (sym same) f.sender;
    other = f.other;
  }

-- all names stay where one member changes and keeps those that it knows
names_kept : (replicas : List Replica) (place : ℕ) (was will : Replica) → slice_get replicas place ≡ Some was → will.stand.config ≡ was.stand.config →
    names_of (slice_get (set replicas place will) 0) ≡ names_of (slice_get replicas 0)
names_kept [] place was will found config = refl
names_kept (r ∷ rs) zero was will found config = ap (λ c. c.members) config ∙ ap (λ x. x.stand.config.members) (sym (some_is r was found))
names_kept (r ∷ rs) (suc place) was will found config = refl

-- one member changes, and what is written down of it agrees
module _ (old : World) (place : ℕ) (was will : Replica) (s : RunStep Mesh) (l : RunStep LogMesh) (line : ℕ) where
  abbrev pub changed_at : World
  changed_at = written (with_replica old place will) s l line

  same_length : length (set old.replicas place will) ≡ length old.replicas
  same_length = set_length old.replicas place will

  elsewhere : (q : ℕ) (replica : Replica) → is_at q s ≡ false → is_at q l ≡ false → names_of (slice_get (set old.replicas place will) 0) ≡ names_of (slice_get old.replicas 0) →
      IsMember old q replica → IsMember changed_at q replica
  elsewhere q replica not_s not_l names is = record {
    silences = subst (λ n. IsTied silence_state (member_of n q (old.silences ++ s ∷ [])) replica.runs (kept_silences replica.stand) replica.saved_silences) (sym same_length)
        (tied_elsewhere silence_state (length old.replicas) q old.silences s replica.runs (kept_silences replica.stand) replica.saved_silences not_s is.silences);
    log = subst (λ n. IsTied log_state (member_of n q (old.log ++ l ∷ [])) replica.runs (kept_log replica.stand) replica.saved_log) (sym same_length)
        (tied_elsewhere log_state (length old.replicas) q old.log l replica.runs (kept_log replica.stand) replica.saved_log not_l is.log);
    place = is.place;
    members = is.members ∙ sym same_length;
    names = is.names ∙ sym names;
    unknown = is.unknown;
    whole = is.whole;
    saved_whole = is.saved_whole;
  }

  pub goes_on_at : IsWorld old → replica_at old place ≡ Some was →
      ((q : ℕ) → place ≢ q → is_at q s ≡ false) → ((q : ℕ) → place ≢ q → is_at q l ≡ false) →
      IsTied silence_state (member_of (length old.replicas) place (old.silences ++ s ∷ [])) will.runs (kept_silences will.stand) will.saved_silences →
      IsTied log_state (member_of (length old.replicas) place (old.log ++ l ∷ [])) will.runs (kept_log will.stand) will.saved_log →
      will.stand.config ≡ was.stand.config → HoldsWhole will.stand → HoldsWhole (saved_stand will) → IsWorld changed_at
  goes_on_at is found not_s not_l silences log config whole saved_whole = record {
    members = λ q replica there. member q replica there (eqb_tells place q);
    flights = λ flight there. still_flying old s l line (set old.replicas place will) flight same_length (is.flights flight there);
    numbers = is.numbers;
  } where
    names : names_of (slice_get (set old.replicas place will) 0) ≡ names_of (slice_get old.replicas 0)
    names = names_kept old.replicas place was will found config

    here : IsMember changed_at place will
    here = record {
      silences = subst (λ n. IsTied silence_state (member_of n place (old.silences ++ s ∷ [])) will.runs (kept_silences will.stand) will.saved_silences) (sym same_length) silences;
      log = subst (λ n. IsTied log_state (member_of n place (old.log ++ l ∷ [])) will.runs (kept_log will.stand) will.saved_log) (sym same_length) log;
      place = ap (λ c. c.place) config ∙ (is.members place was found).place;
      members = ap (λ c. length c.members) config ∙ ((is.members place was found).members ∙ sym same_length);
      names = ap (λ c. c.members) config ∙ ((is.members place was found).names ∙ sym names);
      unknown = ap (λ c. c.unknown) config ∙ (is.members place was found).unknown;
      whole = whole;
      saved_whole = saved_whole;
    }

    member : (q : ℕ) (replica : Replica) → replica_at changed_at q ≡ Some replica → ((eqb place q ≡ true) × (place ≡ q)) ⊎ ((eqb place q ≡ false) × (place ≢ q)) → IsMember changed_at q replica
    member q replica there (inl own) =
        subst (λ p. IsMember changed_at p replica) own.1
        (subst (λ r. IsMember changed_at place r) (some_is will replica (sym (got_set old.replicas place will was found) ∙ subst (λ p. slice_get (set old.replicas place will) p ≡ Some replica) (sym own.1) there)) here)
    member q replica there (inr other) =
        elsewhere q replica (not_s q other.1) (not_l q other.1) names
        (is.members q replica (sym (got_other old.replicas place q will other.1) ∙ there))

-- no member changes
module _ (old : World) (s : RunStep Mesh) (l : RunStep LogMesh) (line : ℕ) where
  pub goes_on_idle : ((m : Member Mesh) → stepped m s ≡ m) → ((m : Member LogMesh) → stepped m l ≡ m) → IsWorld old → IsWorld (written old s l line)
  goes_on_idle idle_s idle_l is = record {
    members = λ q replica there. let m = is.members q replica there in record {
      silences = tied_idle silence_state (length old.replicas) q old.silences s replica.runs (kept_silences replica.stand) replica.saved_silences (idle_s _) m.silences;
      log = tied_idle log_state (length old.replicas) q old.log l replica.runs (kept_log replica.stand) replica.saved_log (idle_l _) m.log;
      place = m.place;
      members = m.members;
      names = m.names;
      unknown = m.unknown;
      whole = m.whole;
      saved_whole = m.saved_whole;
    };
    flights = λ flight there. still_flying old s l line old.replicas flight refl (is.flights flight there);
    numbers = is.numbers;
  }
