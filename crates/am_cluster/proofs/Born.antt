-- A cluster in which nothing happened yet.
use Rattle.std.proofs.Common.{◌≡◌, inl, inr, ℕ, ◌+◌, ◌<◌, Bool, true, List, [], ◌∷◌, ◌++◌, map, get_or, length, Result, Ok, Err, Some, None, slice_get, ltb, refl, sym, ap, ◌∙◌, subst, arith}
use Rattle.std.specs.Prelude.{◌↔◌, Any, Contains, IsPermutation}
use Rattle.std.proofs.lemmas.Bool.Decides.{nat_tests}
use Rattle.std.specs.List.{range_with_len}
use Rattle.std.proofs.lemmas.List.FromFn.{get_or-map-range_with_len, length-map-range_with_len, map-range_with_len_more}
use Rattle.std.proofs.lemmas.List.Sorted.{Contains-permutation, IsPermutation-sym, IsPermutation-to_front, IsPermutation-trans, length_permutation}
use Rattle.std.proofs.lemmas.Option.{get_or_from_slice_get, slice_get_cases}
use Rattle.am_silence.specs.Mesh.{Mesh}
use Rattle.am_nflog.specs.Mesh.{Mesh as LogMesh}
use Rattle.std.proofs.lemmas.List.Elements.{All-nil}
use Rattle.am_wire.specs.declared.unknown.Unknown.TheVariants.{Drop}
use Rattle.am_matcher.specs.declared.dialect.Dialect.TheVariants.{Regex}
use Rattle.am_instance.specs.Configs.{HasTwice, IsEmptyName, IsLongName, Settings}
use Rattle.am_instance.specs.InstanceStates.{InstanceState}
use Rattle.am_runs.specs.Steps.{RunStep}
use Rattle.am_runs.specs.Members.{member_of}
use Rattle.am_cluster.specs.BothStates.{StateOf, log_state, silence_state}
use Rattle.am_cluster.specs.declared.flight.Flight.{Flight}
use Rattle.am_cluster.specs.Worlds.{Replica}
use Rattle.am_cluster.specs.Beginnings.{AreUnborn, newborn, newborns}
use Rattle.am_cluster.specs.Ties.{IsTied, IsMember, IsWorld, names_of}

-- a place at which something stands is within the list
got_within : {A : Type 0} (xs : List A) (n : ℕ) (x : A) → slice_get xs n ≡ Some x → ltb n (length xs) ≡ true
got_within xs n x e = elim ((slice_get_cases xs n).1) [ inl is ↦ let less = is.1 in grind (arith, nat_tests, less) | inr past ↦ absurd (no past.1) ] where
  no : slice_get xs n ≡ None → ⊥
  no none = cc

-- one state of a member that was just born
born_tied : {K X : Type 0} (state : StateOf K X) (members q : ℕ) → ltb q members ≡ true → IsTied state (member_of {X = X} members q []) true (record { held = []; last = 0 }) []
born_tied state members q inside = record {
  runs = inside;
  held = record { map = λ key. refl; last = refl };
  saved = λ key. refl;
}

born_names : (replicas : List Replica) (q : ℕ) (replica : Replica) (settings : Settings) → slice_get replicas q ≡ Some replica →
    ((place : ℕ) (other : Replica) → slice_get replicas place ≡ Some other → other ≡ newborn settings place) → settings.members ≡ names_of (slice_get replicas 0)
born_names [] q replica settings there each = absurd cc
born_names (first ∷ others) q replica settings there each = sym (ap (λ r. r.stand.config.members) (each 0 first refl))

born_member : (replicas : List Replica) (q room : ℕ) (settings : Settings) → ltb q (length replicas) ≡ true → length settings.members ≡ length replicas →
    settings.members ≡ names_of (slice_get replicas 0) → settings.unknown ≡ Drop →
    IsMember (record { replicas = replicas; silences = []; log = []; lines = []; flights = []; room = room }) q (newborn settings q)
born_member replicas q room settings inside members names unknown = record {
  silences = born_tied silence_state (length replicas) q inside;
  log = born_tied log_state (length replicas) q inside;
  place = refl;
  members = members;
  names = names;
  unknown = unknown;
  whole = record { silences = All-nil _; log = All-nil _ };
  saved_whole = record { silences = All-nil _; log = All-nil _ };
}

born_here : (replicas : List Replica) (room : ℕ) → AreUnborn replicas → IsWorld (record { replicas = replicas; silences = []; log = []; lines = []; flights = []; room = room })
born_here replicas room are = record {
  members = λ q replica there.
      subst (IsMember (record { replicas = replicas; silences = []; log = []; lines = []; flights = []; room = room }) q) (sym (are.3 q replica there))
      (born_member replicas q room are.0 (got_within replicas q replica there) are.2 (born_names replicas q replica are.0 there are.3) are.1);
  flights = λ flight there. absurd (nothing flight there);
  numbers = tt;
} where
  nothing : (flight : Flight) → Contains [] flight → ⊥
  nothing flight there = omega (arith, there.1)

pub world_born : (replicas : List Replica) (ss : List (RunStep Mesh)) (ls : List (RunStep LogMesh)) (ns : List ℕ) (fs : List Flight) (room : ℕ) → AreUnborn replicas → ss ≡ [] → ls ≡ [] → ns ≡ [] → fs ≡ [] →
    IsWorld (record { replicas = replicas; silences = ss; log = ls; lines = ns; flights = fs; room = room })
world_born replicas ss ls ns fs room are no_s no_l no_n no_f = rw (no_s, no_l, no_n, no_f) (born_here replicas room are)

replica_is : (s t : InstanceState) (a b : Bool) (xs ys : List Mesh) (us vs : List LogMesh) → s ≡ t → a ≡ b → xs ≡ ys → us ≡ vs →
    ◌≡◌ {A = Replica} (record { stand = s; runs = a; saved_silences = xs; saved_log = us }) (record { stand = t; runs = b; saved_silences = ys; saved_log = vs })
replica_is s t a b xs ys us vs e f g h = cc

-- one member more, which is as each member begins
pub born_more : (settings own : Settings) (place : ℕ) (r : Replica) (old new : List Replica) → old ≡ map (newborn settings) (range_with_len 0 place) → own ≡ record settings { place = place } →
    r.stand ≡ record { config = own; silences = []; log = []; last = 0 } → r.runs ≡ true → r.saved_silences ≡ [] → r.saved_log ≡ [] → new ≡ old ++ r ∷ [] → new ≡ map (newborn settings) (range_with_len 0 (place + 1))
born_more settings own place r old new before config stand runs silences log pushed =
    let one : r ≡ newborn settings place = replica_is r.stand _ r.runs _ r.saved_silences _ r.saved_log _ (stand ∙ ap (λ (c : Settings). with_config c) config) runs silences log in
    pushed ∙ (ap (λ x. x ++ r ∷ []) before ∙ (ap (λ x. map (newborn settings) (range_with_len 0 place) ++ x ∷ []) one ∙ sym (map-range_with_len_more (newborn settings) 0 place place (omega arith))))
  where
    with_config : Settings → InstanceState
    with_config c = record { config = c; silences = []; log = []; last = 0 }

-- the members of a configuration are as a cluster begins with them
pub unborn : (settings : Settings) (members : List Replica) → settings.unknown ≡ Drop → members ≡ newborns settings → AreUnborn members
unborn settings members drops born = (settings, drops, sym count, λ place replica there. sym (get_or_from_slice_get members place replica replica there) ∙ (ap (λ ms. get_or ms place replica) born ∙ one place replica there)) where
  count : length members ≡ length settings.members
  count = ap length born ∙ length-map-range_with_len (newborn settings) 0 (length settings.members)

  within : (place : ℕ) (replica : Replica) → slice_get members place ≡ Some replica → place < length members
  within place replica there = elim ((slice_get_cases members place).1) [ inl is ↦ is.1 | inr past ↦ absurd (no (sym past.1 ∙ there)) ] where
    no : None ≡ Some replica → ⊥
    no e = cc

  one : (place : ℕ) (replica : Replica) → slice_get members place ≡ Some replica → get_or (newborns settings) place replica ≡ newborn settings place
  one place replica there =
      let less = within place replica there in get_or-map-range_with_len (newborn settings) 0 (length settings.members) place place replica (omega (arith, count, less)) (omega arith)

-- where there is none, too
pub none_unborn : (members : List Replica) → members ≡ [] → AreUnborn members
none_unborn members none = subst AreUnborn (sym none) (record { members = []; place = 0; retention = 0; peer_timeout = 0; dialect = Regex; unknown = Drop }, refl, refl, λ place replica there. absurd cc)

-- they are told by all of it but its own place
pub newborns_are : (s : Settings) (retention peer_timeout : ℕ) → s.retention ≡ retention → s.peer_timeout ≡ peer_timeout → s.dialect ≡ Regex → s.unknown ≡ Drop →
    newborns s ≡ newborns (record { members = s.members; place = 0; retention = retention; peer_timeout = peer_timeout; dialect = Regex; unknown = Drop })
newborns_are s retention peer_timeout a b d u =
    ap (λ x. newborns (record { members = s.members; place = 0; retention = x; peer_timeout = s.peer_timeout; dialect = s.dialect; unknown = s.unknown })) a
    ∙ ap (λ y. newborns (record { members = s.members; place = 0; retention = retention; peer_timeout = y; dialect = s.dialect; unknown = s.unknown })) b
    ∙ ap (λ z. newborns (record { members = s.members; place = 0; retention = retention; peer_timeout = peer_timeout; dialect = z; unknown = s.unknown })) d
    ∙ ap (λ x. newborns (record { members = s.members; place = 0; retention = retention; peer_timeout = peer_timeout; dialect = Regex; unknown = x })) u

any_moved : (P : List ℕ → Type 0) (xs ys : List (List ℕ)) → IsPermutation xs ys → Any P xs → Any P ys
any_moved P xs ys moved any = let there = Contains-permutation xs ys any.1 moved (any.0, any.2, any.3) in (there.0, any.1, there.1, there.2, any.4)

twice_moved : (xs ys : List (List ℕ)) → IsPermutation xs ys → HasTwice xs → HasTwice ys
twice_moved xs ys moved twice = record { name = twice.name; rest = twice.rest; among = IsPermutation-trans ys xs (twice.name ∷ twice.name ∷ twice.rest) (IsPermutation-sym xs ys moved) twice.among }

pub twice_long : (xs : List (List ℕ)) → HasTwice xs → 0 < length xs
twice_long xs twice = let e : length (twice.name ∷ twice.name ∷ twice.rest) ≡ length xs = length_permutation xs (twice.name ∷ twice.name ∷ twice.rest) twice.among in omega (arith, e)

-- what is told of the last one of some names and of the others is told of all of them
module _ (names peers : List (List ℕ)) (name : List ℕ) (parts : names ≡ peers ++ name ∷ []) where
  pub to_front : IsPermutation names (name ∷ peers)
  to_front = subst (λ xs. IsPermutation xs (name ∷ peers)) (sym parts) (IsPermutation-to_front peers name)

  back : IsPermutation (name ∷ peers) names
  back = IsPermutation-sym names (name ∷ peers) to_front

  pub empty_told : (A B : Type 0) → (A → B) → (B → A) → A ↔ Any IsEmptyName (name ∷ peers) → B ↔ Any IsEmptyName names
  empty_told A B to from told = (λ b. any_moved IsEmptyName _ _ back (told.0 (from b)), λ any. to (told.1 (any_moved IsEmptyName _ _ to_front any)))

  pub long_told : (A B : Type 0) → (A → B) → (B → A) → A ↔ (¬ Any IsEmptyName (name ∷ peers)) × Any IsLongName (name ∷ peers) → B ↔ (¬ Any IsEmptyName names) × Any IsLongName names
  long_told A B to from told = (
    λ b. let is = told.0 (from b) in (λ any. is.0 (any_moved IsEmptyName _ _ to_front any), any_moved IsLongName _ _ back is.1),
    λ is. to (told.1 (λ any. is.0 (any_moved IsEmptyName _ _ back any), any_moved IsLongName _ _ to_front is.1)),
  )

  pub same_told : (A B : Type 0) → (A → B) → (B → A) → A ↔ (¬ Any IsEmptyName (name ∷ peers)) × (¬ Any IsLongName (name ∷ peers)) × HasTwice (name ∷ peers) →
      B ↔ (¬ Any IsEmptyName names) × (¬ Any IsLongName names) × HasTwice names
  same_told A B to from told = (
    λ b. let is = told.0 (from b) in (λ any. is.0 (any_moved IsEmptyName _ _ to_front any), λ any. is.1 (any_moved IsLongName _ _ to_front any), twice_moved _ _ back is.2),
    λ is. to (told.1 (λ any. is.0 (any_moved IsEmptyName _ _ back any), λ any. is.1 (any_moved IsLongName _ _ back any), twice_moved _ _ to_front is.2)),
  )

module _ {T E : Type 0} where
  pub no_error : (x : T) (e : E) → ◌≡◌ {A = Result T E} (Ok x) (Err e) → ⊥
  no_error x e same = cc

  pub other_error : (d e : E) → (d ≡ e → ⊥) → ◌≡◌ {A = Result T E} (Err d) (Err e) → ⊥
  other_error d e apart same = let inner : d ≡ e = cc in apart inner

pub err_moved : {T U E : Type 0} (given error : E) → ◌≡◌ {A = Result T E} (Err given) (Err error) → ◌≡◌ {A = Result U E} (Err given) (Err error)
err_moved given error same = let inner : given ≡ error = cc in ap Err inner
