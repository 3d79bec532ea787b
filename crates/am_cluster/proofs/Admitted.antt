-- The conditions of a settle, and the records of one that is refused.
use Rattle.std.proofs.Common.{◌≡◌, ℕ, zero, suc, ◌+◌, ◌-◌, max, length-append, ◌<◌, ◌≤◌, Bool, true, false, cond, eqb, ltb, List, [], ◌∷◌, ◌++◌, Some, Result, Ok, Err, refl, sym, ap, ◌∙◌, subst, slice_get, length, map, arith, append_assoc, append-nil, inl, inr}
use Rattle.std.specs.Prelude.{Any, filter}
use Rattle.std.specs.List.{range_with_len}
use Rattle.std.proofs.lemmas.Bool.{eqb-true, lt-ltb}
use Rattle.std.proofs.lemmas.Bool.Decides.{nat_tests}
use Rattle.std.proofs.lemmas.List.{map_push}
use Rattle.std.proofs.lemmas.List.Elements.{filter-append}
use Rattle.std.proofs.lemmas.Option.{slice_get-get_or, slice_get_within}
use Rattle.am_runs.specs.Steps.{RunStep}
use Rattle.am_runs.specs.Steps.RunStep.{Back, Refused}
use Rattle.am_runs.specs.Members.{last_of, member_of}
use Rattle.am_runs.proofs.Pasts.{member_of-push}
use Rattle.am_cluster.specs.Accounts.{Account}
use Rattle.am_cluster.specs.declared.flight.Flight.{Flight}
use Rattle.am_cluster.specs.declared.error.SettleError.{SettleError}
use Rattle.am_cluster.specs.declared.error.SettleError.TheVariants as errors
use Rattle.am_cluster.specs.Worlds.{Replica, World, replica_at, with_room, written}
use Rattle.am_cluster.specs.Settling.{AreCutShort, AreTurns, CanSettle, HasBacks, HasLate, HasStopped, IsAdmitted, IsSettle, IsUnbegun, Turn, all_turns, begun, is_late, late_places, with_backs}
use Rattle.am_cluster.specs.Ties.{IsWorld}
use Rattle.am_cluster.proofs.Goes.{goes_on_idle}
use Rattle.am_cluster.proofs.Lived.{last_told, same_world}
use Rattle.am_cluster.proofs.Places.{some_is}
use Rattle.am_cluster.proofs.Tied.{same_where}

-- ---- steps that are refused

module _ {X : Type 0} where
  -- they make nothing of a member
  pub backs_idle : (members q now : ℕ) (places : List ℕ) (steps : List (RunStep X)) → member_of members q (steps ++ map (λ place. Back place now) places) ≡ member_of members q steps
  backs_idle members q now [] steps = ap (member_of members q) (append-nil steps)
  backs_idle members q now (place ∷ places) steps =
      ap (member_of members q) (sym (append_assoc steps (Back place now ∷ []) (map (λ p. Back p now) places)))
      ∙ (backs_idle members q now places (steps ++ Back place now ∷ [])
      ∙ (member_of-push members q steps (Back place now) ∙ same_where _ (member_of members q steps)))

one_more : (w : World) (place : ℕ) (places : List ℕ) (now line : ℕ) → with_backs (written w (Back place now) (Back place now) line) places now line ≡ with_backs w (place ∷ places) now line
one_more w place places now line = same_world w.replicas w.replicas _ _ _ _ _ _ w.flights _ _ refl
    (append_assoc w.silences (Back place now ∷ []) (map (λ p. Back p now) places))
    (append_assoc w.log (Back place now ∷ []) (map (λ p. Back p now) places))
    (append_assoc w.lines (line ∷ []) (map (λ p. line) places))
    (omega arith)

pub world_marked : (w : World) (places : List ℕ) (now line : ℕ) → IsWorld w → IsWorld (with_backs w places now line)
world_marked w [] now line is = subst IsWorld (sym nothing) is where
  nothing : with_backs w [] now line ≡ w
  nothing = same_world w.replicas w.replicas (w.silences ++ []) w.silences (w.log ++ []) w.log (w.lines ++ []) w.lines w.flights (w.room - 0) w.room refl (append-nil w.silences) (append-nil w.log) (append-nil w.lines) (omega arith)
world_marked w (place ∷ places) now line is = subst IsWorld (one_more w place places now line)
    (world_marked (written w (Back place now) (Back place now) line) places now line (goes_on_idle w (Back place now) (Back place now) line (λ m. refl) (λ m. refl) is))

-- ---- the members whose last moments are later

range_more : (a n j : ℕ) → a + n ≡ j → range_with_len a (suc n) ≡ range_with_len a n ++ j ∷ []
range_more a zero j e = let same : a ≡ j = omega (arith, e) in ap (λ x. x ∷ []) same
range_more a (suc n) j e = ap (λ xs. a ∷ xs) (range_more (a + 1) n j (omega (arith, e)))

-- of the first so many
abbrev pub late_among : List Replica → ℕ → ℕ → List ℕ
late_among replicas now count = filter (λ place. is_late now (slice_get replicas place)) (range_with_len 0 count)

late_next : (replicas : List Replica) (now place : ℕ) → late_among replicas now (place + 1) ≡ late_among replicas now place ++ cond (is_late now (slice_get replicas place)) (place ∷ []) []
late_next replicas now place =
    let on : place + 1 ≡ suc place = omega arith in
    ap (late_among replicas now) on ∙ (ap (filter (λ p. is_late now (slice_get replicas p))) (range_more 0 place place (omega arith))
    ∙ filter-append (λ p. is_late now (slice_get replicas p)) (range_with_len 0 place) (place ∷ []))

module _ (replicas : List Replica) (now place : ℕ) (r : Replica) (found : slice_get replicas place ≡ Some r) where
  late_is : (t : Bool) → ltb now r.stand.last ≡ t → late_among replicas now (place + 1) ≡ late_among replicas now place ++ cond t (place ∷ []) []
  late_is t is = late_next replicas now place ∙ ap (λ b. late_among replicas now place ++ cond b (place ∷ []) []) (ap (is_late now) found ∙ is)

  pub late_too : now < r.stand.last → late_among replicas now (place + 1) ≡ late_among replicas now place ++ place ∷ []
  late_too less = late_is true (lt-ltb now r.stand.last less)

  pub late_not : r.stand.last ≤ now → late_among replicas now (place + 1) ≡ late_among replicas now place
  late_not not_less = late_is false (grind (arith, nat_tests)) ∙ append-nil (late_among replicas now place)

-- none of them is told yet
pub none_marked : (account : Account) (now line : ℕ) → HasBacks account [] now line account
none_marked account now line = record { members = refl; silences = sym (append-nil account.silences); log = sym (append-nil account.log); lines = sym (append-nil account.lines); room = omega arith }

-- one that isn't late is passed over
pub none_more : (old new : Account) (places more : List ℕ) (now line : ℕ) → HasBacks old places now line new → more ≡ places → HasBacks old more now line new
none_more old new places more now line first same = subst (λ ps. HasBacks old ps now line new) (sym same) first

-- one more of them is told
pub one_marked : (old between new : Account) (places more : List ℕ) (place now line : ℕ) → HasBacks old places now line between → more ≡ places ++ place ∷ [] →
    new.members ≡ between.members → new.silences ≡ between.silences ++ Back place now ∷ [] → new.log ≡ between.log ++ Back place now ∷ [] → new.lines ≡ between.lines ++ line ∷ [] → new.room ≡ between.room - 1 →
    HasBacks old more now line new
one_marked old between new places more place now line first more_is members silences log lines room = subst (λ ps. HasBacks old ps now line new) (sym more_is) (record {
  members = members ∙ first.members;
  silences = silences ∙ (ap (λ x. x ++ Back place now ∷ []) first.silences ∙ (append_assoc old.silences (map (λ p. Back p now) places) (Back place now ∷ []) ∙ ap (λ x. old.silences ++ x) (sym (map_push (λ p. Back p now) places place))));
  log = log ∙ (ap (λ x. x ++ Back place now ∷ []) first.log ∙ (append_assoc old.log (map (λ p. Back p now) places) (Back place now ∷ []) ∙ ap (λ x. old.log ++ x) (sym (map_push (λ p. Back p now) places place))));
  lines = lines ∙ (ap (λ x. x ++ line ∷ []) first.lines ∙ (append_assoc old.lines (map (λ p. line) places) (line ∷ []) ∙ ap (λ x. old.lines ++ x) (sym (map_push (λ p. line) places place))));
  room = (let before : between.room ≡ old.room - length places = first.room in let more_are : length (places ++ place ∷ []) ≡ length places + 1 = length-append places (place ∷ []) in omega arith);
})

-- it can be told
pub can_be_back : (old between : Account) (places : List ℕ) (now line place last : ℕ) → HasBacks old places now line between → last ≡ last_of (member_of old.members place old.silences) → now < last →
    now < last_of (member_of between.members place between.silences)
can_be_back old between places now line place last first told less =
    subst (λ n. now < last_of (member_of n place between.silences)) (sym first.members)
    (subst (λ ss. now < last_of (member_of old.members place ss)) (sym first.silences)
    (subst (λ m. now < last_of m) (sym (backs_idle old.members place now places old.silences)) (subst (λ l. now < l) told less)))

-- ---- the members can settle

any_at : (P : Replica → Type 0) (replicas : List Replica) (place : ℕ) (r : Replica) → slice_get replicas place ≡ Some r → P r → Any P replicas
any_at P replicas place r found holds =
    let within = slice_get_within replicas place r found in
    (place, r, within, some_is _ r (sym (slice_get-get_or replicas place r within) ∙ found), holds)

runs_else : (b : Bool) → ¬ (b ≡ false) → b ≡ true
runs_else true not_false = refl
runs_else false not_false = absurd (not_false refl)

pub can_settle : (w : World) (now : ℕ) → ¬ HasStopped w.replicas → ¬ HasLate now w.replicas → CanSettle w now
can_settle w now none_stopped none_late = record {
  runs = λ place r found. runs_else r.runs (λ stopped. none_stopped (any_at (λ x. x.runs ≡ false) w.replicas place r found stopped));
  forward = λ place r found. not_after place r found (λ less. none_late (any_at (λ x. now < x.stand.last) w.replicas place r found less));
} where
  not_after : (place : ℕ) (r : Replica) → replica_at w place ≡ Some r → ¬ (now < r.stand.last) → r.stand.last ≤ now
  not_after place r found not_less = omega (arith, not_less)

-- what a test denies
pub not_so : (b : Bool) (P : Type 0) → (b ≡ true → P) × (P → b ≡ true) → b ≡ false → ¬ P
not_so b P says failed p = let holds : b ≡ true = says.1 p in cc

-- each member's last moment is that of its run
pub lasts_told : (w : World) (seen : List Replica) (account : Account) → IsWorld w → seen ≡ w.replicas → account.members ≡ length w.replicas → account.silences ≡ w.silences →
    (place : ℕ) (replica : Replica) → slice_get seen place ≡ Some replica → replica.stand.last ≡ last_of (member_of account.members place account.silences)
lasts_told w seen account is same members silences place replica found =
    last_told w place replica account.members account.silences is (subst (λ rs. slice_get rs place ≡ Some replica) same found) members silences

-- the world after the late members were told
pub marked_world : (rs seen : List Replica) (first roomy new : Account) (fs : List Flight) (now line : ℕ) → seen ≡ rs → roomy.silences ≡ first.silences → roomy.log ≡ first.log → roomy.lines ≡ first.lines →
    roomy.room ≡ max first.room (length rs) → HasBacks roomy (late_places seen now) now line new →
    ◌≡◌ {A = World} (record { replicas = rs; silences = new.silences; log = new.log; lines = new.lines; flights = fs; room = new.room })
    (with_backs (with_room (record { replicas = rs; silences = first.silences; log = first.log; lines = first.lines; flights = fs; room = first.room }) (length rs)) (late_places rs now) now line)
marked_world rs seen first roomy new fs now line same silences log lines room backs =
    subst (λ xs. ◌≡◌ {A = World} (record { replicas = rs; silences = new.silences; log = new.log; lines = new.lines; flights = fs; room = new.room })
    (with_backs (with_room (record { replicas = rs; silences = first.silences; log = first.log; lines = first.lines; flights = fs; room = first.room }) (length rs)) (late_places xs now) now line)) same
    (same_world rs rs new.silences _ new.log _ new.lines _ fs new.room _ refl
    (backs.silences ∙ ap (λ x. x ++ map (λ p. Back p now) (late_places seen now)) silences)
    (backs.log ∙ ap (λ x. x ++ map (λ p. Back p now) (late_places seen now)) log)
    (backs.lines ∙ ap (λ x. x ++ map (λ p. line) (late_places seen now)) lines)
    (backs.room ∙ ap (λ n. n - length (late_places seen now)) room))

-- ---- a settle begins

-- it changes no member
pub begun_members : (rs : List Replica) (w : World) (now line : ℕ) → (begun rs w now line).replicas ≡ w.replicas
begun_members [] w now line = refl
begun_members (r ∷ rs) w now line = refl

pub can_begun : (rs : List Replica) (w : World) (now line : ℕ) → CanSettle w now → CanSettle (begun rs w now line) now
can_begun [] w now line can = record { runs = can.runs; forward = can.forward }
can_begun (r ∷ rs) w now line can = can

begun_with_members : (rs : List Replica) (w : World) (now line : ℕ) → eqb (length rs) 0 ≡ false → begun rs w now line ≡ w
begun_with_members [] w now line some = absurd (let none : eqb 0 0 ≡ true = refl in cc)
begun_with_members (r ∷ rs) w now line some = refl

begun_alone : (rs : List Replica) (w : World) (now line : ℕ) → eqb (length rs) 0 ≡ true → begun rs w now line ≡ written w (Refused now) (Refused now) line
begun_alone [] w now line none = refl
begun_alone (r ∷ rs) w now line none = absurd (let some : length (r ∷ rs) ≡ 0 = eqb-true (length (r ∷ rs)) 0 none in omega (arith, some))

module _ (w n : World) (now line : ℕ) (run : ¬ HasStopped w.replicas) (none_late : ¬ HasLate now w.replicas) where
  let_in : n ≡ begun w.replicas w now line → CanSettle w now × (n ≡ begun w.replicas w now line)
  let_in is = (can_settle w now run none_late, is)

  pub let_in_with_members : eqb (length w.replicas) 0 ≡ false → n ≡ w → CanSettle w now × (n ≡ begun w.replicas w now line)
  let_in_with_members some is = let_in (is ∙ sym (begun_with_members w.replicas w now line some))

  pub let_in_alone : eqb (length w.replicas) 0 ≡ true → n ≡ written w (Refused now) (Refused now) line → CanSettle w now × (n ≡ begun w.replicas w now line)
  let_in_alone none is = let_in (is ∙ sym (begun_alone w.replicas w now line none))

-- there was no room for what is written down of it
some_member : (n m : ℕ) → m ≡ 0 → m < max 1 n
some_member zero m none = omega arith
some_member (suc n) m none = omega arith

below_all : (n m : ℕ) → m < n → m < max 1 n
below_all zero m less = omega arith
below_all (suc n) m less = omega arith

pub unbegun_without : (old new : World) → new ≡ old → old.room ≡ 0 → IsUnbegun old new
unbegun_without old new same none = record { world = same; without_room = some_member (length old.replicas) old.room none }

pub unbegun_late : (old new : World) → new ≡ old → old.room < length old.replicas → IsUnbegun old new
unbegun_late old new same less = record { world = same; without_room = below_all (length old.replicas) old.room less }

-- ---- the settle

-- where there are no turns none is cut short
none_cut : (old new : World) (now line : ℕ) → ¬ AreCutShort old [] now line new
none_cut old new now line cut = by cut.made cut.all where
  by : (made : List Turn) → ¬ ([] ≡ made ++ cut.turn ∷ cut.left)
  by [] all = cc
  by (turn ∷ turns) all = cc

cut_begun : (rs : List Replica) (old new : World) (now line : ℕ) → AreCutShort (begun rs old now line) (all_turns (length rs)) now line new → AreCutShort old (all_turns (length rs)) now line new
cut_begun [] old new now line cut = absurd (none_cut (written old (Refused now) (Refused now) line) new now line cut)
cut_begun (r ∷ rs) old new now line cut = cut

pub settled_after : (old between new : World) (now line : ℕ) (result : Result Unit SettleError) → CanSettle old now → between ≡ begun old.replicas old now line →
    AreTurns between (all_turns (length between.replicas)) now line result new → IsSettle old now line result new
settled_after old between new now line result ready is turns =
    by result
    (subst (λ rs. AreTurns (begun old.replicas old now line) (all_turns (length rs)) now line result new) (begun_members old.replicas old now line)
    (subst (λ w. AreTurns w (all_turns (length w.replicas)) now line result new) is turns)) where
      by : (r : Result Unit SettleError) → AreTurns (begun old.replicas old now line) (all_turns (length old.replicas)) now line r new → IsSettle old now line r new
      by (Ok u) made = (ready, made)
      by (Err errors.Memory) cut = inr (ready, cut_begun old.replicas old new now line cut)
      by (Err errors.Stopped) never = absurd never
      by (Err errors.MomentBack) never = absurd never

pub not_admitted : (old new : World) (now line : ℕ) (e : SettleError) → IsAdmitted old now line (Err e) new → IsSettle old now line (Err e) new
not_admitted old new now line errors.Stopped refused = refused
not_admitted old new now line errors.MomentBack refused = refused
not_admitted old new now line errors.Memory same = inl same
