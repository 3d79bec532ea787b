-- The logging of frames, one after another.
use Rattle.std.proofs.Common.{◌≡◌, ℕ, ◌+◌, ◌-◌, ◌^◌, ◌<◌, ◌≤◌, Bool, true, false, ◌||◌, List, [], ◌∷◌, ◌++◌, Option, Some, None, refl, sym, ap, subst, inl, inr, ◌∙◌, append_assoc, arith, length, take, get_or}
use Rattle.std.specs.List.{filter, list_any}
use Rattle.std.specs.Prelude.{◌==◌, IfSome, if◌then◌else◌, is_some, map, nat_lt}
use borrow.Author.Tests.{lt-ltb, ltb-false, ltb-true}
use Rattle.std.proofs.Math.Dec.{ltb}
use Rattle.std.proofs.lemmas.List.{append-nil, map-append, take_more}
use Rattle.std.proofs.lemmas.List.Elements.{filter-append}
use Rattle.am_gossip.specs.declared.frame.Frame.{Frame}
use Rattle.am_gossip.specs.declared.frame.Frame.TheVariants.{Delta}
use Rattle.am_gossip.specs.declared.frame.Part.{Part}
use Rattle.am_gossip.specs.declared.frame.StateKey.{StateKey}
use Rattle.am_gossip.specs.declared.frame.StateKey.TheVariants.{Sil, Nfl}
use Rattle.am_peers.specs.Queues.{frames_beside, frames_for}
use Rattle.am_store.specs.Appending.{Appends, IfKept, LogRows}
use Rattle.am_backend.specs.declared.commit_state.CommitState.{CommitState}
use Rattle.am_backend.specs.CommitStates.{behind, came, counted_on, keeps_logs, with_lost, with_more}
use Rattle.am_backend.specs.Outbound.{for_peers}
use Rattle.am_backend.specs.Stores.{AreLogged, GoesOn, HasCome, IsLogged, Store, brings, brought, lost_if, rows_for, rows_if}

pub rows_for-append : (key : StateKey) (xs ys : List Frame) → rows_for key (xs ++ ys) ≡ rows_for key xs ++ rows_for key ys
rows_for-append key [] ys = refl
rows_for-append key (frame ∷ xs) ys =
    ap (λ (rows : List ℕ). brought key frame ++ rows) (rows_for-append key xs ys) ∙ sym (append_assoc (brought key frame) (rows_for key xs) (rows_for key ys))

-- a log that took rows twice took them all
pub appends_on : (xs ys : List ℕ) (old mid new : Option LogRows) → IfKept (Appends xs) old mid → IfKept (Appends ys) mid new → IfKept (Appends (xs ++ ys)) old new
appends_on xs ys None mid new first second = subst (λ (log : Option LogRows). IfKept (Appends ys) log new) first second
appends_on xs ys (Some old) None new first second = absurd first
appends_on xs ys (Some old) (Some mid) None first second = absurd second
appends_on xs ys (Some old) (Some mid) (Some new) first second =
    second ∙ ap (λ (rows : List ℕ). rows ++ ys) first ∙ append_assoc (old.on_disk ++ old.waiting) xs ys

-- a log that stays as it was took nothing
pub appends_nothing : (log : Option LogRows) → IfKept (Appends []) log log
appends_nothing None = refl
appends_nothing (Some rows) = sym (append-nil (rows.on_disk ++ rows.waiting))

-- a count that goes on by one
counted_no_less : (count : ℕ) → count ≤ counted_on count
counted_no_less count = elim (nat_lt count (2 ^ 64 - 1)) as (λ b. count ≤ (if b then count + 1 else count)) [ true ↦ omega arith | false ↦ omega arith ]

counted_more : (count : ℕ) → count < 2 ^ 64 - 1 → count < counted_on count
counted_more count less =
    let is : nat_lt count (2 ^ 64 - 1) ≡ true = lt-ltb count (2 ^ 64 - 1) less in
    rw is (omega arith)

pub stays : (commit_state : CommitState) → GoesOn commit_state commit_state
stays commit_state = record { disk = refl; due = λ it. it; lacks = λ it. it; no_less = omega arith }

pub goes_on : (old mid new : CommitState) → GoesOn old mid → GoesOn mid new → GoesOn old new
goes_on old mid new first second =
    record {
      disk = second.disk ∙ first.disk;
      due = λ it. second.due (first.due it);
      lacks = λ it. second.lacks (first.lacks it);
      no_less = omega (arith, first.no_less, second.no_less);
    }

logged_rows : (xs ys xs' ys' : List ℕ) (old mid new : Store) → GoesOn mid.commit_state new.commit_state → AreLogged xs ys old mid → AreLogged xs' ys' mid new → AreLogged (xs ++ xs') (ys ++ ys') old new
logged_rows xs ys xs' ys' old mid new on (inl lacks) second = inl (on.lacks lacks)
logged_rows xs ys xs' ys' old mid new on (inr first) (inl lacks) = inl lacks
logged_rows xs ys xs' ys' old mid new on (inr first) (inr second) =
    inr (appends_on xs xs' old.silences mid.silences new.silences first.0 second.0, appends_on ys ys' old.log mid.log new.log first.1 second.1)

list_any-append : (xs ys : List Frame) → list_any brings (xs ++ ys) ≡ list_any brings xs || list_any brings ys
list_any-append [] ys = refl
list_any-append (frame ∷ xs) ys = elim (brings frame) as (λ b. (b || list_any brings (xs ++ ys)) ≡ (b || list_any brings xs) || list_any brings ys) [ true ↦ refl | false ↦ list_any-append xs ys ]

come_first : (old mid new : CommitState) → HasCome old mid → GoesOn mid new → HasCome old new
come_first old mid new first on = record { due = on.due first.due; counted = λ less. let counted = first.counted less in omega (arith, counted, on.no_less) }

below_cases : (a b c limit : ℕ) (t : Bool) → ltb b limit ≡ t → a ≤ b → (b < limit → b < c) → b ≤ c → a < limit → a < c
below_cases a b c limit true e ab more bc al = let next = more (ltb-true b limit e) in omega (arith, next, ab)
below_cases a b c limit false e ab more bc al = let above : limit ≤ b = ltb-false b limit e in omega (arith, above, bc, al)

come_then : (old mid new : CommitState) → GoesOn old mid → HasCome mid new → GoesOn mid new → HasCome old new
come_then old mid new on second on' =
    record { due = second.due; counted = λ less. below_cases (came old) (came mid) (came new) (2 ^ 64 - 1) (ltb (came mid) (2 ^ 64 - 1)) refl on.no_less second.counted on'.no_less less }

come_on : (xs ys : Bool) (old mid new : CommitState) → GoesOn old mid → GoesOn mid new → (xs ≡ true → HasCome old mid) → (ys ≡ true → HasCome mid new) → (xs || ys) ≡ true → HasCome old new
come_on true ys old mid new on on' first second any = come_first old mid new (first refl) on'
come_on false ys old mid new on on' first second any = come_then old mid new on (second any) on'

-- what is logged of frames, and then of others, is logged of all of them
pub logged_on : (xs ys : List Frame) (old mid new : Store) → IsLogged xs old mid → IsLogged ys mid new → IsLogged (xs ++ ys) old new
logged_on xs ys old mid new first second =
    record {
      rows = λ on.
          subst (λ (rows : List ℕ). AreLogged rows (rows_for Nfl (xs ++ ys)) old new) (sym (rows_for-append Sil xs ys))
          (subst (λ (rows : List ℕ). AreLogged (rows_for Sil xs ++ rows_for Sil ys) rows old new) (sym (rows_for-append Nfl xs ys))
          (logged_rows (rows_for Sil xs) (rows_for Nfl xs) (rows_for Sil ys) (rows_for Nfl ys) old mid new second.goes_on (first.rows on) (second.rows (ap is_some first.goes_on.disk ∙ on))));
      come = λ any. come_on (list_any brings xs) (list_any brings ys) old.commit_state mid.commit_state new.commit_state first.goes_on second.goes_on first.come second.come (sym (list_any-append xs ys) ∙ any);
      goes_on = goes_on old.commit_state mid.commit_state new.commit_state first.goes_on second.goes_on;
    }

never : false ≡ true → ⊥
never e = cc

pub logged_none : (store : Store) → IsLogged [] store store
logged_none store =
    record {
      rows = λ on. inr (appends_nothing store.silences, appends_nothing store.log);
      come = λ any. absurd (never any);
      goes_on = stays store.commit_state;
    }

-- ---- the frames for the disk, among those for all places

pub for_append : (disk : ℕ) (xs ys : List (ℕ × Frame)) → frames_for disk (xs ++ ys) ≡ frames_for disk xs ++ frames_for disk ys
for_append disk xs ys =
    ap (λ (queued : List (ℕ × Frame)). map (λ q. q.1) queued) (filter-append (λ q. q.0 == disk) xs ys)
    ∙ map-append (λ q. q.1) (filter (λ q. q.0 == disk) xs) (filter (λ q. q.0 == disk) ys)

-- one more of them is logged, if it is for the disk
pub logged_more : (disk : ℕ) (queued : List (ℕ × Frame)) (i : ℕ) (q : ℕ × Frame) (old mid new : Store) → i < length queued → IsLogged (frames_for disk (take i queued)) old mid
    → IsLogged (frames_for disk (get_or queued i q ∷ [])) mid new → IsLogged (frames_for disk (take (i + 1) queued)) old new
logged_more disk queued i q old mid new below so_far is =
    subst (λ (frames : List Frame). IsLogged frames old new)
    (sym (ap (λ (some : List (ℕ × Frame)). frames_for disk some) (take_more queued i q below) ∙ for_append disk (take i queued) (get_or queued i q ∷ [])))
    (logged_on (frames_for disk (take i queued)) (frames_for disk (get_or queued i q ∷ [])) old mid new so_far is)

-- ---- one frame

more_goes_on : (commit_state : CommitState) → GoesOn commit_state (with_more commit_state)
more_goes_on commit_state = record { disk = refl; due = λ it. refl; lacks = λ it. it; no_less = counted_no_less commit_state.changes }

has_more : (commit_state : CommitState) → HasCome commit_state (with_more commit_state)
has_more commit_state = record { due = refl; counted = counted_more commit_state.changes }

rows_alone : (key : StateKey) (frame : Frame) → rows_for key (frame ∷ []) ≡ brought key frame
rows_alone key frame = append-nil (brought key frame)

-- a frame with versions is counted, and its rows are logged
pub logged_delta : (part : Part) (old new : Store) (added : CommitState) → added ≡ with_more old.commit_state
    → (keeps_logs added ≡ true → AreLogged (rows_if Sil part.key part.bytes) (rows_if Nfl part.key part.bytes) (record old { commit_state = added }) new)
    → GoesOn added new.commit_state → IsLogged (Delta part ∷ []) old new
logged_delta part old new added is rows on =
    let on' : GoesOn (with_more old.commit_state) new.commit_state = subst (λ (k : CommitState). GoesOn k new.commit_state) is on in
    let rows' : keeps_logs old.commit_state ≡ true → AreLogged (brought Sil (Delta part)) (brought Nfl (Delta part)) old new =
    subst (λ (k : CommitState). keeps_logs k ≡ true → AreLogged (rows_if Sil part.key part.bytes) (rows_if Nfl part.key part.bytes) (record old { commit_state = k }) new) is rows in
    record {
      rows = λ kept.
          subst (λ (it : List ℕ). AreLogged it (rows_for Nfl (Delta part ∷ [])) old new) (sym (rows_alone Sil (Delta part)))
          (subst (λ (it : List ℕ). AreLogged (brought Sil (Delta part)) it old new) (sym (rows_alone Nfl (Delta part))) (rows' kept));
      come = λ any. come_first old.commit_state (with_more old.commit_state) new.commit_state (has_more old.commit_state) on';
      goes_on = goes_on old.commit_state (with_more old.commit_state) new.commit_state (more_goes_on old.commit_state) on';
    }

-- ---- what is lost

lost_on : (commit_state : CommitState) → GoesOn commit_state (with_lost commit_state)
lost_on commit_state =
    elim (is_some commit_state.disk) as (λ b. GoesOn commit_state (if b then record (with_more commit_state) { is_behind = true } else commit_state))
    [ true ↦ record { disk = refl; due = λ it. refl; lacks = λ it. refl; no_less = counted_no_less commit_state.changes } | false ↦ stays commit_state ]

-- the commit state goes on if something was lost, or nothing
pub lost_goes_on : (lost : Bool) (old : CommitState) (mid new : Store) → mid.commit_state ≡ old → new ≡ lost_if lost mid → GoesOn old new.commit_state
lost_goes_on true old mid new same is = subst (λ (k : CommitState). GoesOn k new.commit_state) same (subst (λ (s : Store). GoesOn mid.commit_state s.commit_state) (sym is) (lost_on mid.commit_state))
lost_goes_on false old mid new same is = subst (λ (k : CommitState). GoesOn k new.commit_state) same (subst (λ (s : Store). GoesOn mid.commit_state s.commit_state) (sym is) (stays mid.commit_state))

-- what holds at the place of the disk
pub at_disk : (o : Option ℕ) (disk : ℕ) (P : ℕ → Type 0) → o ≡ Some disk → P disk → IfSome o P
at_disk o disk P is holds = subst (λ (o' : Option ℕ). IfSome o' P) (sym is) holds

-- the frames for peers, where the disk has this place
pub beside_disk : (o : Option ℕ) (disk : ℕ) (frames peers : List (ℕ × Frame)) → o ≡ Some disk → peers ≡ frames_beside disk frames → peers ≡ for_peers o frames
beside_disk o disk frames peers is beside = subst (λ (o' : Option ℕ). peers ≡ for_peers o' frames) (sym is) beside

-- all frames are for peers, where no logs are kept
pub all_beside : (o : Option ℕ) (frames : List (ℕ × Frame)) → o ≡ None → frames ≡ for_peers o frames
all_beside o frames is = subst (λ (o' : Option ℕ). frames ≡ for_peers o' frames) (sym is) refl
