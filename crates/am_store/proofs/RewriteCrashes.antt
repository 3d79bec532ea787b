-- The files that a crash of a rewriting leaves.
use Rattle.std.specs.Prelude.{⊤}
use Rattle.std.proofs.Common.{◌≡◌, ◌⊎◌, inl, inr, ⊎_elim, ℕ, Bool, true, false, List, [], ◌∷◌, ◌++◌, Option, Some, None, refl, sym, subst}
use Rattle.am_store.specs.Calls.{Call, Event, Remove, Make, Permit, Write, Sync, Rename, SyncDirectory, Miss}
use Rattle.am_store.specs.Saves.{IsDirectoryOf, Permissions, Row, Safety, Name, Unnamed, Unmade, Unreplaced, Unsettled, saving}
use Rattle.am_store.specs.Crashes.{Disk, Remains, MayLeave, Keeps, MayDo, Runs, MayLeaveDuring, bytes_at}
use Rattle.am_store.specs.Rewrites.{HasWhole, Place, End, RewritingStop, Unsaved, LogUnnamed, LogKept, LogUnsettled, old_log, own_log, rewriting, rewriting_until}
use Rattle.am_store.proofs.Crashes.{Fine, Safe, is_done, is_saved, is_stopped, log_ends, log_may_end, log_removed, removing, right_after, settled}

-- a crash during calls comes during the first ones, or once these are made
pub during : (first second : List Event) (disk : Disk) (left : Remains) → MayLeaveDuring (first ++ second) disk left
    → MayLeaveDuring first disk left ⊎ ((mid : Disk) × Runs first disk mid × MayLeaveDuring second mid left)
during [] second disk left may = inr (disk, refl, may)
during ((call, done) ∷ events) second disk left (inl now) = inl (inl now)
during ((call, done) ∷ events) second disk left (inr (next, changes, may)) =
    ⊎_elim (λ early. inl (inr (next, changes, early))) (λ late. inr (late.0, (next, changes, late.1), late.2)) (during events second next left may)

runs_in_parts : (first second : List Event) (disk new : Disk) → Runs (first ++ second) disk new → (mid : Disk) × Runs first disk mid × Runs second mid new
runs_in_parts [] second disk new runs = (disk, refl, runs)
runs_in_parts (event ∷ events) second disk new (next, changes, runs) =
    let rest = runs_in_parts events second next new runs in
    (rest.0, (next, changes, rest.1), rest.2)

-- a call may do nothing, so a crash during the first calls is one during all
does_nothing : (call : Call) (disk : Disk) → MayDo call disk disk
does_nothing (Remove path) disk = inl refl
does_nothing (Make path) disk = inl refl
does_nothing (Permit path) disk = inl refl
does_nothing (Write bytes) disk = inl refl
does_nothing (Sync bytes) disk = refl
does_nothing (Rename from to) disk = inl refl
does_nothing (SyncDirectory path) disk = refl
does_nothing (Miss path) disk = refl

pub sooner : (first second : List Event) (disk : Disk) (left : Remains) → MayLeaveDuring first disk left → MayLeaveDuring (first ++ second) disk left
sooner [] [] disk left may = may
sooner [] ((call, done) ∷ events) disk left may = inl (disk, does_nothing call disk, may)
sooner ((call, done) ∷ events) second disk left (inl now) = inl now
sooner ((call, done) ∷ events) second disk left (inr (next, changes, may)) = inr (next, changes, sooner events second next left may)

-- ---- Old holds of what is at the three paths before, and New of the two logs beside a new file
module _ (path : List ℕ) (disk : Disk) (left : Remains) (Old : Option (List ℕ) → Option (List ℕ) → Option (List ℕ) → Type 0) (New : Option (List ℕ) → Option (List ℕ) → Type 0)
    (renews : (found there log : Option (List ℕ)) → Old found there log → New there log)
    (gone : (there log : Option (List ℕ)) → New there log → New None log)
    (before : (l : Remains) → MayLeave disk l → Old (bytes_at l path) (bytes_at l (old_log path)) (bytes_at l (own_log path))) where
  abbrev pub OldOrNew : List ℕ → Option (List ℕ) → Option (List ℕ) → Option (List ℕ) → Type 0
  OldOrNew row found there log = Old found there log ⊎ ((found ≡ Some row) × New there log)

  new : (row : List ℕ) (found there log : Option (List ℕ)) → OldOrNew row found there log → OldOrNew row (Some row) there log
  new row found there log (inl old) = inr (refl, renews found there log old)
  new row found there log (inr is) = inr (refl, is.1)

  logs : (row : List ℕ) (found there log : Option (List ℕ)) → OldOrNew row found there log → New there log
  logs row found there log (inl old) = renews found there log old
  logs row found there log (inr is) = is.1

  saved : (row : List ℕ) (stood : Bool) (directory : List ℕ) (l : Remains) → MayLeaveDuring (saving stood path directory row) disk l → Fine path row (OldOrNew row) l
  saved row stood directory l may = is_saved path row (OldOrNew row) (new row) l stood directory disk (λ m it. inl (before m it)) may

  after : (row : List ℕ) (stood : Bool) (directory : List ℕ) (mid : Disk) → Runs (saving stood path directory row) disk mid → Safe path row (OldOrNew row) mid
  after row stood directory mid runs l may = saved row stood directory l (right_after (saving stood path directory row) disk mid l runs may)

  -- what is left of a rewriting that stopped has its row only if that is whole
  module _ {K : Type 0} (row : List ℕ) (place : Place K) where
    abbrev pub OldOrWhole : Type 0
    OldOrWhole = Old (bytes_at left path) (bytes_at left (old_log path)) (bytes_at left (own_log path))
        ⊎ ((place ≡ End) × (bytes_at left path ≡ Some row) × New (bytes_at left (old_log path)) (bytes_at left (own_log path)))

    whole : place ≡ End → Fine path row (OldOrNew row) left → OldOrWhole
    whole is either = ⊎_elim (λ old. inl old) (λ new. inr (is, new.0, new.1)) either

    two_rows : (found : Option (List ℕ)) → found ≡ Some [] → found ≡ Some (0 ∷ []) → ⊥
    two_rows found a b = absurd cc

    old_one : Fine path [] (OldOrNew []) left → Fine path (0 ∷ []) (OldOrNew (0 ∷ [])) left → OldOrWhole
    old_one one other = ⊎_elim (λ old. inl old) (λ a. ⊎_elim (λ old. inl old) (λ b. absurd (two_rows (bytes_at left path) a.0 b.0)) other) one

  -- Ended holds once the new file is saved
  module _ (Ended : List ℕ → Option (List ℕ) → Option (List ℕ) → Option (List ℕ) → Type 0) (Its : List ℕ → Type 0)
      (fresh : (row : List ℕ) (found there log : Option (List ℕ)) → Ended row found there log → Ended row (Some row) there log)
      (closed : (row : List ℕ) (found there log : Option (List ℕ)) → Ended row found there log → Ended row found None log)
      (weaker : (row : List ℕ) (found there log : Option (List ℕ)) → Ended row found there log → OldOrNew row found there log)
      (ended : (row : List ℕ) (stood : Bool) (directory : List ℕ) (mid : Disk) → Its directory → Runs (saving stood path directory row) disk mid → Safe path row (Ended row) mid) where
    log_goes : (row : List ℕ) (stood removed done : Bool) (directory : List ℕ) → Its directory
        → MayLeaveDuring (saving stood path directory row ++ (Remove (old_log path), removed) ∷ (SyncDirectory directory, done) ∷ []) disk left → Fine path row (OldOrNew row) left
    log_goes row stood removed done directory its may = ⊎_elim (saved row stood directory left)
        (λ late. weaker row (bytes_at left path) (bytes_at left (old_log path)) (bytes_at left (own_log path))
        (log_ends path row (Ended row) (fresh row) left (closed row) removed done directory late.0 (ended row stood directory late.0 its late.1) late.2))
        (during (saving stood path directory row) ((Remove (old_log path), removed) ∷ (SyncDirectory directory, done) ∷ []) disk left may)

    module _ (stood removed last : Bool) (directory : List ℕ) where
      rewritten : (row : List ℕ) → Its directory → MayLeaveDuring (rewriting stood last path directory row) disk left → Fine path row (OldOrNew row) left
      rewritten row its may = log_goes row stood last true directory its may

      stops : (row : List ℕ) (stop : RewritingStop) → (stop ≡ LogKept → Its directory) → (stop ≡ LogUnsettled → Its directory)
          → MayLeaveDuring (rewriting_until stop stood removed last path directory row) disk left → Fine path row (OldOrNew row) left
      stops row (Unsaved stop) k u may = is_stopped path row (OldOrNew row) (new row) left stop stood removed disk (λ m it. inl (before m it)) may
      stops row LogUnnamed k u may = saved row stood directory left may
      stops row LogKept k u may = ⊎_elim (saved row stood directory left)
          (λ late. weaker row (bytes_at left path) (bytes_at left (old_log path)) (bytes_at left (own_log path))
          (log_may_end path row (Ended row) (fresh row) left (closed row) false late.0 (ended row stood directory late.0 (k refl) late.1) late.2))
          (during (saving stood path directory row) ((Remove (old_log path), false) ∷ []) disk left may)
      stops row LogUnsettled k u may = log_goes row stood last false directory (u refl) may

      module _ {K : Type 0} (row : List ℕ) (place : Place K) where
        leaves : (stop : RewritingStop) → HasWhole stop place → (stop ≡ LogKept → Its directory) → (stop ≡ LogUnsettled → Its directory)
            → MayLeaveDuring (rewriting_until stop stood removed last path directory row) disk left → OldOrWhole row place
        leaves (Unsaved Unnamed) is k u may = old_one row place (stops [] (Unsaved Unnamed) k u may) (stops (0 ∷ []) (Unsaved Unnamed) k u may)
        leaves (Unsaved Unmade) is k u may = old_one row place (stops [] (Unsaved Unmade) k u may) (stops (0 ∷ []) (Unsaved Unmade) k u may)
        leaves (Unsaved (Unreplaced Permissions)) is k u may = old_one row place (stops [] (Unsaved (Unreplaced Permissions)) k u may) (stops (0 ∷ []) (Unsaved (Unreplaced Permissions)) k u may)
        leaves (Unsaved (Unreplaced Row)) is k u may = old_one row place (stops [] (Unsaved (Unreplaced Row)) k u may) (stops (0 ∷ []) (Unsaved (Unreplaced Row)) k u may)
        leaves (Unsaved (Unreplaced Safety)) is k u may = whole row place is (stops row (Unsaved (Unreplaced Safety)) k u may)
        leaves (Unsaved (Unreplaced Name)) is k u may = whole row place is (stops row (Unsaved (Unreplaced Name)) k u may)
        leaves (Unsaved (Unsettled d)) is k u may = whole row place is (stops row (Unsaved (Unsettled d)) k u may)
        leaves LogUnnamed is k u may = whole row place is (stops row LogUnnamed k u may)
        leaves LogKept is k u may = whole row place is (stops row LogKept k u may)
        leaves LogUnsettled is k u may = whole row place is (stops row LogUnsettled k u may)

  -- ---- Old holds without the old log, too
  module _ (lost : (found there log : Option (List ℕ)) → Old found there log → Old found None log) where
    still : (row : List ℕ) (found there log : Option (List ℕ)) → OldOrNew row found there log → OldOrNew row found None log
    still row found there log (inl old) = inl (lost found there log old)
    still row found there log (inr is) = inr (is.0, gone there log is.1)

    pub is_rewritten : (row : List ℕ) (stood last : Bool) (directory : List ℕ) → MayLeaveDuring (rewriting stood last path directory row) disk left → Fine path row (OldOrNew row) left
    is_rewritten row stood last directory =
        rewritten OldOrNew (λ d. ⊤) new still (λ r f t l is. is) (λ r s d mid its runs. after r s d mid runs) stood false last directory row tt

    pub leaves_whole : {K : Type 0} (row : List ℕ) (place : Place K) (stood removed last : Bool) (directory : List ℕ) (stop : RewritingStop) → HasWhole stop place
        → MayLeaveDuring (rewriting_until stop stood removed last path directory row) disk left → OldOrWhole row place
    leaves_whole row place stood removed last directory stop is =
        leaves OldOrNew (λ d. ⊤) new still (λ r f t l is. is) (λ r s d mid its runs. after r s d mid runs) stood removed last directory row place stop is (λ e. tt) (λ e. tt)

  -- ---- the old log goes only once FILE is the new one for good
  module _ (its : IsDirectoryOf path disk.directory) where
    abbrev Renewed : List ℕ → Option (List ℕ) → Option (List ℕ) → Option (List ℕ) → Type 0
    Renewed row found there log = (found ≡ Some row) × New there log

    renewed : (row : List ℕ) (stood : Bool) (directory : List ℕ) (mid : Disk) → IsDirectoryOf path directory → Runs (saving stood path directory row) disk mid → Safe path row (Renewed row) mid
    renewed row stood directory mid standing runs l may =
        (is_done path row stood directory disk mid its standing runs l may, logs row (bytes_at l path) (bytes_at l (old_log path)) (bytes_at l (own_log path)) (after row stood directory mid runs l may))

    pub log_covers : (row : List ℕ) (stood last : Bool) (directory : List ℕ) → IsDirectoryOf path directory → MayLeaveDuring (rewriting stood last path directory row) disk left
        → Fine path row (OldOrNew row) left
    log_covers row stood last directory standing =
        rewritten Renewed (IsDirectoryOf path) (λ r f t l is. (refl, is.1)) (λ r f t l is. (is.0, gone t l is.1)) (λ r f t l is. inr is) renewed stood false last directory row standing

    pub leaves_new : {K : Type 0} (row : List ℕ) (place : Place K) (stood removed last : Bool) (directory : List ℕ) (stop : RewritingStop) → HasWhole stop place
        → (stop ≡ LogKept → IsDirectoryOf path directory) → (stop ≡ LogUnsettled → IsDirectoryOf path directory)
        → MayLeaveDuring (rewriting_until stop stood removed last path directory row) disk left
        → OldOrWhole row place
    leaves_new row place stood removed last directory =
        leaves Renewed (IsDirectoryOf path) (λ r f t l is. (refl, is.1)) (λ r f t l is. (is.0, gone t l is.1)) (λ r f t l is. inr is) renewed stood removed last directory row place

-- ---- the end
pub is_rewriting_done : (path row : List ℕ) (disk : Disk) → IsDirectoryOf path disk.directory → (stood last : Bool) (directory : List ℕ) (new : Disk) → IsDirectoryOf path directory
    → Runs (rewriting stood last path directory row) disk new → Keeps new path (Some row)
is_rewriting_done path row disk its stood last directory new standing runs =
    let parts = runs_in_parts (saving stood path directory row) ((Remove (old_log path), last) ∷ (SyncDirectory directory, true) ∷ []) disk new runs in
    let kept : Keeps parts.0 path (Some row) = is_done path row stood directory disk parts.0 its standing parts.1 in
    let gone = log_removed path row (λ found there log. found ≡ Some row) (λ found there log is. is) parts.0 parts.2.0 (removing (old_log path) last parts.0 parts.2.0 parts.2.1) kept in
    let end = settled path row (λ found there log. found ≡ Some row) directory parts.2.0 parts.2.2.0 parts.2.2.1 gone in
    subst (λ (d : Disk). Keeps d path (Some row)) (sym parts.2.2.2) end
