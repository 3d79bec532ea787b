-- A start after a crash while a log is parted from the one before it, or begun anew.
use Rattle.std.specs.Prelude.{⊤, Contains}
use Rattle.std.proofs.Common.{◌≡◌, ◌≢◌, ◌⊎◌, inl, inr, ⊎_elim, ℕ, Bool, true, false, List, [], ◌∷◌, ◌++◌, Option, None, IfSome, option_map, unwrap_or, Result, refl, sym, ◌∙◌, ap, subst, append-nil, append_assoc}
use Rattle.std.proofs.lemmas.List.{append_cancel_left}
use Rattle.std.proofs.lemmas.List.Elements.{Contains-append_left}
use Rattle.std.specs.declared.cmp.Ordering.{Ordering}
use Rattle.am_version_order.specs.Versions.{Version}
use Rattle.am_wire.specs.declared.error.WireError.{WireError}
use Rattle.am_wire.specs.Inputs.{AreMessages}
use Rattle.am_merge.specs.Maps.{IsMap, at}
use Rattle.am_merge.specs.Views.{HoldsBest}
use Rattle.am_merge.proofs.Exists.{has_join}
use Rattle.am_merge.proofs.Keys.{IsKeyOrder}
use Rattle.am_snapshot.proofs.Bests.{IsBestAt, IsBestAt-nil, IsBestAt-more, holds_best}
use Rattle.am_store.specs.Blocks.{recovered}
use Rattle.am_store.specs.Calls.{Call, Event, Remove, Make, Permit, Write, Sync, Rename, SyncDirectory, Miss}
use Rattle.am_store.specs.Crashes.{Agrees, Names, Disk, Remains, MayLeave, Does, MayDo, Changes, MayLeaveDuring, bytes_at, with_names}
use Rattle.am_store.specs.Logs.{AreInBatches}
use Rattle.am_store.specs.Outlasting.{HasAtLeast, IsKept, Outlasts, content_at}
use Rattle.am_store.specs.Parting.{AnewStop, AreOfParting, BeginningStop, IsAnew, NoneBegun, NoneRemoved, OldKept, OldUnsettled, Opens, OwnKept, PartingStop, RemovalStop, StopsAnew, Unbegun, Unmade, Unpermitted, Unremoved, Unrenamed, Unsettled, Unmissed, Unsynced, Untried, Untrusted, Unwritten, anew_until, beginning, beginning_until, parting, parting_until, removing, removing_until, renewing}
use Rattle.am_store.specs.Rewrites.{old_log, own_log}
use Rattle.am_store.proofs.BlockLemmas.{recovered_none}
use Rattle.am_store.proofs.Crashes.{logs_apart, old_apart, old_behind, own_apart}
use Rattle.am_store.proofs.Outlasting.{of_best, of_row}

-- ---- calls that leave what is at some paths
module _ (Keep : List ℕ → Type 0) (F : Remains → Type 0) where
  -- each file agrees with what is known of it
  abbrev pub HasFiles : Disk → Remains → Type 0
  HasFiles disk left = (file : ℕ) → IfSome (disk.known file) (λ known. Agrees known (left.bytes file))

  -- F holds whatever a crash leaves, and wherever the same files are at these paths
  pub record Fits (disk : Disk) : Type 0 where
    pub safe : (left : Remains) → MayLeave disk left → F left
    pub loose : (left : Remains) → ((path : List ℕ) → Keep path → left.names path ≡ disk.names path) → HasFiles disk left → F left

  -- the call leaves what is at these paths
  abbrev pub Spares : Call → Type 0
  Spares (Remove path) = ¬ Keep path
  Spares (Make path) = ¬ Keep path
  Spares (Permit path) = ⊤
  Spares (SyncDirectory path) = ⊤
  Spares (Miss path) = ⊤
  Spares (Rename from to) = ¬ Keep from × ¬ Keep to
  Spares _ = ⊥

  abbrev pub AllSpare : List Event → Type 0
  AllSpare [] = ⊤
  AllSpare ((call, done) ∷ events) = Spares call × AllSpare events

  touched : (disk : Disk) (names : Names) (file : ℕ) → ((path : List ℕ) → Keep path → names path ≡ disk.names path) → Fits disk → Fits (record (with_names disk names) { created = file })
  touched disk names file same fits = record {
    safe = λ left may. ⊎_elim
        (λ now. fits.loose left (λ path keep. ap (λ (n : Names). n path) now ∙ same path keep) may.files)
        (λ earlier. fits.safe left (record { names = earlier; files = may.files }))
        may.names;
    loose = λ left agree files. fits.loose left (λ path keep. agree path keep ∙ same path keep) files;
  }

  unlike : (path other : List ℕ) → ¬ Keep path → Keep other → other ≢ path
  unlike path other spared keep same = spared (subst Keep same keep)

  does : (call : Call) → Spares call → (disk next : Disk) → Does call disk next → Fits disk → Fits next
  does (Remove path) spares disk next d fits = subst Fits (sym d.3) (touched disk d.0 disk.created (λ other keep. d.2 other (unlike path other spares keep)) fits)
  does (Make path) spares disk next d fits = subst Fits (sym d.5) (touched disk d.0 d.1 (λ other keep. d.4 other (unlike path other spares keep)) fits)
  does (Permit path) spares disk next d fits = subst Fits (sym d) fits
  does (Write bytes) spares disk next d fits = absurd spares
  does (Sync bytes) spares disk next d fits = absurd spares
  does (Rename from to) spares disk next d fits =
      subst Fits (sym d.3) (touched disk d.0 disk.created (λ other keep. d.2 other (unlike from other spares.0 keep) (unlike to other spares.1 keep)) fits)
  does (SyncDirectory path) spares disk next (inl here) fits = subst Fits (sym here.1) (record {
    safe = λ left may. fits.safe left (record { names = ⊎_elim (λ now. inl now) (λ none. absurd none) may.names; files = may.files });
    loose = fits.loose;
  })
  does (SyncDirectory path) spares disk next (inr elsewhere) fits = subst Fits (sym elsewhere.1) fits
  does (Miss path) spares disk next d fits = subst Fits (sym d.1) fits

  may_do : (call : Call) → Spares call → (disk next : Disk) → MayDo call disk next → Fits disk → Fits next
  may_do (Remove path) spares disk next may fits = ⊎_elim (λ same. subst Fits (sym same) fits) (λ d. does (Remove path) spares disk next d fits) may
  may_do (Make path) spares disk next may fits = ⊎_elim (λ same. subst Fits (sym same) fits) (λ d. does (Make path) spares disk next d fits) may
  may_do (Permit path) spares disk next may fits = ⊎_elim (λ same. subst Fits (sym same) fits) (λ d. does (Permit path) spares disk next d fits) may
  may_do (Write bytes) spares disk next may fits = absurd spares
  may_do (Sync bytes) spares disk next may fits = absurd spares
  may_do (Rename from to) spares disk next may fits = ⊎_elim (λ same. subst Fits (sym same) fits) (λ d. does (Rename from to) spares disk next d fits) may
  may_do (SyncDirectory path) spares disk next same fits = subst Fits (sym same) fits
  may_do (Miss path) spares disk next same fits = subst Fits (sym same) fits

  changed : (call : Call) (done : Bool) → Spares call → (disk next : Disk) → Changes (call, done) disk next → Fits disk → Fits next
  changed call true = does call
  changed call false = may_do call

  pub during : (events : List Event) → AllSpare events → (disk : Disk) → Fits disk → (left : Remains) → MayLeaveDuring events disk left → F left
  during [] all disk fits left may = fits.safe left may
  during ((call, done) ∷ events) all disk fits left may = ⊎_elim
      (λ it. (may_do call all.0 disk it.0 it.1 fits).safe left it.2)
      (λ it. during events all.1 it.0 (changed call done all.0 disk it.0 it.1 fits) left it.2)
      may

  pub both_spare : (first second : List Event) → AllSpare first → AllSpare second → AllSpare (first ++ second)
  both_spare [] second all more = more
  both_spare ((call, done) ∷ first) second all more = (all.0, both_spare first second all.1 more)

  -- ---- those of a log that begins
  module _ (path directory : List ℕ) (own : ¬ Keep (own_log path)) where
    pub beginning_spares : AllSpare (beginning path directory)
    beginning_spares = (own, (tt, (tt, tt)))

    pub beginning_part_spares : (stop : BeginningStop) → AllSpare (beginning_until stop path directory)
    beginning_part_spares Unmade = (own, tt)
    beginning_part_spares Unpermitted = (own, (tt, tt))
    beginning_part_spares Unwritten = (own, (tt, tt))
    beginning_part_spares Unsettled = (own, (tt, (tt, tt)))

    module _ (old : ¬ Keep (old_log path)) where
      pub removing_spares : (old_stood own_stood : Bool) → AllSpare (removing old_stood own_stood path directory)
      removing_spares true own_stood = (old, (tt, (own, tt)))
      removing_spares false own_stood = (old, (own, tt))

      removing_part_spares : (stop : RemovalStop) → AllSpare (removing_until stop path directory)
      removing_part_spares OldKept = (old, tt)
      removing_part_spares OldUnsettled = (old, (tt, tt))
      removing_part_spares (OwnKept old_stood) = removing_spares old_stood false

      renewing_spares : (kept : Bool) → AllSpare (renewing kept path directory)
      renewing_spares true = beginning_spares
      renewing_spares false = (tt, tt)

      pub anew_spares : (kept old_stood own_stood : Bool) → AllSpare (removing old_stood own_stood path directory ++ renewing kept path directory)
      anew_spares kept old_stood own_stood =
          both_spare (removing old_stood own_stood path directory) (renewing kept path directory) (removing_spares old_stood own_stood) (renewing_spares kept)

      pub anew_part_spares : (stop : AnewStop) → AllSpare (anew_until stop path directory)
      anew_part_spares NoneRemoved = tt
      anew_part_spares (Unremoved stop) = removing_part_spares stop
      anew_part_spares (NoneBegun old_stood own_stood stop) =
          both_spare (removing old_stood own_stood path directory) (beginning_until stop path directory) (removing_spares old_stood own_stood) (beginning_part_spares stop)
      anew_part_spares (Unsynced old_stood own_stood) =
          both_spare (removing old_stood own_stood path directory) ((SyncDirectory directory, false) ∷ []) (removing_spares old_stood own_stood) (tt, tt)

      pub parting_spares : AllSpare (parting path directory)
      parting_spares = (tt, ((own, old), beginning_spares))

      pub parting_part_spares : (stop : PartingStop) → AllSpare (parting_until stop path directory)
      parting_part_spares Untried = tt
      parting_part_spares Unmissed = (tt, tt)
      parting_part_spares Untrusted = (tt, tt)
      parting_part_spares Unrenamed = (tt, ((own, old), tt))
      parting_part_spares (Unbegun stop) = (tt, ((own, old), beginning_part_spares stop))

-- ---- what is said of the file alone
module _ (path : List ℕ) (Q : Option (List ℕ) → Type 0) (disk : Disk) where
  abbrev IsFile : List ℕ → Type 0
  IsFile other = other ≡ path

  abbrev pub OfFile : Remains → Type 0
  OfFile left = Q (bytes_at left path)

  module _ (safe : (left : Remains) → MayLeave disk left → OfFile left) (left : Remains) where
    file_fits : Fits IsFile OfFile disk
    file_fits = record {
      safe = safe;
      loose = λ l agree files. subst (λ (o : Option ℕ). Q (option_map l.bytes o)) (sym (agree path refl)) (safe (record { names = disk.names; bytes = l.bytes }) (record { names = inl refl; files = files }));
    }

    pub anew_leaves : (kept : Bool) (before calls : List Event) → IsAnew kept path before (before ++ calls) ⊎ StopsAnew path before (before ++ calls) → MayLeaveDuring calls disk left → OfFile left
    anew_leaves kept before calls (inl anew) may =
        during IsFile OfFile (removing anew.old_stood anew.own_stood path anew.directory ++ renewing kept path anew.directory)
        (anew_spares IsFile OfFile path anew.directory (own_apart path) (old_apart path) kept anew.old_stood anew.own_stood) disk file_fits left
        (subst (λ (events : List Event). MayLeaveDuring events disk left) (append_cancel_left before _ _ (anew.calls ∙ append_assoc before (removing anew.old_stood anew.own_stood path anew.directory) (renewing kept path anew.directory))) may)
    anew_leaves kept before calls (inr stops) may =
        during IsFile OfFile (anew_until stops.stop path stops.directory) (anew_part_spares IsFile OfFile path stops.directory (own_apart path) (old_apart path) stops.stop) disk file_fits left
        (subst (λ (events : List Event). MayLeaveDuring events disk left) (append_cancel_left before _ _ stops.calls) may)

    pub opening_leaves : (kept : Bool) (before calls : List Event) → Opens kept path before (before ++ calls) → MayLeaveDuring calls disk left → OfFile left
    opening_leaves true before calls (directory, standing, inl begun) may =
        during IsFile OfFile (beginning path directory) (beginning_spares IsFile OfFile path directory (own_apart path)) disk file_fits left
        (subst (λ (events : List Event). MayLeaveDuring events disk left) (append_cancel_left before calls (beginning path directory) begun) may)
    opening_leaves true before calls (directory, standing, inr stood) may =
        during IsFile OfFile ((SyncDirectory directory, true) ∷ []) (tt, tt) disk file_fits left
        (subst (λ (events : List Event). MayLeaveDuring events disk left) (append_cancel_left before calls ((SyncDirectory directory, true) ∷ []) stood) may)
    opening_leaves false before calls same may =
        safe left (subst (λ (events : List Event). MayLeaveDuring events disk left) (append_cancel_left before calls [] (same ∙ sym (append-nil before))) may)

    part_leaves : (directory : List ℕ) (stop : PartingStop) → MayLeaveDuring (parting_until stop path directory) disk left → OfFile left
    part_leaves directory stop may =
        during IsFile OfFile (parting_until stop path directory) (parting_part_spares IsFile OfFile path directory (own_apart path) (old_apart path) stop) disk file_fits left may

    pub parting_leaves : (before calls : List Event) → AreOfParting path before (before ++ calls) → MayLeaveDuring calls disk left → OfFile left
    parting_leaves before calls (inl parted) may =
        during IsFile OfFile (parting path parted.directory) (parting_spares IsFile OfFile path parted.directory (own_apart path) (old_apart path)) disk file_fits left
        (subst (λ (events : List Event). MayLeaveDuring events disk left) (append_cancel_left before _ _ parted.calls) may)
    parting_leaves before calls (inr (inl stops)) may =
        part_leaves stops.directory stops.stop (subst (λ (events : List Event). MayLeaveDuring events disk left) (append_cancel_left before _ _ stops.calls) may)
    parting_leaves before calls (inr (inr found)) may =
        part_leaves [] Unmissed (subst (λ (events : List Event). MayLeaveDuring events disk left) (append_cancel_left before calls ((Miss (old_log path), false) ∷ []) found) may)

-- ---- a set of versions has its best
module _ {K X : Type 0} (seen : X → Version K) (cmp : K → K → Ordering) (keys : IsKeyOrder cmp) where
  more_best : (set map rest : List X) → IsMap seen cmp map → ((key : K) → IsBestAt seen set key (at seen cmp map key)) → (new : List X) × HoldsBest seen (set ++ rest) new
  more_best set map [] order best = (map, subst (λ (all : List X). HoldsBest seen all map) (sym (append-nil set)) (holds_best seen cmp keys set map order best))
  more_best set map (v ∷ rest) order best =
      let (next, ordered, joined) = has_join seen cmp keys map (v ∷ []) order (tt, tt) in
      let (new, held) = more_best (set ++ v ∷ []) next rest ordered (IsBestAt-more seen cmp keys set map next v joined best) in
      (new, subst (λ (all : List X). HoldsBest seen all new) (append_assoc set (v ∷ []) rest) held)

  has_best : (set : List X) → (map : List X) × HoldsBest seen set map
  has_best set = more_best [] [] set tt (IsBestAt-nil seen cmp keys)

  module _ (reads : ℕ → List ℕ → Result X WireError) (path : List ℕ) (v : X) where
    -- what a start has of a log it has of the same bytes as the old log, whatever the log has then
    of_moved_log : (earlier left : Remains) → bytes_at earlier path ≡ bytes_at left path → bytes_at earlier (own_log path) ≡ bytes_at left (old_log path)
        → bytes_at earlier (old_log path) ≡ None → IsKept seen reads path v earlier → IsKept seen reads path v left
    of_moved_log earlier left file log none kept map starts =
        let (best, held) = has_best (starts.in_row ++ [] ++ starts.in_first) in
        let has = kept best (record {
          in_row = starts.in_row;
          in_first = [];
          in_second = starts.in_first;
          all_of_row = subst (λ (o : Option (List ℕ)). AreMessages reads (unwrap_or o []) starts.in_row) (sym file) starts.all_of_row;
          all_of_first = subst (λ (o : Option (List ℕ)). AreInBatches seen reads (recovered (unwrap_or o [])) []) (sym none)
              (subst (λ (batches : List (List ℕ)). AreInBatches seen reads batches []) (sym (recovered_none [] refl)) refl);
          all_of_second = subst (λ (o : Option (List ℕ)). AreInBatches seen reads (recovered (unwrap_or o [])) starts.in_first) (sym log) starts.all_of_first;
          best = held;
        }) in
        of_best seen v (starts.in_row ++ starts.in_first ++ starts.in_second) map starts.best (record {
          version = has.version;
          held = Contains-append_left (starts.in_row ++ starts.in_first) starts.in_second has.version (among starts.in_row starts.in_first has.version (held.best has.version has.held).member);
          same_key = has.same_key;
          not_below = has.not_below;
        })
      where
        among : (row first : List X) (w : X) → Contains (row ++ [] ++ first) w → Contains (row ++ first) w
        among row first w held = subst (λ (all : List X). Contains (all ++ first) w) (append-nil row) held

    -- what a start has without a log it has with any log
    of_new_log : (earlier left : Remains) → bytes_at earlier path ≡ bytes_at left path → bytes_at earlier (old_log path) ≡ bytes_at left (old_log path)
        → bytes_at earlier (own_log path) ≡ None → IsKept seen reads path v earlier → IsKept seen reads path v left
    of_new_log earlier left file log none kept map starts =
        let (best, held) = has_best ((starts.in_row ++ starts.in_first) ++ []) in
        let has = kept best (record {
          in_row = starts.in_row;
          in_first = starts.in_first;
          in_second = [];
          all_of_row = subst (λ (o : Option (List ℕ)). AreMessages reads (unwrap_or o []) starts.in_row) (sym file) starts.all_of_row;
          all_of_first = subst (λ (o : Option (List ℕ)). AreInBatches seen reads (recovered (unwrap_or o [])) starts.in_first) (sym log) starts.all_of_first;
          all_of_second = subst (λ (o : Option (List ℕ)). AreInBatches seen reads (recovered (unwrap_or o [])) []) (sym none)
              (subst (λ (batches : List (List ℕ)). AreInBatches seen reads batches []) (sym (recovered_none [] refl)) refl);
          best = held;
        }) in
        of_best seen v (starts.in_row ++ starts.in_first ++ starts.in_second) map starts.best (record {
          version = has.version;
          held = Contains-append_left (starts.in_row ++ starts.in_first) starts.in_second has.version
              (subst (λ (all : List X). Contains all has.version) (append-nil (starts.in_row ++ starts.in_first)) (held.best has.version has.held).member);
          same_key = has.same_key;
          not_below = has.not_below;
        })

    module _ (disk : Disk) where
      -- ---- a log is opened, or parted from the one before it
      module _ (safe : Outlasts seen reads path v disk) where
        abbrev FileOrOld : List ℕ → Type 0
        FileOrOld other = (other ≡ path) ⊎ (other ≡ old_log path)

        abbrev Has : Remains → Type 0
        Has left = IsKept seen reads path v left

        own_spared : ¬ FileOrOld (own_log path)
        own_spared is = ⊎_elim (own_apart path) (logs_apart path) is

        of_made : (left : Remains) → left.names path ≡ disk.names path → left.names (old_log path) ≡ disk.names (old_log path) → disk.names (own_log path) ≡ None
            → HasFiles FileOrOld Has disk left → Has left
        of_made left file log none files =
            let earlier : Remains = record { names = disk.names; bytes = left.bytes } in
            let might : MayLeave disk earlier = record { names = inl refl; files = files } in
            let at : Option ℕ → Option (List ℕ) = λ o. option_map left.bytes o in
            of_new_log earlier left (ap at (sym file)) (ap at (sym log)) (ap at none) (safe earlier might)

        log_made : (next : Disk) → Does (Make (own_log path)) disk next → Fits FileOrOld Has next
        log_made next d =
            let file : d.0 path ≡ disk.names path = d.4 path (λ same. own_apart path (sym same)) in
            let log : d.0 (old_log path) ≡ disk.names (old_log path) = d.4 (old_log path) (λ same. logs_apart path (sym same)) in
            subst (Fits FileOrOld Has) (sym d.5) (record {
              safe = λ left may. ⊎_elim
                  (λ now. of_made left (ap (λ (n : Names). n path) now ∙ file) (ap (λ (n : Names). n (old_log path)) now ∙ log) d.6 may.files)
                  (λ earlier. safe left (record { names = earlier; files = may.files }))
                  may.names;
              loose = λ left agree files. of_made left (agree path (inl refl) ∙ file) (agree (old_log path) (inr refl) ∙ log) d.6 files;
            })

        may_be_made : (next : Disk) → MayDo (Make (own_log path)) disk next → Outlasts seen reads path v next
        may_be_made next (inl same) = subst (Outlasts seen reads path v) (sym same) safe
        may_be_made next (inr d) = (log_made next d).safe

        module _ (none : disk.names (old_log path) ≡ None) where
          of_renamed : (left : Remains) → left.names path ≡ disk.names path → left.names (old_log path) ≡ disk.names (own_log path) → HasFiles FileOrOld Has disk left → Has left
          of_renamed left file log files =
              let earlier : Remains = record { names = disk.names; bytes = left.bytes } in
              let might : MayLeave disk earlier = record { names = inl refl; files = files } in
              let at : Option ℕ → Option (List ℕ) = λ o. option_map left.bytes o in
              of_moved_log earlier left (ap at (sym file)) (ap at (sym log)) (ap at none) (safe earlier might)

          renamed : (next : Disk) → Does (Rename (own_log path) (old_log path)) disk next → Fits FileOrOld Has next
          renamed next d =
              let file : d.0 path ≡ disk.names path = d.2 path (λ same. own_apart path (sym same)) (old_behind path) in
              subst (Fits FileOrOld Has) (sym d.3) (record {
                safe = λ left may. ⊎_elim
                    (λ now. of_renamed left (ap (λ (n : Names). n path) now ∙ file) (ap (λ (n : Names). n (old_log path)) now ∙ d.1) may.files)
                    (λ earlier. safe left (record { names = earlier; files = may.files }))
                    may.names;
                loose = λ left agree files. of_renamed left (agree path (inl refl) ∙ file) (agree (old_log path) (inr refl) ∙ d.1) files;
              })

          may_be_renamed : (next : Disk) → MayDo (Rename (own_log path) (old_log path)) disk next → Outlasts seen reads path v next
          may_be_renamed next (inl same) = subst (Outlasts seen reads path v) (sym same) safe
          may_be_renamed next (inr d) = (renamed next d).safe

          unrenamed : (left : Remains) → MayLeaveDuring ((Rename (own_log path) (old_log path), false) ∷ []) disk left → Has left
          unrenamed left may = ⊎_elim (λ it. may_be_renamed it.0 it.1 left it.2) (λ it. may_be_renamed it.0 it.1 left it.2) may

          goes_on : (left : Remains) (events : List Event) → AllSpare FileOrOld Has events → MayLeaveDuring ((Rename (own_log path) (old_log path), true) ∷ events) disk left → Has left
          goes_on left events all may = ⊎_elim (λ it. may_be_renamed it.0 it.1 left it.2) (λ it. during FileOrOld Has events all it.0 (renamed it.0 it.1) left it.2) may

        module _ (left : Remains) where
          as_before : (next : Disk) → next ≡ disk → MayLeave next left → Has left
          as_before next same may = safe left (subst (λ (d : Disk). MayLeave d left) same may)

          -- the system says that no old log stands
          missed : (events : List Event) → (disk.names (old_log path) ≡ None → MayLeaveDuring events disk left → Has left) → MayLeaveDuring ((Miss (old_log path), true) ∷ events) disk left → Has left
          missed events later may = ⊎_elim (λ it. as_before it.0 it.1 it.2) (λ it. later it.1.0 (subst (λ (d : Disk). MayLeaveDuring events d left) it.1.1 it.2)) may

          -- the directory of a log that stands is synced
          synced_left : (directory : List ℕ) → MayLeaveDuring ((SyncDirectory directory, true) ∷ []) disk left → Has left
          synced_left directory may = ⊎_elim (λ it. as_before it.0 it.1 it.2) (λ it. ⊎_elim
              (λ here. safe left (record {
                names = ⊎_elim (λ now. inl now) (λ none. absurd none) (subst (λ (d : Disk). MayLeave d left) here.1 it.2).names;
                files = (subst (λ (d : Disk). MayLeave d left) here.1 it.2).files;
              }))
              (λ elsewhere. as_before it.0 elsewhere.1 it.2) it.1) may

          begun_left : (directory : List ℕ) → MayLeaveDuring (beginning path directory) disk left → Has left
          begun_left directory may = ⊎_elim (λ it. may_be_made it.0 it.1 left it.2)
              (λ it. during FileOrOld Has ((Permit path, true) ∷ (SyncDirectory directory, true) ∷ []) (tt, (tt, tt)) it.0 (log_made it.0 it.1) left it.2) may

          pub outlasts_opening : (kept : Bool) (before calls : List Event) → Opens kept path before (before ++ calls) → MayLeaveDuring calls disk left → Has left
          outlasts_opening true before calls (directory, standing, inl begun) may =
              begun_left directory (subst (λ (events : List Event). MayLeaveDuring events disk left) (append_cancel_left before calls (beginning path directory) begun) may)
          outlasts_opening true before calls (directory, standing, inr stood) may =
              synced_left directory (subst (λ (events : List Event). MayLeaveDuring events disk left) (append_cancel_left before calls ((SyncDirectory directory, true) ∷ []) stood) may)
          outlasts_opening false before calls same may =
              safe left (subst (λ (events : List Event). MayLeaveDuring events disk left) (append_cancel_left before calls [] (same ∙ sym (append-nil before))) may)

          part_left : (directory : List ℕ) (stop : PartingStop) → MayLeaveDuring (parting_until stop path directory) disk left → Has left
          part_left directory Untried may = safe left may
          part_left directory Unmissed may = ⊎_elim (λ it. as_before it.0 it.1 it.2) (λ it. as_before it.0 it.1 it.2) may
          part_left directory Untrusted may = missed [] (λ none still. safe left still) may
          part_left directory Unrenamed may = missed ((Rename (own_log path) (old_log path), false) ∷ []) (λ none still. unrenamed none left still) may
          part_left directory (Unbegun stop) may = missed ((Rename (own_log path) (old_log path), true) ∷ beginning_until stop path directory)
              (λ none still. goes_on none left (beginning_until stop path directory) (beginning_part_spares FileOrOld Has path directory own_spared stop) still) may

          pub outlasts_parting : (before calls : List Event) → AreOfParting path before (before ++ calls) → MayLeaveDuring calls disk left → Has left
          outlasts_parting before calls (inl parted) may =
              missed ((Rename (own_log path) (old_log path), true) ∷ beginning path parted.directory)
              (λ none still. goes_on none left (beginning path parted.directory) (beginning_spares FileOrOld Has path parted.directory own_spared) still)
              (subst (λ (events : List Event). MayLeaveDuring events disk left) (append_cancel_left before _ _ parted.calls) may)
          outlasts_parting before calls (inr (inl stops)) may =
              part_left stops.directory stops.stop (subst (λ (events : List Event). MayLeaveDuring events disk left) (append_cancel_left before _ _ stops.calls) may)
          outlasts_parting before calls (inr (inr found)) may =
              part_left [] Unmissed (subst (λ (events : List Event). MayLeaveDuring events disk left) (append_cancel_left before calls ((Miss (old_log path), false) ∷ []) found) may)

-- whatever a crash leaves of the disk, a start reads the version, or a greater one of its key, in the file
abbrev pub FileHas : {K X : Type 0} → (X → Version K) → (ℕ → List ℕ → Result X WireError) → List ℕ → X → Disk → Type 0
FileHas {K} {X} seen reads path v disk =
    (left : Remains) → MayLeave disk left → (versions : List X) → AreMessages reads (content_at left path) versions → HasAtLeast seen v versions

-- what the file has outlasts a crash while the logs are begun anew
pub outlasts_anew : {K X : Type 0} (seen : X → Version K) (reads : ℕ → List ℕ → Result X WireError) (path : List ℕ) (v : X) (disk : Disk) → FileHas seen reads path v disk → (left : Remains)
    (kept : Bool) (before calls : List Event) → IsAnew kept path before (before ++ calls) ⊎ StopsAnew path before (before ++ calls) → MayLeaveDuring calls disk left → IsKept seen reads path v left
outlasts_anew {X = X} seen reads path v disk has left kept before calls anew may map starts =
    of_row seen reads path v left map starts
    (anew_leaves path (λ (o : Option (List ℕ)). (versions : List X) → AreMessages reads (unwrap_or o []) versions → HasAtLeast seen v versions) disk has left kept before calls anew may
    starts.in_row starts.all_of_row)
