-- A start after a crash while a file is written anew.
use Rattle.std.specs.Prelude.{⊤, Contains}
use Rattle.std.proofs.Common.{◌≡◌, ◌⊎◌, inl, inr, ⊎_elim, ℕ, ◌<◌, ◌≤◌, ◌^◌, Bool, true, false, List, [], ◌∷◌, ◌++◌, length, get_or, Option, Some, None, unwrap_or, Result, refl, sym, ◌∙◌, ap, subst, arith}
use Rattle.std.specs.List.{All}
use Rattle.std.proofs.lemmas.List.{append_cancel_left}
use Rattle.std.proofs.lemmas.List.Elements.{All-contains, All-contains_itself, Contains-append_cases}
use Rattle.std.specs.declared.cmp.Ordering.{Ordering}
use Rattle.am_version_order.specs.Versions.{Version}
use Rattle.am_wire.specs.declared.error.WireError.{WireError}
use Rattle.am_wire.specs.declared.unknown.Unknown.{Unknown}
use Rattle.am_wire.specs.Unknown.{StaysWhole}
use Rattle.am_wire.specs.Inputs.{AreMessages}
use Rattle.am_merge.specs.Maps.{IsMap}
use Rattle.am_merge.proofs.Keys.{IsKeyOrder}
use Rattle.am_snapshot.specs.Encodings.{row_encoding}
use Rattle.am_snapshot.proofs.ReadAgain.{IsReadBack}
use Rattle.am_store.specs.Blocks.{recovered}
use Rattle.am_store.specs.Calls.{Event, Remove, Make, Sync, Rename, SyncDirectory}
use Rattle.am_store.specs.Crashes.{Disk, Remains, Keeps, MayLeave, MayLeaveDuring, bytes_at}
use Rattle.am_store.specs.Saves.{IsDirectoryOf, Name, Row, Stop, Unnamed, Unreplaced, Unsettled, beside, replacing, saving, saving_until}
use Rattle.am_store.specs.declared.stages.CompactionStage.{CompactionStage}
use Rattle.am_store.specs.declared.stages.CompactionStage.TheVariants as stages
use Rattle.am_store.specs.Rewrites.{AreOfRewriting, First, End, Has, HasWhole, IsCause, IsWritten, Place, RewritingStop, LogUnnamed, LogKept, LogUnsettled, Unsaved, calls_before, making, new_bytes, old_log, own_log, place_from, place_of, rewriting, rewriting_until}
use Rattle.am_store.specs.Logs.{AreInBatches}
use Rattle.am_store.specs.Outlasting.{HasAtLeast, InRow, IsKept, IsKnown, IsState, Outlasts, StartsWith, WasInFile, content_at}
use Rattle.am_store.proofs.Crashes.{Fine, is_saved, is_stopped, new_removed, removing}
use Rattle.am_store.proofs.BlockLemmas.{recovered_none}
use Rattle.am_store.proofs.Outlasting.{IsOf, Reaches, none_held, of_row, pieces_of, same_start}
use Rattle.am_store.proofs.Parting.{FileHas}
use Rattle.am_store.proofs.ReadRows.{read_same}
use Rattle.am_store.proofs.RewriteCrashes.{leaves_new, log_covers, sooner}

-- ---- what is left: the file and the two logs as before, or the new file, and of the old logs no other than before
module _ (path : List ℕ) (disk : Disk) where
  pub record AsBefore (found there log : Option (List ℕ)) : Type 0 where
    pub earlier : Remains
    pub might : MayLeave disk earlier
    pub file : bytes_at earlier path ≡ found
    pub first : bytes_at earlier (old_log path) ≡ there
    pub second : bytes_at earlier (own_log path) ≡ log

  pub record LogsBefore (there log : Option (List ℕ)) : Type 0 where
    pub earlier : Remains
    pub might : MayLeave disk earlier
    pub first : (bytes_at earlier (old_log path) ≡ there) ⊎ (there ≡ None)
    pub second : bytes_at earlier (own_log path) ≡ log

  renews : (found there log : Option (List ℕ)) → AsBefore found there log → LogsBefore there log
  renews found there log is = record { earlier = is.earlier; might = is.might; first = inl is.first; second = is.second }

  gone : (there log : Option (List ℕ)) → LogsBefore there log → LogsBefore None log
  gone there log is = record { earlier = is.earlier; might = is.might; first = inr refl; second = is.second }

  before : (left : Remains) → MayLeave disk left → AsBefore (bytes_at left path) (bytes_at left (old_log path)) (bytes_at left (own_log path))
  before left may = record { earlier = left; might = may; file = refl; first = refl; second = refl }

  abbrev pub IsLeft : List ℕ → Type 0 → Remains → Type 0
  IsLeft row whole left =
      AsBefore (bytes_at left path) (bytes_at left (old_log path)) (bytes_at left (own_log path))
      ⊎ (whole × (bytes_at left path ≡ Some row) × LogsBefore (bytes_at left (old_log path)) (bytes_at left (own_log path)))

  module _ (its : IsDirectoryOf path disk.directory) (left : Remains) where
    whole_left : (row : List ℕ) (stood ended : Bool) (directory : List ℕ) → IsDirectoryOf path directory → MayLeaveDuring (rewriting stood ended path directory row) disk left → IsLeft row ⊤ left
    whole_left row stood ended directory standing may =
        ⊎_elim (λ old. inl old) (λ new. inr (tt, new.0, new.1)) (log_covers path disk left AsBefore LogsBefore renews gone before its row stood ended directory standing may)

    part_left : {K : Type 0} (row : List ℕ) (place : Place K) (stood removed ended : Bool) (directory : List ℕ) (stop : RewritingStop) → HasWhole stop place
        → (stop ≡ LogKept → IsDirectoryOf path directory) → (stop ≡ LogUnsettled → IsDirectoryOf path directory)
        → MayLeaveDuring (rewriting_until stop stood removed ended path directory row) disk left → IsLeft row (place ≡ End) left
    part_left row place stood removed ended directory stop is k u may =
        leaves_new path disk left AsBefore LogsBefore renews gone before its row place stood removed ended directory stop is k u may

    -- a rewriting that is under way might stop, or be done
    come_left : {K F : Type 0} (contents : F → Option (List ℕ)) (stage : CompactionStage K F) (row : List ℕ) (stood ended : Bool) (directory : List ℕ)
        → Has contents stage path directory row → MayLeaveDuring (calls_before stage stood ended path directory row) disk left → IsLeft row (place_of stage ≡ End) left
    come_left contents stages.GiveBack row stood ended directory has may = part_left row First stood false ended directory (Unsaved Unnamed) tt (λ e. absurd cc) (λ e. absurd cc) may
    come_left contents stages.Make row stood ended directory has may = part_left row First stood false ended directory (Unsaved Unnamed) tt (λ e. absurd cc) (λ e. absurd cc) may
    come_left contents (stages.Write new from) row stood ended directory has may =
        part_left row (place_from from) stood false ended directory (Unsaved (Unreplaced Row)) tt (λ e. absurd cc) (λ e. absurd cc)
        (sooner (making stood path) ((Remove (beside path), false) ∷ []) disk left may)
    come_left contents (stages.HandOver new) row stood ended directory has may =
        part_left row End stood false ended directory (Unsaved (Unreplaced Row)) tt (λ e. absurd cc) (λ e. absurd cc)
        (sooner (making stood path) ((Remove (beside path), false) ∷ []) disk left may)
    come_left contents (stages.Rename new) row stood ended directory has may =
        part_left row End stood false ended directory (Unsaved (Unreplaced Name)) refl (λ e. absurd cc) (λ e. absurd cc)
        (sooner (making stood path ++ (Sync (Some row), true) ∷ []) ((Rename (beside path) path, false) ∷ (Remove (beside path), false) ∷ []) disk left may)
    come_left contents (stages.Settle replaced) row stood ended directory has may =
        part_left row End stood false ended directory (Unsaved (Unsettled directory)) refl (λ e. absurd cc) (λ e. absurd cc)
        (sooner ((Remove (beside path), stood) ∷ (Make (beside path), true) ∷ replacing path row) ((SyncDirectory directory, false) ∷ []) disk left may)
    come_left contents stages.EndLog row stood ended directory has may =
        part_left row End stood false ended directory LogUnnamed refl (λ e. has) (λ e. has) may
    come_left contents (stages.SettleEnd log) row stood ended directory has may =
        part_left row End stood false ended directory LogUnsettled refl (λ e. has) (λ e. has)
        (sooner (saving stood path directory row ++ (Remove (old_log path), ended) ∷ []) ((SyncDirectory directory, false) ∷ []) disk left may)
    come_left contents stages.Done row stood ended directory has may =
        ⊎_elim (λ old. inl old) (λ new. inr (refl, new.1, new.2)) (whole_left row stood ended directory has may)

-- ---- what is written of the states
module _ {K X : Type 0} (seen : X → Version K) (cmp : K → K → Ordering) (path : List ℕ) (most : ℕ) (states : List (List X)) (disk : Disk) (its : IsDirectoryOf path disk.directory) (left : Remains) where
  -- a row of pieces of the states takes the place of the file, or nothing
  pub record Leaves : Type 0 where
    pub row : List ℕ
    pub place : Place K
    pub written : IsWritten seen cmp states row place
    pub fits : length row ≤ most
    pub is : IsLeft path disk row (place ≡ End) left

  during : (before calls made : List Event) → before ++ calls ≡ before ++ made → MayLeaveDuring calls disk left → MayLeaveDuring made disk left
  during before calls made same may = subst (λ (events : List Event). MayLeaveDuring events disk left) (append_cancel_left before calls made same) may

  pub of_rewriting : (before calls : List Event) → AreOfRewriting seen cmp path most states before (before ++ calls) → MayLeaveDuring calls disk left → Leaves
  of_rewriting before calls (inl anew) may = record {
    row = anew.row;
    place = End;
    written = anew.written;
    fits = anew.fits;
    is = ⊎_elim (λ old. inl old) (λ new. inr (refl, new.1, new.2))
        (whole_left path disk its left anew.row anew.stood anew.ended anew.directory anew.standing (during before calls (rewriting anew.stood anew.ended path anew.directory anew.row) anew.calls may));
  }
  of_rewriting before calls (inr (inl (state, fault, stops))) may =
      record {
        row = stops.row;
        place = stops.place;
        written = stops.written;
        fits = stops.fits;
        is = part_left path disk its left stops.row stops.place stops.stood stops.removed stops.ended stops.directory stops.stop stops.whole
            (λ e. (subst (λ (s : RewritingStop). IsCause seen cmp path most s state states stops.directory fault) e stops.cause).0)
            (λ e. (subst (λ (s : RewritingStop). IsCause seen cmp path most s state states stops.directory fault) e stops.cause).0)
            (during before calls (rewriting_until stops.stop stops.stood stops.removed stops.ended path stops.directory stops.row) stops.calls may);
      }
  of_rewriting before calls (inr (inr (stage, come))) may = record {
    row = come.row;
    place = place_of stage;
    written = come.written;
    fits = come.fits;
    is = come_left path disk its left new_bytes stage come.row come.stood come.ended come.directory come.has
        (during before calls (calls_before stage come.stood come.ended path come.directory come.row) come.calls may);
  }

-- ---- a new file is read as the versions that it was made of
row_read_again : {K X : Type 0} (seen : X → Version K) (reads : ℕ → List ℕ → Result X WireError) (path : List ℕ) (left : Remains) (in_row : List X) → AreMessages reads (content_at left path) in_row
    → (row : List ℕ) (versions : List X) → bytes_at left path ≡ Some row → row ≡ row_encoding seen versions → length row < 2 ^ 64 → All (IsReadBack seen reads) versions → in_row ≡ versions
row_read_again seen reads path left in_row all row versions found text small back =
    read_same seen reads versions in_row back (omega (arith, small, ap length text))
    (subst (λ (bytes : List ℕ). AreMessages reads bytes in_row) (ap (λ (o : Option (List ℕ)). unwrap_or o []) found ∙ text) all)

-- a file that is kept with the row of a state has what the state has
pub file_has : {K X : Type 0} (seen : X → Version K) (cmp : K → K → Ordering) (is_value : X → Type 0) (plain : X → X) (unknown : Unknown)
    (reads : ℕ → List ℕ → Result X WireError) (back : (v : X) → is_value v × StaysWhole plain unknown v → IsReadBack seen reads v)
    (path : List ℕ) (state : List X) (disk : Disk) (v : X) → length (row_encoding seen state) < 2 ^ 64 → IsState seen cmp is_value plain unknown state
    → Keeps disk path (Some (row_encoding seen state)) → HasAtLeast seen v state → FileHas seen reads path v disk
file_has seen cmp is_value plain unknown reads back path state disk v small is keeps has left may versions all =
    subst (HasAtLeast seen v) (sym (read_same seen reads state versions (λ k d lt. back (get_or state k d) (is.values k d lt, is.whole k d lt)) small
    (subst (λ (o : Option (List ℕ)). AreMessages reads (unwrap_or o []) versions) (keeps left may) all))) has

-- ---- what a start has after a save
module _ {K X : Type 0} (seen : X → Version K) (cmp : K → K → Ordering) (is_value : X → Type 0) (plain : X → X) (unknown : Unknown)
    (reads : ℕ → List ℕ → Result X WireError) (back : (v : X) → is_value v × StaysWhole plain unknown v → IsReadBack seen reads v)
    (path : List ℕ) (state : List X) (disk : Disk) (left : Remains)
    (small : length (row_encoding seen state) < 2 ^ 64) (is : IsState seen cmp is_value plain unknown state) where
  abbrev row : List ℕ
  row = row_encoding seen state

  abbrev BeforeOrNew : Option (List ℕ) → Option (List ℕ) → Option (List ℕ) → Type 0
  BeforeOrNew found there log = AsBefore path disk found there log ⊎ (found ≡ Some row)

  keeps : Fine path row BeforeOrNew left → (v : X) → Outlasts seen reads path v disk → HasAtLeast seen v state → IsKept seen reads path v left
  keeps fine v safe has map starts = ⊎_elim
      (λ old. safe old.earlier old.might map (same_start seen reads path old.earlier left map old.file old.first old.second starts))
      (λ new. of_row seen reads path v left map starts (subst (HasAtLeast seen v) (sym (row_read_again seen reads path left starts.in_row starts.all_of_row row state new refl small
      (λ k d lt. back (get_or state k d) (is.values k d lt, is.whole k d lt)))) has))
      fine

  comes : Fine path row BeforeOrNew left → (v : X) → InRow seen reads (content_at left path) v → Contains state v ⊎ WasInFile seen reads path disk v
  comes fine v (versions, all, held) = ⊎_elim
      (λ old. inr (old.earlier, old.might, (versions, subst (λ (o : Option (List ℕ)). AreMessages reads (unwrap_or o []) versions) (sym old.file) all, held)))
      (λ new. inl (subst (λ (vs : List X). Contains vs v) (row_read_again seen reads path left versions all row state new refl small
      (λ k d lt. back (get_or state k d) (is.values k d lt, is.whole k d lt))) held))
      fine

  pub saved_from : (stood : Bool) (directory : List ℕ) → MayLeaveDuring (saving stood path directory row) disk left → (v : X) → InRow seen reads (content_at left path) v
      → Contains state v ⊎ WasInFile seen reads path disk v
  saved_from stood directory may =
      comes (is_saved path row BeforeOrNew (λ found there log new. inr refl) left stood directory disk (λ l m. inl (before path disk l m)) may)

  pub stopped_from : (stop : Stop) (stood removed : Bool) → MayLeaveDuring (saving_until stop stood removed path row) disk left → (v : X) → InRow seen reads (content_at left path) v
      → Contains state v ⊎ WasInFile seen reads path disk v
  stopped_from stop stood removed may =
      comes (is_stopped path row BeforeOrNew (λ found there log new. inr refl) left stop stood removed disk (λ l m. inl (before path disk l m)) may)

  pub outlasts_saved : (stood : Bool) (directory : List ℕ) → MayLeaveDuring (saving stood path directory row) disk left → (v : X) → Outlasts seen reads path v disk → HasAtLeast seen v state
      → IsKept seen reads path v left
  outlasts_saved stood directory may =
      keeps (is_saved path row BeforeOrNew (λ found there log new. inr refl) left stood directory disk (λ l m. inl (before path disk l m)) may)

  pub outlasts_stopped : (stop : Stop) (stood removed : Bool) → MayLeaveDuring (saving_until stop stood removed path row) disk left → (v : X) → Outlasts seen reads path v disk → HasAtLeast seen v state
      → IsKept seen reads path v left
  outlasts_stopped stop stood removed may =
      keeps (is_stopped path row BeforeOrNew (λ found there log new. inr refl) left stop stood removed disk (λ l m. inl (before path disk l m)) may)

-- ---- what a start has after the new file is removed
module _ {K X : Type 0} (seen : X → Version K) (reads : ℕ → List ℕ → Result X WireError) (path : List ℕ) (v : X) (disk : Disk) (left : Remains) where
  removed_leaves : (done : Bool) → MayLeaveDuring ((Remove (beside path), done) ∷ []) disk left → Fine path [] (AsBefore path disk) left
  removed_leaves done may = ⊎_elim
      (λ it. new_removed path [] (AsBefore path disk) disk it.0 it.1 (before path disk) left it.2)
      (λ it. new_removed path [] (AsBefore path disk) disk it.0 (removing (beside path) done disk it.0 it.1) (before path disk) left it.2)
      may

  pub drop_from : (done : Bool) → MayLeaveDuring ((Remove (beside path), done) ∷ []) disk left → InRow seen reads (content_at left path) v → WasInFile seen reads path disk v
  drop_from done may (versions, all, held) =
      let old = removed_leaves done may in
      (old.earlier, old.might, (versions, subst (λ (o : Option (List ℕ)). AreMessages reads (unwrap_or o []) versions) (sym old.file) all, held))

  pub outlasts_drop : (done : Bool) → MayLeaveDuring ((Remove (beside path), done) ∷ []) disk left → Outlasts seen reads path v disk → IsKept seen reads path v left
  outlasts_drop done may safe map starts =
      let old = removed_leaves done may in
      safe old.earlier old.might map (same_start seen reads path old.earlier left map old.file old.first old.second starts)

-- ---- what a start has
module _ {K X : Type 0} (seen : X → Version K) (cmp : K → K → Ordering) (keys : IsKeyOrder cmp) (is_value : X → Type 0) (plain : X → X) (unknown : Unknown)
    (reads : ℕ → List ℕ → Result X WireError) (back : (v : X) → is_value v × StaysWhole plain unknown v → IsReadBack seen reads v)
    (path : List ℕ) (most : ℕ) (states : List (List X)) (earlier calls : List Event) (disk : Disk) (small : most < 2 ^ 32) (its : IsDirectoryOf path disk.directory)
    (are : All (IsState seen cmp is_value plain unknown) states) (made : AreOfRewriting seen cmp path most states earlier (earlier ++ calls)) where
  orders : All (IsMap seen cmp) states
  orders k d lt = (are k d lt).order

  module _ (left : Remains) (may : MayLeaveDuring calls disk left) where
    leaves : Leaves seen cmp path most states disk its left
    leaves = of_rewriting seen cmp path most states disk its left earlier calls made may

    pieces : IsOf seen cmp keys states leaves.row leaves.place
    pieces = pieces_of seen cmp keys states leaves.row leaves.place orders leaves.written

    readable : (v : X) → Contains pieces.versions v → IsReadBack seen reads v
    readable v held =
        let (state, among, has) = pieces.from v held in
        let is = All-contains (IsState seen cmp is_value plain unknown) states state are among in
        back v (All-contains is_value state v is.values has, All-contains (StaysWhole plain unknown) state v is.whole has)

    new_row : (in_row : List X) → AreMessages reads (content_at left path) in_row → bytes_at left path ≡ Some leaves.row → in_row ≡ pieces.versions
    new_row in_row all found =
        row_read_again seen reads path left in_row all leaves.row pieces.versions found pieces.text (omega (arith, small, leaves.fits))
        (λ k d lt. readable (get_or pieces.versions k d) (All-contains_itself pieces.versions k d lt))

    pub rewriting_from : (v : X) → InRow seen reads (content_at left path) v → ((state : List X) × Contains states state × Contains state v) ⊎ WasInFile seen reads path disk v
    rewriting_from v (versions, all, held) = ⊎_elim
        (λ old. inr (old.earlier, old.might, (versions, subst (λ (o : Option (List ℕ)). AreMessages reads (unwrap_or o []) versions) (sym old.file) all, held)))
        (λ new. inl (pieces.from v (subst (λ (vs : List X). Contains vs v) (new_row versions all new.1) held)))
        leaves.is

    module _ (map : List X) (starts : StartsWith seen reads path left map) where
      pub outlasts : (v : X) → Outlasts seen reads path v disk → All (HasAtLeast seen v) states → HasAtLeast seen v map
      outlasts v safe all = ⊎_elim
          (λ old. safe old.earlier old.might map (same_start seen reads path old.earlier left map old.file old.first old.second starts))
          (λ new. ⊎_elim
          (λ has. of_row seen reads path v left map starts (subst (HasAtLeast seen v) (sym (new_row starts.in_row starts.all_of_row new.1)) has))
          (λ never. absurd (subst (λ (p : Place K). Reaches seen cmp keys p (seen v).key) new.0 never))
          (pieces.covers v all))
          leaves.is

      pub nothing_new : (v : X) → Contains map v → IsKnown seen reads path states disk left v
      nothing_new v held = ⊎_elim (λ some. ⊎_elim of_the_row of_the_old_log (Contains-append_cases starts.in_row starts.in_first v some))
          (λ own. inl (starts.in_second, starts.all_of_second, own))
          (Contains-append_cases (starts.in_row ++ starts.in_first) starts.in_second v (starts.best.best v held).member)
        where
          same_bytes : (earlier : Remains) (p : List ℕ) → bytes_at earlier p ≡ bytes_at left p → content_at left p ≡ content_at earlier p
          same_bytes earlier p same = ap (λ (o : Option (List ℕ)). unwrap_or o []) (sym same)

          of_the_row : Contains starts.in_row v → IsKnown seen reads path states disk left v
          of_the_row in_row = ⊎_elim (λ state. inr (inl state)) (λ was. inr (inr (was.0, was.1, inl was.2))) (rewriting_from v (starts.in_row, starts.all_of_row, in_row))

          in_old_log : (earlier : Remains) → MayLeave disk earlier → bytes_at earlier (old_log path) ≡ bytes_at left (old_log path) → Contains starts.in_first v → IsKnown seen reads path states disk left v
          in_old_log earlier might same in_first =
              inr (inr (earlier, might, inr (starts.in_first, subst (λ (log : List ℕ). AreInBatches seen reads (recovered log) starts.in_first) (same_bytes earlier (old_log path) same) starts.all_of_first, in_first)))

          none_in : bytes_at left (old_log path) ≡ None → Contains starts.in_first v → ⊥
          none_in none in_first =
              none_held v (subst (λ (vs : List X). Contains vs v)
              (subst (λ (batches : List (List ℕ)). AreInBatches seen reads batches starts.in_first) (recovered_none [] refl)
              (subst (λ (o : Option (List ℕ)). AreInBatches seen reads (recovered (unwrap_or o [])) starts.in_first) none starts.all_of_first)) in_first)

          of_the_old_log : Contains starts.in_first v → IsKnown seen reads path states disk left v
          of_the_old_log in_first = ⊎_elim
              (λ old. in_old_log old.earlier old.might old.first in_first)
              (λ new. ⊎_elim (λ same. in_old_log new.2.earlier new.2.might same in_first) (λ none. absurd (none_in none in_first)) new.2.first)
              leaves.is
