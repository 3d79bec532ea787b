-- A start after a crash during a history of acts.
use Rattle.std.specs.Prelude.{Contains}
use Rattle.std.proofs.Common.{◌≡◌, ◌⊎◌, inl, inr, ⊎_elim, ℕ, ◌<◌, ◌^◌, Bool, true, false, List, [], ◌∷◌, ◌++◌, length, Option, unwrap_or, Result, sym, ◌∙◌, ap, subst, append-nil, append_assoc}
use Rattle.std.specs.List.{All}
use Rattle.std.proofs.lemmas.List.{append_cancel_left}
use Rattle.std.proofs.lemmas.List.Elements.{All-head, All-tail, Contains-append_cases}
use Rattle.std.specs.declared.cmp.Ordering.{Ordering}
use Rattle.am_version_order.specs.Versions.{Version}
use Rattle.am_wire.specs.declared.error.WireError.{WireError}
use Rattle.am_wire.specs.declared.unknown.Unknown.{Unknown}
use Rattle.am_wire.specs.Unknown.{StaysWhole}
use Rattle.am_merge.proofs.Keys.{IsKeyOrder}
use Rattle.am_snapshot.specs.Encodings.{row_encoding}
use Rattle.am_snapshot.proofs.ReadAgain.{IsReadBack}
use Rattle.am_store.specs.Calls.{Call, Event, Remove, Make, Permit, Write, Sync, Rename, SyncDirectory, Miss}
use Rattle.am_store.specs.Crashes.{Disk, Remains, MayLeave, Does, MayDo, Changes, Runs, MayLeaveDuring, bytes_at}
use Rattle.am_store.specs.Histories.{Act, AreOf, AreOfAll, AreOfSave, Drop, InStates, IsKnownOf, OfStates, Open, Part, Rewrite, Save, states_of}
use Rattle.am_store.specs.Outlasting.{HasAtLeast, InRow, IsKept, IsState, Outlasts, StartsWith, WasInFile, content_at}
use Rattle.am_store.specs.Parting.{AreOfParting, EndsLogs, IsAnew, Opens, StopsAnew, anew_until, beginning, parting, parting_until, removing, renewing}
use Rattle.am_store.specs.Rewrites.{AreOfRewriting, calls_before, old_log, rewriting, rewriting_until}
use Rattle.am_store.specs.Saves.{DropsNew, IsDirectoryOf, IsSaved, beside, saving, saving_until}
use Rattle.am_store.proofs.Crashes.{is_done, right_after}
use Rattle.am_store.proofs.Outlasting.{first_held, later_held}
use Rattle.am_store.proofs.Parting.{FileHas, anew_leaves, opening_leaves, outlasts_anew, outlasts_opening, outlasts_parting, parting_leaves}
use Rattle.am_store.proofs.RewriteCrashes.{during}
use Rattle.am_store.proofs.RewriteOutlasting.{drop_from, file_has, outlasts, outlasts_drop, outlasts_saved, outlasts_stopped, rewriting_from, saved_from, stopped_from}

-- ---- calls leave the path of the directory
does_stay : (call : Call) (disk next : Disk) → Does call disk next → next.directory ≡ disk.directory
does_stay (Remove path) disk next d = ap (λ (x : Disk). x.directory) d.3
does_stay (Make path) disk next d = ap (λ (x : Disk). x.directory) d.5
does_stay (Permit path) disk next d = ap (λ (x : Disk). x.directory) d
does_stay (Write bytes) disk next d = ap (λ (x : Disk). x.directory) d
does_stay (Sync bytes) disk next d = ap (λ (x : Disk). x.directory) d
does_stay (Rename from to) disk next d = ap (λ (x : Disk). x.directory) d.3
does_stay (SyncDirectory path) disk next (inl here) = ap (λ (x : Disk). x.directory) here.1
does_stay (SyncDirectory path) disk next (inr elsewhere) = ap (λ (x : Disk). x.directory) elsewhere.1
does_stay (Miss path) disk next d = ap (λ (x : Disk). x.directory) d.1

may_stay : (call : Call) (disk next : Disk) → MayDo call disk next → next.directory ≡ disk.directory
may_stay (Remove path) disk next may = ⊎_elim (λ same. ap (λ (x : Disk). x.directory) same) (does_stay (Remove path) disk next) may
may_stay (Make path) disk next may = ⊎_elim (λ same. ap (λ (x : Disk). x.directory) same) (does_stay (Make path) disk next) may
may_stay (Permit path) disk next may = ⊎_elim (λ same. ap (λ (x : Disk). x.directory) same) (does_stay (Permit path) disk next) may
may_stay (Write bytes) disk next may = ⊎_elim (λ same. ap (λ (x : Disk). x.directory) same) (does_stay (Write bytes) disk next) may
may_stay (Sync bytes) disk next same = ap (λ (x : Disk). x.directory) same
may_stay (Rename from to) disk next may = ⊎_elim (λ same. ap (λ (x : Disk). x.directory) same) (does_stay (Rename from to) disk next) may
may_stay (SyncDirectory path) disk next same = ap (λ (x : Disk). x.directory) same
may_stay (Miss path) disk next same = ap (λ (x : Disk). x.directory) same

changes_stay : (call : Call) (done : Bool) (disk next : Disk) → Changes (call, done) disk next → next.directory ≡ disk.directory
changes_stay call true = does_stay call
changes_stay call false = may_stay call

runs_stay : (events : List Event) (disk new : Disk) → Runs events disk new → new.directory ≡ disk.directory
runs_stay [] disk new same = ap (λ (x : Disk). x.directory) same
runs_stay ((call, done) ∷ events) disk new (next, changes, runs) = runs_stay events next new runs ∙ changes_stay call done disk next changes

-- ---- the calls of an act come behind those before
abbrev Adds : List Event → List Event → Type 0
Adds before after = (made : List Event) × (after ≡ before ++ made)

adds_twice : (before between after : List Event) → Adds before between → Adds between after → Adds before after
adds_twice before between after (first, one) (last, two) = (first ++ last, two ∙ ap (λ (l : List Event). l ++ last) one ∙ append_assoc before first last)

anew_adds : (kept : Bool) (path : List ℕ) (before after : List Event) → IsAnew kept path before after ⊎ StopsAnew path before after → Adds before after
anew_adds kept path before after (inl anew) =
    let first = removing anew.old_stood anew.own_stood path anew.directory in
    let last = renewing kept path anew.directory in
    (first ++ last, anew.calls ∙ append_assoc before first last)
anew_adds kept path before after (inr stops) = (anew_until stops.stop path stops.directory, stops.calls)

nothing_added : (before after : List Event) → after ≡ before → Adds before after
nothing_added before after same = ([], same ∙ sym (append-nil before))

ends_adds : (kept : Bool) (path : List ℕ) (before after : List Event) → EndsLogs kept path before after → Adds before after
ends_adds true path before after anew = anew_adds true path before after (inl anew)
ends_adds false path before after (inl anew) = anew_adds false path before after (inl anew)
ends_adds false path before after (inr same) = nothing_added before after same

saved_adds : (path row : List ℕ) (before after : List Event) → IsSaved path row before after → Adds before after
saved_adds path row before after saved = (saving saved.stood path saved.directory row, saved.calls)

module _ {K X : Type 0} (seen : X → Version K) (cmp : K → K → Ordering) (path : List ℕ) (most : ℕ) where
  save_adds : (state : List X) (before after : List Event) → AreOfSave seen cmp path most state before after → Adds before after
  save_adds state before after (inl (kept, it)) =
      adds_twice before it.between after (saved_adds path (row_encoding seen state) before it.between it.saved) (ends_adds kept path it.between after it.anew)
  save_adds state before after (inr (inl (fault, stops))) = (saving_until stops.stop stops.stood stops.removed path (row_encoding seen state), stops.calls)
  save_adds state before after (inr (inr it)) =
      adds_twice before it.between after (saved_adds path (row_encoding seen state) before it.between it.saved) (anew_adds true path it.between after (inr it.stops))

  part_adds : (before after : List Event) → AreOfParting path before after → Adds before after
  part_adds before after (inl parted) = (parting path parted.directory, parted.calls)
  part_adds before after (inr (inl stops)) = (parting_until stops.stop path stops.directory, stops.calls)
  part_adds before after (inr (inr found)) = ((Miss (old_log path), false) ∷ [], found)

  rewrite_adds : (states : List (List X)) (before after : List Event) → AreOfRewriting seen cmp path most states before after → Adds before after
  rewrite_adds states before after (inl anew) = (rewriting anew.stood anew.ended path anew.directory anew.row, anew.calls)
  rewrite_adds states before after (inr (inl (state, fault, stops))) = (rewriting_until stops.stop stops.stood stops.removed stops.ended path stops.directory stops.row, stops.calls)
  rewrite_adds states before after (inr (inr (stage, come))) = (calls_before stage come.stood come.ended path come.directory come.row, come.calls)

  drop_adds : (before after : List Event) → DropsNew path before after → Adds before after
  drop_adds before after (inl same) = nothing_added before after same
  drop_adds before after (inr (removed, is)) = ((Remove (beside path), removed) ∷ [], is)

  open_adds : (kept : Bool) (before after : List Event) → Opens kept path before after → Adds before after
  open_adds true before after (directory, standing, inl begun) = (beginning path directory, begun)
  open_adds true before after (directory, standing, inr stood) = ((SyncDirectory directory, true) ∷ [], stood)
  open_adds false before after same = nothing_added before after same

  act_adds : (act : Act X) (before after : List Event) → AreOf seen cmp path most act before after → Adds before after
  act_adds Open before after (kept, opens) = open_adds kept before after opens
  act_adds (Save state) before after made = save_adds state before after made
  act_adds Part before after made = part_adds before after made
  act_adds (Rewrite states) before after made = rewrite_adds states before after made
  act_adds Drop before after made = drop_adds before after made

  all_add : (acts : List (Act X)) (before after : List Event) → AreOfAll seen cmp path most acts before after → Adds before after
  all_add [] before after same = nothing_added before after same
  all_add (act ∷ earlier) before after (between, first, last) = adds_twice before between after (all_add earlier before between first) (act_adds act between after last)

in_parts : (before between calls first last : List Event) → between ≡ before ++ first → before ++ calls ≡ between ++ last → calls ≡ first ++ last
in_parts before between calls first last one two =
    append_cancel_left before calls (first ++ last) (two ∙ ap (λ (l : List Event). l ++ last) one ∙ append_assoc before first last)

-- ---- what a start has
module _ {K X : Type 0} (seen : X → Version K) (cmp : K → K → Ordering) (keys : IsKeyOrder cmp) (is_value : X → Type 0) (plain : X → X) (unknown : Unknown)
    (reads : ℕ → List ℕ → Result X WireError) (back : (v : X) → is_value v × StaysWhole plain unknown v → IsReadBack seen reads v)
    (path : List ℕ) (most : ℕ) (small : most < 2 ^ 32) (v : X) where
  abbrev Kept : Remains → Type 0
  Kept left = IsKept seen reads path v left

  -- the row of a state isn't too long, it's read as it was, and it has the version
  pub record Covers (state : List X) : Type 0 where
    pub short : length (row_encoding seen state) < 2 ^ 64
    pub good : IsState seen cmp is_value plain unknown state
    pub has : HasAtLeast seen v state

  module _ (disk : Disk) (its : IsDirectoryOf path disk.directory) (safe : Outlasts seen reads path v disk) (left : Remains) where
    none_made : (before calls : List Event) → before ++ calls ≡ before → MayLeaveDuring calls disk left → Kept left
    none_made before calls same may =
        safe left (subst (λ (events : List Event). MayLeaveDuring events disk left) (append_cancel_left before calls [] (same ∙ sym (append-nil before))) may)

    module _ (state : List X) (covers : Covers state) where
      abbrev row : List ℕ
      row = row_encoding seen state

      saved_alone : (before calls : List Event) → IsSaved path row before (before ++ calls) → MayLeaveDuring calls disk left → Kept left
      saved_alone before calls saved may =
          outlasts_saved seen cmp is_value plain unknown reads back path state disk left covers.short covers.good saved.stood saved.directory
          (subst (λ (events : List Event). MayLeaveDuring events disk left) (append_cancel_left before _ _ saved.calls) may) v safe covers.has

      saved_then : (stood : Bool) (directory : List ℕ) → IsDirectoryOf path directory → (rest : List Event)
          → ((mid : Disk) → FileHas seen reads path v mid → MayLeaveDuring rest mid left → Kept left)
          → MayLeaveDuring (saving stood path directory row ++ rest) disk left → Kept left
      saved_then stood directory standing rest later may = ⊎_elim
          (λ early. outlasts_saved seen cmp is_value plain unknown reads back path state disk left covers.short covers.good stood directory early v safe covers.has)
          (λ late. later late.0
          (file_has seen cmp is_value plain unknown reads back path state late.0 v covers.short covers.good (is_done path row stood directory disk late.0 its standing late.1) covers.has)
          late.2)
          (during (saving stood path directory row) rest disk left may)

      saved_anew : (kept : Bool) (before between calls : List Event) → IsSaved path row before between → IsAnew kept path between (before ++ calls) ⊎ StopsAnew path between (before ++ calls)
          → MayLeaveDuring calls disk left → Kept left
      saved_anew kept before between calls saved ended may =
          let (rest, is) = anew_adds kept path between (before ++ calls) ended in
          saved_then saved.stood saved.directory saved.standing rest
          (λ mid in_file still. outlasts_anew seen reads path v mid in_file left kept between rest
          (subst (λ (events : List Event). IsAnew kept path between events ⊎ StopsAnew path between events) is ended) still)
          (subst (λ (events : List Event). MayLeaveDuring events disk left) (in_parts before between calls (saving saved.stood path saved.directory row) rest saved.calls is) may)

      saved_ended : (kept : Bool) (before between calls : List Event) → IsSaved path row before between → EndsLogs kept path between (before ++ calls)
          → MayLeaveDuring calls disk left → Kept left
      saved_ended true before between calls saved anew may = saved_anew true before between calls saved (inl anew) may
      saved_ended false before between calls saved (inl anew) may = saved_anew false before between calls saved (inl anew) may
      saved_ended false before between calls saved (inr same) may = saved_alone before calls (subst (IsSaved path row before) (sym same) saved) may

      of_save : (before calls : List Event) → AreOfSave seen cmp path most state before (before ++ calls) → MayLeaveDuring calls disk left → Kept left
      of_save before calls (inl (kept, it)) may = saved_ended kept before it.between calls it.saved it.anew may
      of_save before calls (inr (inl (fault, stops))) may =
          outlasts_stopped seen cmp is_value plain unknown reads back path state disk left covers.short covers.good stops.stop stops.stood stops.removed
          (subst (λ (events : List Event). MayLeaveDuring events disk left) (append_cancel_left before _ _ stops.calls) may) v safe covers.has
      of_save before calls (inr (inr it)) may = saved_anew true before it.between calls it.saved (inr it.stops) may

    of_drop : (before calls : List Event) → DropsNew path before (before ++ calls) → MayLeaveDuring calls disk left → Kept left
    of_drop before calls (inl same) may = none_made before calls same may
    of_drop before calls (inr (removed, is)) may =
        outlasts_drop seen reads path v disk left removed (subst (λ (events : List Event). MayLeaveDuring events disk left) (append_cancel_left before calls ((Remove (beside path), removed) ∷ []) is) may) safe

    of_rewrite : (states : List (List X)) → All Covers states → (before calls : List Event) → AreOfRewriting seen cmp path most states before (before ++ calls)
        → MayLeaveDuring calls disk left → Kept left
    of_rewrite states covers before calls made may map starts =
        outlasts seen cmp keys is_value plain unknown reads back path most states before calls disk small its (λ k d lt. (covers k d lt).good) made left may map starts v safe (λ k d lt. (covers k d lt).has)

    of_act : (act : Act X) → All Covers (states_of act) → (before calls : List Event) → AreOf seen cmp path most act before (before ++ calls) → MayLeaveDuring calls disk left → Kept left
    of_act Open covers before calls (kept, opens) may = outlasts_opening seen cmp keys reads path v disk safe left kept before calls opens may
    of_act (Save state) covers before calls made may = of_save state (All-head Covers state [] covers) before calls made may
    of_act Part covers before calls made may = outlasts_parting seen cmp keys reads path v disk safe left before calls made may
    of_act (Rewrite states) covers before calls made may = of_rewrite states covers before calls made may
    of_act Drop covers before calls made may = of_drop before calls made may

  -- a history of acts
  pub outlasts_all : (acts : List (Act X)) → OfStates Covers acts → (before calls : List Event) (disk : Disk) → IsDirectoryOf path disk.directory
      → AreOfAll seen cmp path most acts before (before ++ calls) → Outlasts seen reads path v disk → (left : Remains) → MayLeaveDuring calls disk left → Kept left
  outlasts_all [] covers before calls disk its same safe left may = none_made disk its safe left before calls same may
  outlasts_all (act ∷ earlier) covers before calls disk its (between, lead, is) safe left may =
      let (first, one) = all_add seen cmp path most earlier before between lead in
      let (last, two) = act_adds seen cmp path most act between (before ++ calls) is in
      let sooner : (l : Remains) → MayLeaveDuring first disk l → Kept l = outlasts_all earlier (All-tail (λ (a : Act X). All Covers (states_of a)) act earlier covers) before first disk its
      (subst (AreOfAll seen cmp path most earlier before) one lead) safe in
      ⊎_elim (sooner left)
      (λ late. of_act late.0 (subst (IsDirectoryOf path) (sym (runs_stay first disk late.0 late.1)) its) (λ l m. sooner l (right_after first disk late.0 l late.1 m)) left act
      (All-head (λ (a : Act X). All Covers (states_of a)) act earlier covers) between last (subst (AreOf seen cmp path most act between) two is) late.2)
      (during first last disk left (subst (λ (events : List Event). MayLeaveDuring events disk left) (in_parts before between calls first last one two) may))

-- ---- where a version comes from
module _ {K X : Type 0} (seen : X → Version K) (cmp : K → K → Ordering) (keys : IsKeyOrder cmp) (is_value : X → Type 0) (plain : X → X) (unknown : Unknown)
    (reads : ℕ → List ℕ → Result X WireError) (back : (v : X) → is_value v × StaysWhole plain unknown v → IsReadBack seen reads v)
    (path : List ℕ) (most : ℕ) (small : most < 2 ^ 32) (v : X) where
  -- the row of a state isn't too long, and it is read as it was
  abbrev pub IsReadable : List X → Type 0
  IsReadable state = (length (row_encoding seen state) < 2 ^ 64) × IsState seen cmp is_value plain unknown state

  abbrev InFile : Remains → Type 0
  InFile left = InRow seen reads (content_at left path) v

  -- the version is in one of these states, or was in the file before
  abbrev From : List (List X) → Disk → Type 0
  From states disk = ((state : List X) × Contains states state × Contains state v) ⊎ WasInFile seen reads path disk v

  abbrev InFileFrom : List (List X) → Disk → Option (List ℕ) → Type 0
  InFileFrom states disk found = InRow seen reads (unwrap_or found []) v → From states disk

  as_it_was : (states : List (List X)) (disk : Disk) (left : Remains) → MayLeave disk left → InFileFrom states disk (bytes_at left path)
  as_it_was states disk left may in_file = inr (left, may, in_file)

  module _ (disk : Disk) (its : IsDirectoryOf path disk.directory) where
    module _ (state : List X) (good : IsReadable state) where
      abbrev states : List (List X)
      states = state ∷ []

      abbrev its_row : List ℕ
      its_row = row_encoding seen state

      of_state : Contains state v ⊎ WasInFile seen reads path disk v → From states disk
      of_state from = ⊎_elim (λ held. inl (state, first_held state [], held)) (λ was. inr was) from

      saving_from : (stood : Bool) (directory : List ℕ) (left : Remains) → MayLeaveDuring (saving stood path directory its_row) disk left → InFileFrom states disk (bytes_at left path)
      saving_from stood directory left may in_file =
          of_state (saved_from seen cmp is_value plain unknown reads back path state disk left good.0 good.1 stood directory may v in_file)

      saving_alone : (left : Remains) (before calls : List Event) → IsSaved path its_row before (before ++ calls) → MayLeaveDuring calls disk left → InFileFrom states disk (bytes_at left path)
      saving_alone left before calls saved may =
          saving_from saved.stood saved.directory left (subst (λ (events : List Event). MayLeaveDuring events disk left) (append_cancel_left before _ _ saved.calls) may)

      saving_anew : (kept : Bool) (left : Remains) (before between calls : List Event) → IsSaved path its_row before between
          → IsAnew kept path between (before ++ calls) ⊎ StopsAnew path between (before ++ calls) → MayLeaveDuring calls disk left → InFileFrom states disk (bytes_at left path)
      saving_anew kept left before between calls saved ended may =
          let (rest, is) = anew_adds kept path between (before ++ calls) ended in
          let saves : List Event = saving saved.stood path saved.directory its_row in
          ⊎_elim (saving_from saved.stood saved.directory left)
          (λ late. anew_leaves path (InFileFrom states disk) late.0
          (λ l m. saving_from saved.stood saved.directory l (right_after saves disk late.0 l late.1 m)) left kept between rest
          (subst (λ (events : List Event). IsAnew kept path between events ⊎ StopsAnew path between events) is ended) late.2)
          (during saves rest disk left (subst (λ (events : List Event). MayLeaveDuring events disk left) (in_parts before between calls saves rest saved.calls is) may))

      saving_ended : (kept : Bool) (left : Remains) (before between calls : List Event) → IsSaved path its_row before between → EndsLogs kept path between (before ++ calls)
          → MayLeaveDuring calls disk left → InFileFrom states disk (bytes_at left path)
      saving_ended true left before between calls saved anew may = saving_anew true left before between calls saved (inl anew) may
      saving_ended false left before between calls saved (inl anew) may = saving_anew false left before between calls saved (inl anew) may
      saving_ended false left before between calls saved (inr same) may = saving_alone left before calls (subst (IsSaved path its_row before) (sym same) saved) may

      save_from : (left : Remains) (before calls : List Event) → AreOfSave seen cmp path most state before (before ++ calls) → MayLeaveDuring calls disk left → InFileFrom states disk (bytes_at left path)
      save_from left before calls (inl (kept, it)) may = saving_ended kept left before it.between calls it.saved it.anew may
      save_from left before calls (inr (inl (fault, stops))) may = λ in_file.
          of_state (stopped_from seen cmp is_value plain unknown reads back path state disk left good.0 good.1 stops.stop stops.stood stops.removed
          (subst (λ (events : List Event). MayLeaveDuring events disk left) (append_cancel_left before _ _ stops.calls) may) v in_file)
      save_from left before calls (inr (inr it)) may = saving_anew true left before it.between calls it.saved (inr it.stops) may

    act_from : (act : Act X) → All IsReadable (states_of act) → (left : Remains) (before calls : List Event) → AreOf seen cmp path most act before (before ++ calls) → MayLeaveDuring calls disk left
        → InFileFrom (states_of act) disk (bytes_at left path)
    act_from Open good left before calls (kept, opens) may = opening_leaves path (InFileFrom [] disk) disk (as_it_was [] disk) left kept before calls opens may
    act_from (Save state) good left before calls made may = save_from state (All-head IsReadable state [] good) left before calls made may
    act_from Part good left before calls made may = parting_leaves path (InFileFrom [] disk) disk (as_it_was [] disk) left before calls made may
    act_from (Rewrite states) good left before calls made may =
        rewriting_from seen cmp keys is_value plain unknown reads back path most states before calls disk small its (λ k d lt. (good k d lt).1) made left may v
    act_from Drop good left before calls (inl same) may =
        as_it_was [] disk left (subst (λ (events : List Event). MayLeaveDuring events disk left) (append_cancel_left before calls [] (same ∙ sym (append-nil before))) may)
    act_from Drop good left before calls (inr (removed, is)) may = λ in_file.
        inr (drop_from seen reads path v disk left removed
        (subst (λ (events : List Event). MayLeaveDuring events disk left) (append_cancel_left before calls ((Remove (beside path), removed) ∷ []) is) may) in_file)

  -- the version is in a state of these acts, or was in the file before
  abbrev FromActs : List (Act X) → Disk → Type 0
  FromActs acts disk = InStates seen reads path acts v ⊎ WasInFile seen reads path disk v

  more_acts : (act : Act X) (acts : List (Act X)) (disk : Disk) → FromActs acts disk → FromActs (act ∷ acts) disk
  more_acts act acts disk from = ⊎_elim (λ it. inl (it.0, later_held act acts it.0 it.1, it.2, it.3, it.4)) (λ was. inr was) from

  all_from : (acts : List (Act X)) → OfStates IsReadable acts → (before calls : List Event) (disk : Disk) → IsDirectoryOf path disk.directory
      → AreOfAll seen cmp path most acts before (before ++ calls) → (left : Remains) → MayLeaveDuring calls disk left → InFile left → FromActs acts disk
  all_from [] good before calls disk its same left may in_file =
      inr (left, subst (λ (events : List Event). MayLeaveDuring events disk left) (append_cancel_left before calls [] (same ∙ sym (append-nil before))) may, in_file)
  all_from (act ∷ earlier) good before calls disk its (between, lead, is) left may in_file =
      let (first, one) = all_add seen cmp path most earlier before between lead in
      let (last, two) = act_adds seen cmp path most act between (before ++ calls) is in
      let sooner : (l : Remains) → MayLeaveDuring first disk l → InFile l → FromActs (act ∷ earlier) disk =
      λ l m i. more_acts act earlier disk (all_from earlier (All-tail (λ (a : Act X). All IsReadable (states_of a)) act earlier good) before first disk its
      (subst (AreOfAll seen cmp path most earlier before) one lead) l m i) in
      ⊎_elim (λ early. sooner left early in_file)
      (λ late. ⊎_elim
      (λ it. inl (act, first_held act earlier, it.0, it.1, it.2))
      (λ was. sooner was.0 (right_after first disk late.0 was.0 late.1 was.1) was.2)
      (act_from late.0 (subst (IsDirectoryOf path) (sym (runs_stay first disk late.0 late.1)) its) act
      (All-head (λ (a : Act X). All IsReadable (states_of a)) act earlier good) left between last (subst (AreOf seen cmp path most act between) two is) late.2 in_file))
      (during first last disk left (subst (λ (events : List Event). MayLeaveDuring events disk left) (in_parts before between calls first last one two) may))

  pub nothing_new_of_all : (acts : List (Act X)) → OfStates IsReadable acts → (before calls : List Event) (disk : Disk) → IsDirectoryOf path disk.directory
      → AreOfAll seen cmp path most acts before (before ++ calls) → (left : Remains) → MayLeaveDuring calls disk left
      → (map : List X) → StartsWith seen reads path left map → Contains map v → IsKnownOf seen reads path acts disk left v
  nothing_new_of_all acts good before calls disk its made left may map starts held = ⊎_elim
      (λ some. ⊎_elim
      (λ row. inr (inr (all_from acts good before calls disk its made left may (starts.in_row, starts.all_of_row, row))))
      (λ old. inr (inl (starts.in_first, starts.all_of_first, old)))
      (Contains-append_cases starts.in_row starts.in_first v some))
      (λ own. inl (starts.in_second, starts.all_of_second, own))
      (Contains-append_cases (starts.in_row ++ starts.in_first) starts.in_second v (starts.best.best v held).member)
