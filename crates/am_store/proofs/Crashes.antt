-- The files that a crash of a save leaves.
use Rattle.std.proofs.Common.{◌≡◌, ◌≢◌, inl, inr, ⊎_elim, ℕ, ◌==◌, if◌then◌else◌, Bool, true, false, List, [], ◌∷◌, ◌++◌, length, get_or, codes, Option, Some, None, IfSome, option_map, refl, sym, ◌∙◌, ap, subst, arith, length-append, ne_eqb}
use Rattle.std.proofs.lemmas.Bool.{cases_eq, eq-eqb}
use Rattle.std.proofs.lemmas.List.{append_cancel_left}
use Rattle.std.proofs.Math.Seq.{get_or-append_seam}
use Rattle.am_store.specs.Calls.{Call, Event, Remove, Make, Permit, Sync, Rename, SyncDirectory}
use Rattle.am_store.specs.Saves.{HasNoSlash, IsCut, IsDirectoryOf, Lack, Permissions, Row, Safety, Name, Stop, Unnamed, Unmade, Unreplaced, Unsettled, beside, replacing, replacing_until, saving, saving_until}
use Rattle.am_store.specs.Rewrites.{old_log, own_log}
use Rattle.am_store.specs.Crashes.{Agrees, Exactly, Known, Names, Disk, Remains, IsAmong, MayLeave, Keeps, Does, MayDo, Changes, Runs, MayLeaveDuring, bytes_at, with_names}

-- ---- a file has one directory
slash_inside : (before name : List ℕ) → HasNoSlash (before ++ 47 ∷ name) → ⊥
slash_inside before name none = none (length before) (omega (arith, length-append before (47 ∷ name))) (get_or-append_seam before 47 name 0)

heads : (a b : ℕ) (xs ys : List ℕ) → a ∷ xs ≡ b ∷ ys → a ≡ b
heads a b xs ys e = cc

tails : (a b : ℕ) (xs ys : List ℕ) → a ∷ xs ≡ b ∷ ys → xs ≡ ys
tails a b xs ys e = cc

one_cut : (before other name last : List ℕ) → HasNoSlash name → HasNoSlash last → before ++ 47 ∷ name ≡ other ++ 47 ∷ last → before ≡ other
one_cut [] [] name last p q e = refl
one_cut [] (b ∷ other) name last p q e = absurd (slash_inside other last (subst HasNoSlash (tails 47 b name (other ++ 47 ∷ last) e) p))
one_cut (a ∷ before) [] name last p q e = absurd (slash_inside before name (subst HasNoSlash (sym (tails a 47 (before ++ 47 ∷ name) last e)) q))
one_cut (a ∷ before) (b ∷ other) name last p q e =
    let rest = one_cut before other name last p q (tails a b (before ++ 47 ∷ name) (other ++ 47 ∷ last) e) in
    ap (λ (n : ℕ). n ∷ before) (heads a b (before ++ 47 ∷ name) (other ++ 47 ∷ last) e) ∙ ap (λ (l : List ℕ). b ∷ l) rest

uncut : (path before name : List ℕ) → HasNoSlash path → IsCut path before name → ⊥
uncut path before name none cut = slash_inside before name (subst HasNoSlash cut.parts none)

pub one_directory : (path a b : List ℕ) → IsDirectoryOf path a → IsDirectoryOf path b → a ≡ b
one_directory path a b (inl p) (inl q) = p.1 ∙ sym q.1
one_directory path a b (inl p) (inr q) = absurd (uncut path q.0 q.1 p.0 q.2)
one_directory path a b (inr p) (inl q) = absurd (uncut path p.0 p.1 q.0 p.2)
one_directory path a b (inr p) (inr q) =
    let same : p.0 ≡ q.0 = one_cut p.0 q.0 p.1 q.1 p.2.last q.2.last (sym p.2.parts ∙ q.2.parts) in
    p.3 ∙ ap (λ (l : List ℕ). if length l == 0 then codes "/" else l) same ∙ sym q.3

-- ---- the new file
pub apart : (path : List ℕ) → path ≢ beside path
apart path e = omega (arith, ap length e, length-append path (codes ".new"))

pub old_behind : (path : List ℕ) → path ≢ old_log path
old_behind path e = omega (arith, ap length e, length-append path (codes ".log.old"))

pub old_apart : (path : List ℕ) → old_log path ≢ path
old_apart path e = old_behind path (sym e)

pub own_apart : (path : List ℕ) → own_log path ≢ path
own_apart path e = omega (arith, ap length e, length-append path (codes ".log"))

old_aside : (path : List ℕ) → old_log path ≢ beside path
old_aside path e = omega (arith, ap length e, length-append path (codes ".log.old"), length-append path (codes ".new"))

two_letters : ◌≡◌ {A = ℕ} 108 110 → ⊥
two_letters e = omega (arith, e)

own_aside : (path : List ℕ) → own_log path ≢ beside path
own_aside path e = absurd (two_letters (ap (λ (l : List ℕ). get_or l 1 0) (append_cancel_left path (codes ".log") (codes ".new") e)))

pub logs_apart : (path : List ℕ) → own_log path ≢ old_log path
logs_apart path e = omega (arith, ap length e, length-append path (codes ".log"), length-append path (codes ".log.old"))

synced_as : (disk : Disk) (left : Remains) (bytes : List ℕ) → MayLeave disk left → disk.known disk.created ≡ Some (Exactly bytes) → left.bytes disk.created ≡ bytes
synced_as disk left bytes may is = subst (λ (o : Option Known). IfSome o (λ k. Agrees k (left.bytes disk.created))) is (may.files disk.created)

-- what was at a path, if it is the new file
at_file : (disk : Disk) (left : Remains) (path row : List ℕ) → MayLeave disk left → left.names path ≡ Some disk.created → disk.known disk.created ≡ Some (Exactly row) → bytes_at left path ≡ Some row
at_file disk left path row may named is = ap (λ (o : Option ℕ). option_map left.bytes o) named ∙ ap Some (synced_as disk left row may is)

-- ---- what is synced
last_names : (disk : Disk) (left : Remains) → MayLeave disk left → disk.earlier ≡ [] → left.names ≡ disk.names
last_names disk left may none =
    ⊎_elim (λ now. now) (λ before. absurd before) (subst (λ (earlier : List Names). IsAmong left.names (disk.names ∷ earlier)) none may.names)

pub kept : (path bytes : List ℕ) (file : ℕ) (disk : Disk) → disk.earlier ≡ [] → disk.names path ≡ Some file → disk.known file ≡ Some (Exactly bytes) → Keeps disk path (Some bytes)
kept path bytes file disk none named is left may =
    ap (λ (o : Option ℕ). option_map left.bytes o) (ap (λ (n : Names). n path) (last_names disk left may none) ∙ named)
    ∙ ap Some (subst (λ (o : Option Known). IfSome o (λ k. Agrees k (left.bytes file))) is (may.files file))

pub none_there : (path : List ℕ) (disk : Disk) → disk.earlier ≡ [] → disk.names path ≡ None → Keeps disk path None
none_there path disk none named left may =
    ap (λ (o : Option ℕ). option_map left.bytes o) (ap (λ (n : Names). n path) (last_names disk left may none) ∙ named)

-- a crash right after calls is one while they are made
pub right_after : (calls : List Event) (disk new : Disk) (left : Remains) → Runs calls disk new → MayLeave new left → MayLeaveDuring calls disk left
right_after [] disk new left same may = subst (λ (d : Disk). MayLeave d left) same may
right_after (event ∷ calls) disk new left runs may = inr (runs.0, runs.1, right_after calls runs.0 new left runs.2 may)

-- the call did its work or nothing
pub removing : (name : List ℕ) (done : Bool) (disk next : Disk) → Changes (Remove name, done) disk next → MayDo (Remove name) disk next
removing name true disk next does = inr does
removing name false disk next may = may

directory_stays : (name : List ℕ) (disk next : Disk) → MayDo (Remove name) disk next → next.directory ≡ disk.directory
directory_stays name disk next (inl same) = ap (λ (d : Disk). d.directory) same
directory_stays name disk next (inr does) = ap (λ (d : Disk). d.directory) does.3

module _ (path row : List ℕ) where
  -- the new file is there; it is synced with the whole row; it is in its place
  abbrev Made : Disk → Type 0
  Made disk = (disk.names (beside path) ≡ Some disk.created) × (disk.known disk.created ≡ None)

  abbrev Whole : Disk → Type 0
  Whole disk = (disk.names (beside path) ≡ Some disk.created) × (disk.known disk.created ≡ Some (Exactly row))

  abbrev Placed : Disk → Type 0
  Placed disk = (disk.names path ≡ Some disk.created) × (disk.known disk.created ≡ Some (Exactly row))

  is_made : (disk next : Disk) → Does (Make (beside path)) disk next → Made next
  is_made disk next does = subst Made (sym does.5) (does.3, does.2.unknown)

  is_whole : (disk next : Disk) → Does (Sync (Some row)) disk next → Made disk → Whole next
  is_whole disk next does file =
      subst Whole (sym does) (file.0, ap (λ (test : Bool). if test then Some (Exactly row) else disk.known disk.created) (eq-eqb disk.created disk.created refl))

  is_placed : (disk next : Disk) → Does (Rename (beside path) path) disk next → Whole disk → Placed next
  is_placed disk next does file = subst Placed (sym does.3) (does.1 ∙ file.0, file.1)

  at_rest : (directory : List ℕ) (disk next : Disk) → Does (SyncDirectory directory) disk next → directory ≡ disk.directory → Placed disk → Keeps next path (Some row)
  at_rest directory disk next (inr elsewhere) same file = absurd (elsewhere.0 same)
  at_rest directory disk next (inl here) same file = subst (λ (d : Disk). Keeps d path (Some row)) (sym here.1) (λ left may.
      let now : left.names ≡ disk.names = ⊎_elim (λ now. now) (λ none. absurd none) may.names in
      at_file (record disk { earlier = [] }) left path row may (ap (λ (n : Names). n path) now ∙ file.0) file.1)

  pub is_done : (stood : Bool) (directory : List ℕ) (disk new : Disk) → IsDirectoryOf path disk.directory → IsDirectoryOf path directory
      → Runs (saving stood path directory row) disk new → Keeps new path (Some row)
  is_done stood directory disk new its other (a, remove, (b, make, (c, permit, (d, sync, (e, rename, (f, settle, last)))))) =
      let placed : Placed e = is_placed d e rename (is_whole c d sync (subst Made (sym permit) (is_made a b make))) in
      let stays : e.directory ≡ disk.directory =
      ap (λ (x : Disk). x.directory) rename.3
      ∙ ap (λ (x : Disk). x.directory) sync
      ∙ ap (λ (x : Disk). x.directory) permit
      ∙ ap (λ (x : Disk). x.directory) make.5
      ∙ directory_stays (beside path) disk a (removing (beside path) stood disk a remove) in
      subst (λ (x : Disk). Keeps x path (Some row)) (sym last) (at_rest directory e f settle (one_directory path directory disk.directory other its ∙ sym stays) placed)

-- ---- whatever a crash leaves, Q holds of what is at the paths of the file, of its old log and of its log
module _ (path row : List ℕ) (Q : Option (List ℕ) → Option (List ℕ) → Option (List ℕ) → Type 0) where
  abbrev pub Fine : Remains → Type 0
  Fine left = Q (bytes_at left path) (bytes_at left (old_log path)) (bytes_at left (own_log path))

  abbrev pub Safe : Disk → Type 0
  Safe disk = (left : Remains) → MayLeave disk left → Fine left

  -- the same files are at the three paths
  pub moved : (names : Names) (left : Remains) → names path ≡ left.names path → names (old_log path) ≡ left.names (old_log path)
      → names (own_log path) ≡ left.names (own_log path) → Fine (record { names = names; bytes = left.bytes }) → Fine left
  moved names left a b c fine =
      let at : Option ℕ → Option (List ℕ) = λ o. option_map left.bytes o in
      subst (λ (o : Option ℕ). Q (at o) (bytes_at left (old_log path)) (bytes_at left (own_log path))) a
      (subst (λ (o : Option ℕ). Q (at (names path)) (at o) (bytes_at left (own_log path))) b
      (subst (λ (o : Option ℕ). Q (at (names path)) (at (names (old_log path))) (at o)) c fine))

  -- ---- what a call does
  -- what holds of the names of this moment
  pub before : (disk : Disk) → Safe disk → (left : Remains) → ((file : ℕ) → IfSome (disk.known file) (λ known. Agrees known (left.bytes file)))
      → Fine (record { names = disk.names; bytes = left.bytes })
  before disk safe left files = safe (record { names = disk.names; bytes = left.bytes }) (record { names = inl refl; files = files })

  -- another moment, with the same at the paths
  more : (disk : Disk) (names : Names) (file : ℕ) → names path ≡ disk.names path → names (old_log path) ≡ disk.names (old_log path)
      → names (own_log path) ≡ disk.names (own_log path) → Safe disk → Safe (record (with_names disk names) { created = file })
  more disk names file a b c safe left may = elim may.names [
    | inl now ↦
        let same : (p : List ℕ) → names p ≡ disk.names p → disk.names p ≡ left.names p = λ p e. sym (ap (λ (n : Names). n p) now ∙ e) in
        moved disk.names left (same path a) (same (old_log path) b) (same (own_log path) c) (before disk safe left may.files)
    | inr earlier ↦ safe left (record { names = earlier; files = may.files })
  ]

  pub new_removed : (disk next : Disk) → MayDo (Remove (beside path)) disk next → Safe disk → Safe next
  new_removed disk next (inl same) safe = subst Safe (sym same) safe
  new_removed disk next (inr does) safe =
      subst Safe (sym does.3) (more disk does.0 disk.created (does.2 path (apart path)) (does.2 (old_log path) (old_aside path)) (does.2 (own_log path) (own_aside path)) safe)

  made : (disk next : Disk) → MayDo (Make (beside path)) disk next → Safe disk → Safe next
  made disk next (inl same) safe = subst Safe (sym same) safe
  made disk next (inr does) safe =
      subst Safe (sym does.5) (more disk does.0 does.1 (does.4 path (apart path)) (does.4 (old_log path) (old_aside path)) (does.4 (own_log path) (own_aside path)) safe)

  permitted : (disk next : Disk) → MayDo (Permit path) disk next → next ≡ disk
  permitted disk next (inl same) = same
  permitted disk next (inr same) = same

  synced : (disk next : Disk) → Does (Sync (Some row)) disk next → disk.known disk.created ≡ None → Safe disk → Safe next
  synced disk next does none safe = subst Safe (sym does) (λ left may. safe left (record {
    names = may.names;
    files = λ file. elim (cases_eq file disk.created) [
      | inl same ↦ subst (λ (o : Option Known). IfSome o (λ k. Agrees k (left.bytes file))) (sym (ap disk.known same ∙ none)) tt
      | inr unlike ↦
          subst (λ (test : Bool). IfSome (if test then Some (Exactly row) else disk.known file) (λ k. Agrees k (left.bytes file))) (ne_eqb file disk.created unlike) (may.files file)
    ];
  }))

  pub settled : (directory : List ℕ) (disk next : Disk) → Does (SyncDirectory directory) disk next → Safe disk → Safe next
  settled directory disk next (inr elsewhere) safe = subst Safe (sym elsewhere.1) safe
  settled directory disk next (inl here) safe = subst Safe (sym here.1) (λ left may. safe left (record {
    names = ⊎_elim (λ now. inl now) (λ none. absurd none) may.names;
    files = may.files;
  }))

  pub log_removed : (closed : (found there log : Option (List ℕ)) → Q found there log → Q found None log) (disk next : Disk) → MayDo (Remove (old_log path)) disk next → Safe disk → Safe next
  log_removed closed disk next (inl same) safe = subst Safe (sym same) safe
  log_removed closed disk next (inr does) safe = subst Safe (sym does.3) (λ left may. elim may.names [
    | inl now ↦
        let at : Option ℕ → Option (List ℕ) = λ o. option_map left.bytes o in
        let same : (p : List ℕ) → p ≢ old_log path → disk.names p ≡ left.names p = λ p e. sym (ap (λ (n : Names). n p) now ∙ does.2 p e) in
        subst (λ (o : Option ℕ). Q (bytes_at left path) (at o) (bytes_at left (own_log path))) (sym (ap (λ (n : Names). n (old_log path)) now ∙ does.1))
        (subst (λ (o : Option ℕ). Q (at o) None (bytes_at left (own_log path))) (same path (old_behind path))
        (subst (λ (o : Option ℕ). Q (at (disk.names path)) None (at o)) (same (own_log path) (logs_apart path))
        (closed (at (disk.names path)) (at (disk.names (old_log path))) (at (disk.names (own_log path))) (before disk safe left may.files))))
    | inr earlier ↦ safe left (record { names = earlier; files = may.files })
  ])

  module _ (new : (found there log : Option (List ℕ)) → Q found there log → Q (Some row) there log) where
    renamed : (disk next : Disk) → Does (Rename (beside path) path) disk next → Whole path row disk → Safe disk → Safe next
    renamed disk next does file safe = subst Safe (sym does.3) (λ left may. elim may.names [
      | inl now ↦
          let at : Option ℕ → Option (List ℕ) = λ o. option_map left.bytes o in
          let found : bytes_at left path ≡ Some row = at_file (with_names disk does.0) left path row may (ap (λ (n : Names). n path) now ∙ does.1 ∙ file.0) file.1 in
          let same : (p : List ℕ) → p ≢ beside path → p ≢ path → disk.names p ≡ left.names p = λ p b a. sym (ap (λ (n : Names). n p) now ∙ does.2 p b a) in
          subst (λ (o : Option (List ℕ)). Q o (bytes_at left (old_log path)) (bytes_at left (own_log path))) (sym found)
          (subst (λ (o : Option ℕ). Q (Some row) (at o) (bytes_at left (own_log path))) (same (old_log path) (old_aside path) (old_apart path))
          (subst (λ (o : Option ℕ). Q (Some row) (at (disk.names (old_log path))) (at o)) (same (own_log path) (own_aside path) (own_apart path))
          (new (at (disk.names path)) (at (disk.names (old_log path))) (at (disk.names (own_log path))) (before disk safe left may.files))))
      | inr earlier ↦ safe left (record { names = earlier; files = may.files })
    ])

    may_be_renamed : (disk next : Disk) → MayDo (Rename (beside path) path) disk next → Whole path row disk → Safe disk → Safe next
    may_be_renamed disk next (inl same) file safe = subst Safe (sym same) safe
    may_be_renamed disk next (inr does) file safe = renamed disk next does file safe

    -- ---- a crash during calls
    module _ (left : Remains) where
      -- it comes during the first one, or later
      either : (call : Call) (done : Bool) (events : List Event) (disk : Disk) → ((next : Disk) → MayDo call disk next → Safe next)
          → ((next : Disk) → Changes (call, done) disk next → MayLeaveDuring events next left → Fine left) → MayLeaveDuring ((call, done) ∷ events) disk left → Fine left
      either call done events disk during later may = ⊎_elim (λ it. during it.0 it.1 left it.2) (λ it. later it.0 it.1 it.2) may

      removes : (done : Bool) (events : List Event) (disk : Disk) → Safe disk → ((next : Disk) → Safe next → MayLeaveDuring events next left → Fine left)
          → MayLeaveDuring ((Remove (beside path), done) ∷ events) disk left → Fine left
      removes done events disk safe goes_on = either (Remove (beside path)) done events disk (λ next may. new_removed disk next may safe)
          (λ next changes. goes_on next (new_removed disk next (removing (beside path) done disk next changes) safe))

      ends : (disk : Disk) → Safe disk → (done : Bool) → MayLeaveDuring ((Remove (beside path), done) ∷ []) disk left → Fine left
      ends disk safe done = removes done [] disk safe (λ next still. still left)

      -- a call fails, and the new file is removed
      fails : (call : Call) (disk : Disk) → ((next : Disk) → MayDo call disk next → Safe next) → (done : Bool)
          → MayLeaveDuring ((call, false) ∷ (Remove (beside path), done) ∷ []) disk left → Fine left
      fails call disk during done = either call false ((Remove (beside path), done) ∷ []) disk during (λ next may. ends next (during next may) done)

      permits : (events : List Event) (disk : Disk) → Safe disk → Made path row disk → ((next : Disk) → Safe next → Made path row next → MayLeaveDuring events next left → Fine left)
          → MayLeaveDuring ((Permit path, true) ∷ events) disk left → Fine left
      permits events disk safe file goes_on = either (Permit path) true events disk (λ next may. subst Safe (sym (permitted disk next may)) safe)
          (λ next same. goes_on next (subst Safe (sym same) safe) (subst (Made path row) (sym same) file))

      syncs : (events : List Event) (disk : Disk) → Safe disk → Made path row disk → ((next : Disk) → Safe next → Whole path row next → MayLeaveDuring events next left → Fine left)
          → MayLeaveDuring ((Sync (Some row), true) ∷ events) disk left → Fine left
      syncs events disk safe file goes_on = either (Sync (Some row)) true events disk (λ next same. subst Safe (sym same) safe)
          (λ next does. goes_on next (synced disk next does file.1 safe) (is_whole path row disk next does file))

      renames : (events : List Event) (disk : Disk) → Safe disk → Whole path row disk → ((next : Disk) → Safe next → MayLeaveDuring events next left → Fine left)
          → MayLeaveDuring ((Rename (beside path) path, true) ∷ events) disk left → Fine left
      renames events disk safe file goes_on = either (Rename (beside path) path) true events disk (λ next may. may_be_renamed disk next may file safe)
          (λ next does. goes_on next (renamed disk next does file safe))

      settles : (directory : List ℕ) (done : Bool) (disk : Disk) → Safe disk → MayLeaveDuring ((SyncDirectory directory, done) ∷ []) disk left → Fine left
      settles directory true disk safe = either (SyncDirectory directory) true [] disk (λ next same. subst Safe (sym same) safe)
          (λ next does. settled directory disk next does safe left)
      settles directory false disk safe = either (SyncDirectory directory) false [] disk (λ next same. subst Safe (sym same) safe)
          (λ next same. subst Safe (sym same) safe left)

      -- the new file is there, and takes the place or doesn't
      replaces : (directory : List ℕ) (done : Bool) (disk : Disk) → Safe disk → Made path row disk
          → MayLeaveDuring (replacing path row ++ (SyncDirectory directory, done) ∷ []) disk left → Fine left
      replaces directory done disk safe file =
          let last : List Event = (SyncDirectory directory, done) ∷ [] in
          let renaming : List Event = (Rename (beside path) path, true) ∷ last in
          permits ((Sync (Some row), true) ∷ renaming) disk safe file (λ a safe_a made_a.
          syncs renaming a safe_a made_a (λ b safe_b whole_b. renames last b safe_b whole_b (settles directory done)))

      lacks : (lack : Lack) (done : Bool) (disk : Disk) → Safe disk → Made path row disk
          → MayLeaveDuring (replacing_until lack path row ++ (Remove (beside path), done) ∷ []) disk left → Fine left
      lacks Permissions done disk safe file = fails (Permit path) disk (λ next may. subst Safe (sym (permitted disk next may)) safe) done
      lacks Row done disk safe file = permits ((Remove (beside path), done) ∷ []) disk safe file (λ a safe_a made_a. ends a safe_a done)
      lacks Safety done disk safe file = permits ((Sync (Some row), false) ∷ (Remove (beside path), done) ∷ []) disk safe file
          (λ a safe_a made_a. fails (Sync (Some row)) a (λ next same. subst Safe (sym same) safe_a) done)
      lacks Name done disk safe file =
          let last : List Event = (Rename (beside path) path, false) ∷ (Remove (beside path), done) ∷ [] in
          permits ((Sync (Some row), true) ∷ last) disk safe file (λ a safe_a made_a. syncs last a safe_a made_a
          (λ b safe_b whole_b. fails (Rename (beside path) path) b (λ next may. may_be_renamed b next may whole_b safe_b) done))

      begins : (stood : Bool) (events : List Event) (disk : Disk) → Safe disk → ((next : Disk) → Safe next → Made path row next → MayLeaveDuring events next left → Fine left)
          → MayLeaveDuring ((Remove (beside path), stood) ∷ (Make (beside path), true) ∷ events) disk left → Fine left
      begins stood events disk safe goes_on = removes stood ((Make (beside path), true) ∷ events) disk safe (λ a safe_a.
          either (Make (beside path)) true events a (λ next may. made a next may safe_a)
          (λ next does. goes_on next (made a next (inr does) safe_a) (is_made path row a next does)))

      pub is_saved : (stood : Bool) (directory : List ℕ) (disk : Disk) → Safe disk → MayLeaveDuring (saving stood path directory row) disk left → Fine left
      is_saved stood directory disk safe = begins stood (replacing path row ++ (SyncDirectory directory, true) ∷ []) disk safe (replaces directory true)

      pub is_stopped : (stop : Stop) (stood done : Bool) (disk : Disk) → Safe disk → MayLeaveDuring (saving_until stop stood done path row) disk left → Fine left
      is_stopped Unnamed stood done disk safe = safe left
      is_stopped Unmade stood done disk safe = removes stood ((Make (beside path), false) ∷ []) disk safe (λ a safe_a.
          either (Make (beside path)) false [] a (λ next may. made a next may safe_a) (λ next may. made a next may safe_a left))
      is_stopped (Unreplaced lack) stood done disk safe = begins stood (replacing_until lack path row ++ (Remove (beside path), done) ∷ []) disk safe (lacks lack done)
      is_stopped (Unsettled directory) stood done disk safe = begins stood (replacing path row ++ (SyncDirectory directory, false) ∷ []) disk safe (replaces directory false)

      -- ---- the end of the old log
      pub log_ends : (closed : (found there log : Option (List ℕ)) → Q found there log → Q found None log) (ended done : Bool) (directory : List ℕ) (disk : Disk) → Safe disk
          → MayLeaveDuring ((Remove (old_log path), ended) ∷ (SyncDirectory directory, done) ∷ []) disk left → Fine left
      log_ends closed ended done directory disk safe = either (Remove (old_log path)) ended ((SyncDirectory directory, done) ∷ []) disk (λ next may. log_removed closed disk next may safe)
          (λ next changes. settles directory done next (log_removed closed disk next (removing (old_log path) ended disk next changes) safe))

      pub log_may_end : (closed : (found there log : Option (List ℕ)) → Q found there log → Q found None log) (done : Bool) (disk : Disk) → Safe disk
          → MayLeaveDuring ((Remove (old_log path), done) ∷ []) disk left → Fine left
      log_may_end closed done disk safe = either (Remove (old_log path)) done [] disk (λ next may. log_removed closed disk next may safe)
          (λ next changes. log_removed closed disk next (removing (old_log path) done disk next changes) safe left)
