-- The progress of a rewriting, stage by stage.
use Rattle.std.proofs.Common.{◌≡◌, ◌⊎◌, inl, inr, ℕ, ◌+◌, ◌<◌, ◌≤◌, Bool, true, false, List, [], ◌∷◌, ◌++◌, length, Option, Some, None, Ok, Err, string_bytes, refl, sym, ◌∙◌, ap, subst, arith, length-append, append_assoc}
use Rattle.std.specs.declared.cmp.Ordering.{Ordering}
use Rattle.std.specs.declared.fs.File.{File}
use Rattle.std.specs.Io.KnownBytes.{Appends}
use Rattle.am_version_order.specs.Versions.{Version}
use Rattle.am_snapshot.specs.Pieces.{IsPiece}
use Rattle.am_snapshot.specs.declared.pieces.RowPiece.{RowPiece}
use Rattle.am_snapshot.specs.declared.error.SnapshotError.TheVariants as snapshot
use Rattle.am_store.specs.declared.stages.CompactionStage.{CompactionStage}
use Rattle.am_store.specs.declared.stages.CompactionStage.TheVariants.{GiveBack, Make, Write, HandOver, Rename, Settle, EndLog, SettleEnd, Done}
use Rattle.am_store.specs.declared.stages.NewFile.{NewFile}
use Rattle.am_store.specs.declared.stages.WholeNewFile.{WholeNewFile}
use Rattle.am_store.specs.declared.file_fault.FileFault.{FileFault}
use Rattle.am_store.specs.declared.file_fault.FileFault.TheVariants.{Snapshot}
use Rattle.am_store.specs.Calls.{Event}
use Rattle.am_store.specs.Calls as call
use Rattle.am_store.specs.Saves.{IsDirectoryOf, IsOfSystem, Permissions, Row, Safety, Name, Unnamed, Unmade, Unreplaced, Unsettled, beside}
use Rattle.am_store.specs.Rewrites.{First, End, place_from, place_behind, left_at, stretch, old_log, IsWritten, HasCome, IsRewritten, Advances, is_left_at, Unsaved, LogKept, LogUnsettled, making}
use Rattle.am_store.proofs.Crashes.{one_directory}

not_first : {K : Type 0} (next : Option K) → First ≡ place_behind next → ⊥
not_first None e = absurd cc
not_first (Some key) e = absurd cc

module _ {K X F : Type 0} (seen : X → Version K) (cmp : K → K → Ordering) (path : List ℕ) (most : ℕ) (contents : F → Option (List ℕ)) (map : List X) where
  -- nothing is written before the first piece
  nothing_yet : (maps : List (List X)) (row : List ℕ) → IsWritten seen cmp maps row First → row ≡ []
  nothing_yet [] row written = written.0
  nothing_yet (m ∷ earlier) row (before, from, piece, w, is, r, place) = absurd (not_first piece.next place)

  one_more : (before first a b : List Event) (x : Event) → a ≡ before ++ first → b ≡ a ++ x ∷ [] → b ≡ before ++ (first ++ x ∷ [])
  one_more before first a b x ea eb = eb ∙ ap (λ (l : List Event). l ++ x ∷ []) ea ∙ append_assoc before first (x ∷ [])

  two_more : (before first a b c : List Event) (x y : Event) → a ≡ before ++ first → b ≡ a ++ x ∷ [] → c ≡ b ++ y ∷ [] → c ≡ before ++ ((first ++ x ∷ []) ++ y ∷ [])
  two_more before first a b c x y ea eb ec = one_more before (first ++ x ∷ []) b c y (one_more before first a b x ea eb) ec

  three : (before a b c d : List Event) (x y z : Event) → a ≡ before ++ [] → b ≡ a ++ x ∷ [] → c ≡ b ++ y ∷ [] → d ≡ c ++ z ∷ [] → d ≡ before ++ x ∷ y ∷ z ∷ []
  three before a b c d x y z ea eb ec ed = one_more before (x ∷ y ∷ []) c d z (two_more before [] a b c x y ea eb ec) ed

  pub made : (a b c d : List Event) (name : List ℕ) (stood : Bool) (new : NewFile F) → b ≡ a ++ (call.Remove name, stood) ∷ []
      → c ≡ b ++ (call.Make name, true) ∷ [] → d ≡ c ++ (call.Permit path, true) ∷ [] → name ≡ beside path → string_bytes new.name ≡ name
      → contents new.file ≡ Some [] → new.written ≡ 0 → Advances seen cmp path most contents map Make a (Ok (Write new None)) d
  made a b c d name stood new eb ec ed is its empty none = record {
    next = tt;
    come = λ maps before has.
        let no : has.row ≡ [] = nothing_yet maps has.row has.written in
        record {
          row = has.row;
          stood = stood;
          ended = has.ended;
          directory = has.directory;
          calls = three before a b c d _ _ _ has.calls eb ec ed ∙ ap (λ (n : List ℕ). before ++ (call.Remove n, stood) ∷ (call.Make n, true) ∷ (call.Permit path, true) ∷ []) is;
          written = has.written;
          fits = has.fits;
          has = (its ∙ is, empty ∙ ap Some (sym no), none ∙ ap length (sym no));
        };
    stopped = λ maps before has. tt;
  }

  -- ---- a piece
  pub more_written : (maps : List (List X)) (row all : List ℕ) (from : Option K) (piece : RowPiece K) → IsWritten seen cmp maps row (place_from from)
      → IsPiece seen stretch (left_at seen cmp map (place_from from)) piece → all ≡ row ++ piece.row → IsWritten seen cmp (map ∷ maps) all (place_behind piece.next)
  more_written maps row all from piece written is whole = (row, place_from from, piece, written, is, whole, refl)

  appended : (old new : Option (List ℕ)) (row more : List ℕ) → old ≡ Some row → Appends old new more → new ≡ Some (row ++ more)
  appended old None row more e a = let b : Appends (Some row) None more = subst (λ o. Appends o None more) e a in absurd b
  appended old (Some bytes) row more e a = let b : Appends (Some row) (Some bytes) more = subst (λ o. Appends o (Some bytes) more) e a in ap Some b

  module _ (a b : List Event) (old new : NewFile F) (from : Option K) (piece : RowPiece K)
      (is : IsPiece seen stretch (left_at seen cmp map (place_from from)) piece)
      (grows : Appends (contents old.file) (contents new.file) piece.row) (count : new.written ≡ old.written + length piece.row) (few : new.written ≤ most)
      (same : b ≡ a) (name : new.name ≡ old.name) where
    pub wrote : (key : K) → piece.next ≡ Some key → Advances seen cmp path most contents map (Write old from) a (Ok (Write new (Some key))) b
    wrote key next = record {
      next = tt;
      come = λ maps before has.
          let size : new.written ≡ length (has.row ++ piece.row) = omega (arith, count, has.has.2, length-append has.row piece.row) in
          record {
            row = has.row ++ piece.row;
            stood = has.stood;
            ended = has.ended;
            directory = has.directory;
            calls = same ∙ has.calls;
            written = subst (λ (n : Option K). IsWritten seen cmp (map ∷ maps) (has.row ++ piece.row) (place_behind n)) next (more_written maps has.row (has.row ++ piece.row) from piece has.written is refl);
            fits = omega (arith, size, few);
            has = (ap string_bytes name ∙ has.has.0, appended (contents old.file) (contents new.file) has.row piece.row has.has.1 grows, size);
          };
      stopped = λ maps before has. tt;
    }

    pub wrote_all : piece.next ≡ None → Advances seen cmp path most contents map (Write old from) a (Ok (HandOver new)) b
    wrote_all next = record {
      next = tt;
      come = λ maps before has.
          let size : new.written ≡ length (has.row ++ piece.row) = omega (arith, count, has.has.2, length-append has.row piece.row) in
          record {
            row = has.row ++ piece.row;
            stood = has.stood;
            ended = has.ended;
            directory = has.directory;
            calls = same ∙ has.calls;
            written = subst (λ (n : Option K). IsWritten seen cmp (map ∷ maps) (has.row ++ piece.row) (place_behind n)) next (more_written maps has.row (has.row ++ piece.row) from piece has.written is refl);
            fits = omega (arith, size, few);
            has = (ap string_bytes name ∙ has.has.0, appended (contents old.file) (contents new.file) has.row piece.row has.has.1 grows, size);
          };
      stopped = λ maps before has. tt;
    }

  pub unwritten : (a b c : List Event) (new : NewFile F) (name : List ℕ) (from : Option K) (removed : Bool) (fault : FileFault) → b ≡ a → name ≡ string_bytes new.name
      → c ≡ b ++ (call.Remove name, removed) ∷ []
      → IsOfSystem fault ⊎ ((fault ≡ Snapshot snapshot.TooLarge) × (piece : RowPiece K) × IsPiece seen stretch (left_at seen cmp map (place_from from)) piece × (most < new.written + length piece.row))
      → Advances seen cmp path most contents map (Write new from) a (Err fault) c
  unwritten a b c new name from removed fault eb is ec why = record {
    next = tt;
    come = λ maps before has. tt;
    stopped = λ maps before has. record {
      stop = Unsaved (Unreplaced Row);
      row = has.row;
      place = place_from from;
      stood = has.stood;
      removed = removed;
      ended = has.ended;
      directory = has.directory;
      calls = one_more before (making has.stood path) b c _ (eb ∙ has.calls) ec ∙ ap (λ (n : List ℕ). before ++ (making has.stood path ++ (call.Remove n, removed) ∷ [])) (is ∙ has.has.0);
      written = has.written;
      whole = tt;
      fits = has.fits;
      cause = elim why [
        | inl system ↦ inl system
        | inr large ↦ inr (
          large.0,
          has.row ++ large.1.row,
          place_behind large.1.next,
          more_written maps has.row (has.row ++ large.1.row) from large.1 has.written large.2 refl,
          omega (arith, large.3, has.has.2, length-append has.row large.1.row),
        )
      ];
    };
  }

  -- ---- the new file isn't made
  pub unnamed : (a b : List Event) (fault : FileFault) → b ≡ a → fault ≡ Snapshot snapshot.Memory → Advances seen cmp path most contents map Make a (Err fault) b
  unnamed a b fault eb why = record {
    next = tt;
    come = λ maps before has. tt;
    stopped = λ maps before has. record {
      stop = Unsaved Unnamed;
      row = has.row;
      place = First;
      stood = has.stood;
      removed = false;
      ended = has.ended;
      directory = has.directory;
      calls = eb ∙ has.calls;
      written = has.written;
      whole = tt;
      fits = has.fits;
      cause = why;
    };
  }

  pub unmade : (a b c : List Event) (name : List ℕ) (stood : Bool) (fault : FileFault) → b ≡ a ++ (call.Remove name, stood) ∷ [] → c ≡ b ++ (call.Make name, false) ∷ []
      → name ≡ beside path → IsOfSystem fault → Advances seen cmp path most contents map Make a (Err fault) c
  unmade a b c name stood fault eb ec is why = record {
    next = tt;
    come = λ maps before has. tt;
    stopped = λ maps before has. record {
      stop = Unsaved Unmade;
      row = has.row;
      place = First;
      stood = stood;
      removed = false;
      ended = has.ended;
      directory = has.directory;
      calls = rw (ec, eb, has.calls, is) (simp append_assoc);
      written = has.written;
      whole = tt;
      fits = has.fits;
      cause = why;
    };
  }

  pub unpermitted : (a b c d e : List Event) (name : List ℕ) (stood removed : Bool) (fault : FileFault) → b ≡ a ++ (call.Remove name, stood) ∷ [] → c ≡ b ++ (call.Make name, true) ∷ []
      → d ≡ c ++ (call.Permit path, false) ∷ [] → e ≡ d ++ (call.Remove name, removed) ∷ [] → name ≡ beside path → IsOfSystem fault
      → Advances seen cmp path most contents map Make a (Err fault) e
  unpermitted a b c d e name stood removed fault eb ec ed ee is why = record {
    next = tt;
    come = λ maps before has. tt;
    stopped = λ maps before has. record {
      stop = Unsaved (Unreplaced Permissions);
      row = has.row;
      place = First;
      stood = stood;
      removed = removed;
      ended = has.ended;
      directory = has.directory;
      calls = rw (ee, ed, ec, eb, has.calls, is) (simp append_assoc);
      written = has.written;
      whole = tt;
      fits = has.fits;
      cause = why;
    };
  }

  -- ---- the new file is handed over, and takes the place
  pub handed : (a b : List Event) (new : NewFile F) (whole : WholeNewFile) → b ≡ a ++ (call.Sync (contents new.file), true) ∷ [] → whole.name ≡ new.name → whole.written ≡ new.written
      → Advances seen cmp path most contents map (HandOver new) a (Ok (Rename whole)) b
  handed a b new whole eb name count = record {
    next = tt;
    come = λ maps before has. record {
      row = has.row;
      stood = has.stood;
      ended = has.ended;
      directory = has.directory;
      calls = rw (eb, has.calls, has.has.1) (simp append_assoc);
      written = has.written;
      fits = has.fits;
      has = (ap string_bytes name ∙ has.has.0, count ∙ has.has.2);
    };
    stopped = λ maps before has. tt;
  }

  pub unhanded : (a b c : List Event) (new : NewFile F) (name : List ℕ) (removed : Bool) (fault : FileFault) → b ≡ a ++ (call.Sync (contents new.file), false) ∷ []
      → name ≡ string_bytes new.name → c ≡ b ++ (call.Remove name, removed) ∷ [] → IsOfSystem fault
      → Advances seen cmp path most contents map (HandOver new) a (Err fault) c
  unhanded a b c new name removed fault eb is ec why = record {
    next = tt;
    come = λ maps before has. tt;
    stopped = λ maps before has. record {
      stop = Unsaved (Unreplaced Safety);
      row = has.row;
      place = End;
      stood = has.stood;
      removed = removed;
      ended = has.ended;
      directory = has.directory;
      calls = rw (ec, eb, has.calls, has.has.1, is, has.has.0) (simp append_assoc);
      written = has.written;
      whole = refl;
      fits = has.fits;
      cause = why;
    };
  }

  pub renamed : (a b : List Event) (new : WholeNewFile) (name : List ℕ) (replaced : Option File) → b ≡ a ++ (call.Rename name path, true) ∷ [] → name ≡ string_bytes new.name
      → Advances seen cmp path most contents map (Rename new) a (Ok (Settle replaced)) b
  renamed a b new name replaced eb is = record {
    next = tt;
    come = λ maps before has. record {
      row = has.row;
      stood = has.stood;
      ended = has.ended;
      directory = has.directory;
      calls = rw (eb, has.calls, is, has.has.0) (simp append_assoc);
      written = has.written;
      fits = has.fits;
      has = tt;
    };
    stopped = λ maps before has. tt;
  }

  pub unrenamed : (a b c : List Event) (new : WholeNewFile) (name : List ℕ) (removed : Bool) (fault : FileFault) → b ≡ a ++ (call.Rename name path, false) ∷ []
      → name ≡ string_bytes new.name → c ≡ b ++ (call.Remove name, removed) ∷ [] → IsOfSystem fault
      → Advances seen cmp path most contents map (Rename new) a (Err fault) c
  unrenamed a b c new name removed fault eb is ec why = record {
    next = tt;
    come = λ maps before has. tt;
    stopped = λ maps before has. record {
      stop = Unsaved (Unreplaced Name);
      row = has.row;
      place = End;
      stood = has.stood;
      removed = removed;
      ended = has.ended;
      directory = has.directory;
      calls = rw (ec, eb, has.calls, is, has.has.0) (simp append_assoc);
      written = has.written;
      whole = refl;
      fits = has.fits;
      cause = why;
    };
  }

  -- ---- the directory is synced
  pub settled : (a b : List Event) (directory : List ℕ) (replaced : Option File) → IsDirectoryOf path directory → b ≡ a ++ (call.SyncDirectory directory, true) ∷ []
      → Advances seen cmp path most contents map (Settle replaced) a (Ok EndLog) b
  settled a b directory replaced standing eb = record {
    next = tt;
    come = λ maps before has. record {
      row = has.row;
      stood = has.stood;
      ended = has.ended;
      directory = directory;
      calls = rw (eb, has.calls) (simp append_assoc);
      written = has.written;
      fits = has.fits;
      has = standing;
    };
    stopped = λ maps before has. tt;
  }

  pub unsettled : (a b : List Event) (directory : List ℕ) (replaced : Option File) (fault : FileFault) → IsDirectoryOf path directory → b ≡ a ++ (call.SyncDirectory directory, false) ∷ []
      → IsOfSystem fault → Advances seen cmp path most contents map (Settle replaced) a (Err fault) b
  unsettled a b directory replaced fault standing eb why = record {
    next = tt;
    come = λ maps before has. tt;
    stopped = λ maps before has. record {
      stop = Unsaved (Unsettled directory);
      row = has.row;
      place = End;
      stood = has.stood;
      removed = false;
      ended = has.ended;
      directory = directory;
      calls = rw (eb, has.calls) (simp append_assoc);
      written = has.written;
      whole = refl;
      fits = has.fits;
      cause = (standing, why);
    };
  }

  -- ---- the old log is removed
  pub ended_log : (a b : List Event) (name : List ℕ) (ended : Bool) (log : Option File) → b ≡ a ++ (call.Remove name, ended) ∷ [] → name ≡ old_log path
      → Advances seen cmp path most contents map EndLog a (Ok (SettleEnd log)) b
  ended_log a b name ended log eb is = record {
    next = tt;
    come = λ maps before has. record {
      row = has.row;
      stood = has.stood;
      ended = ended;
      directory = has.directory;
      calls = rw (eb, has.calls, is) (simp append_assoc);
      written = has.written;
      fits = has.fits;
      has = has.has;
    };
    stopped = λ maps before has. tt;
  }

  pub kept_log : (a b : List Event) (name : List ℕ) (fault : FileFault) → b ≡ a ++ (call.Remove name, false) ∷ [] → name ≡ old_log path → IsOfSystem fault
      → Advances seen cmp path most contents map EndLog a (Err fault) b
  kept_log a b name fault eb is why = record {
    next = tt;
    come = λ maps before has. tt;
    stopped = λ maps before has. record {
      stop = LogKept;
      row = has.row;
      place = End;
      stood = has.stood;
      removed = false;
      ended = has.ended;
      directory = has.directory;
      calls = rw (eb, has.calls, is) (simp append_assoc);
      written = has.written;
      whole = refl;
      fits = has.fits;
      cause = (has.has, why);
    };
  }

  pub done : (a b : List Event) (directory : List ℕ) (log : Option File) → IsDirectoryOf path directory → b ≡ a ++ (call.SyncDirectory directory, true) ∷ []
      → Advances seen cmp path most contents map (SettleEnd log) a (Ok Done) b
  done a b directory log standing eb = record {
    next = tt;
    come = λ maps before has.
        let same : directory ≡ has.directory = one_directory path directory has.directory standing has.has in
        record {
          row = has.row;
          stood = has.stood;
          ended = has.ended;
          directory = has.directory;
          calls = rw (eb, has.calls, same) (simp append_assoc);
          written = has.written;
          fits = has.fits;
          has = has.has;
        };
    stopped = λ maps before has. tt;
  }

  pub undone : (a b : List Event) (directory : List ℕ) (log : Option File) (fault : FileFault) → IsDirectoryOf path directory → b ≡ a ++ (call.SyncDirectory directory, false) ∷ []
      → IsOfSystem fault → Advances seen cmp path most contents map (SettleEnd log) a (Err fault) b
  undone a b directory log fault standing eb why = record {
    next = tt;
    come = λ maps before has. tt;
    stopped = λ maps before has.
        let same : directory ≡ has.directory = one_directory path directory has.directory standing has.has in
        record {
          stop = LogUnsettled;
          row = has.row;
          place = End;
          stood = has.stood;
          removed = false;
          ended = has.ended;
          directory = has.directory;
          calls = rw (eb, has.calls, same) (simp append_assoc);
          written = has.written;
          whole = refl;
          fits = has.fits;
          cause = (has.has, why);
        };
  }

  -- ---- at the end
  pub is_whole : (maps : List (List X)) (stage : CompactionStage K F) (before after : List Event) → is_left_at stage ≡ false → HasCome seen cmp path most contents maps stage before after → IsRewritten seen cmp path most maps before after
  is_whole maps Done before after over has = record {
    row = has.row;
    stood = has.stood;
    ended = has.ended;
    directory = has.directory;
    standing = has.has;
    calls = has.calls;
    written = has.written;
    fits = has.fits;
  }
  is_whole maps GiveBack before after over has = absurd cc
  is_whole maps Make before after over has = absurd cc
  is_whole maps (Write new from) before after over has = absurd cc
  is_whole maps (HandOver new) before after over has = absurd cc
  is_whole maps (Rename new) before after over has = absurd cc
  is_whole maps (Settle replaced) before after over has = absurd cc
  is_whole maps EndLog before after over has = absurd cc
  is_whole maps (SettleEnd log) before after over has = absurd cc
