-- The faults of reading and of writing a row, as those of a call that does both.
use Rattle.std.proofs.Common.{◌≡◌, ◌≢◌, ◌↔◌, ◌<◌, ◌≤◌, ℕ, List, [], ◌∷◌, ◌++◌, length, map, Bool, true, false, Option, Some, None, IfSome, Result, Ok, Err, inl, inr, refl, ap, ◌∙◌, append_assoc, arith}
use Rattle.std.specs.Prelude.{Contains, IfErr, IsPermutation, is_none}
use Rattle.std.proofs.lemmas.List.{map-append}
use Rattle.std.specs.declared.cmp.Ordering.{Ordering}
use Rattle.am_version_order.specs.Versions.{Version}
use Rattle.am_wire.specs.declared.error.WireError.{WireError}
use Rattle.am_wire.specs.declared.reader.RowFault.{RowFault}
use Rattle.am_wire.specs.declared.reader.RowFault.TheVariants as reading
use Rattle.am_merge.specs.Maps.{IsMap}
use Rattle.am_wire.specs.Limits.{most}
use Rattle.am_wire.specs.declared.reader.RowPosition.{RowPosition}
use Rattle.am_wire.specs.Fields.{pieces}
use Rattle.am_wire.specs.Inputs.{sound, message_at, messages_of, AreMessages, StopsAfter, StopsWithin}
use Rattle.am_snapshot.specs.Encodings.{row_encoding}
use Rattle.am_snapshot.specs.Loads.{AreDistinct, RepeatsKey, StopsLoadWithin, load_fault}
use Rattle.am_merge.specs.Views.{HoldsBest}
use Rattle.am_snapshot.specs.Saving.{StopsSaving}
use Rattle.am_snapshot.specs.Folds.{IsFold, IsFoldWithin, StopsFold}
use Rattle.am_snapshot.specs.declared.error.SnapshotError.{SnapshotError}
use Rattle.am_snapshot.specs.declared.error.SnapshotError.TheVariants.{Read, Write, Wire, DuplicateKey, TooLarge, Memory}
use Rattle.am_snapshot.proofs.RowReads.{ReadsSoFar, HasRead-whole, some_then}

-- what holds of all holds of what is there
pub always : {A : Type 0} (P : A → Type 0) → ((x : A) → P x) → (o : Option A) → IfSome o P
always P all None = tt
always P all (Some x) = all x

-- two facts of what is there
both_then : {A : Type 0} (P Q R : A → Type 0) → ((x : A) → P x → Q x → R x) → (o : Option A) → IfSome o P → IfSome o Q → IfSome o R
both_then P Q R follows None p q = tt
both_then P Q R follows (Some x) p q = follows x p q

abbrev stopped : SnapshotError → Result ℕ SnapshotError
stopped e = Err e

-- a row that stopped for another fault is not too large
within : (e : SnapshotError) (row : List ℕ) → e ≢ TooLarge → (stopped e ≡ stopped TooLarge) ↔ (most < length row) → length row ≤ most
within e row other large = grind arith

module _ {K X : Type 0} (seen : X → Version K) (cmp : K → K → Ordering) (reads : ℕ → List ℕ → Result X WireError) (start left : Option (List ℕ)) where
  pub fold_reading : {W : Type 0} (contents : W → Option (List ℕ)) (old : W) (fault : RowFault)
      → IfSome start (λ input. (versions : List X) × StopsAfter reads input versions left fault) → StopsFold seen cmp reads start left contents old old (load_fault fault)
  fold_reading contents old (reading.Read at) stop = (refl, stop)
  fold_reading contents old (reading.Wire e) stop = (refl, stop)
  fold_reading contents old reading.TooLarge stop = (refl, some_then _ _ (λ input one. inl one) start stop)
  fold_reading contents old reading.Ended stop = refl
  fold_reading contents old reading.Memory stop = refl

  pub is_fold : (map : List X) (row : List ℕ) → row ≡ row_encoding seen map → IsMap seen cmp map → IfSome start (λ input. (versions : List X) × AreMessages reads input versions × HoldsBest seen versions map)
      → IfSome start (λ input. IsFold seen cmp reads input row)
  is_fold map row text order best = some_then _ _ (λ input one. record { versions = one.0; all = one.1; map = map; order = order; best = one.2; text = text }) start best

  -- with the input's length
  pub fold_within : (row : List ℕ) → IfSome start (λ input. IsFold seen cmp reads input row) → IfSome start (λ input. length input ≤ most) → IfSome start (λ input. IsFoldWithin seen cmp reads input row)
  fold_within row fold size = both_then _ _ _ (λ input one small. record { fold = one; size = small }) start fold size

  fold_writing : {W : Type 0} (contents : W → Option (List ℕ)) (old new : W) (row : List ℕ) (e : SnapshotError)
      → IfSome start (λ input. IsFoldWithin seen cmp reads input row) → StopsSaving contents old new row e → (stopped e ≡ stopped TooLarge) ↔ (most < length row)
      → StopsFold seen cmp reads start left contents old new e
  fold_writing contents old new row (Write k) fold stop large = (row, stop.0, within (Write k) row (λ same. absurd cc) large, stop.1, fold)
  fold_writing contents old new row TooLarge fold stop large = (stop, some_then _ _ (λ input one. inr (row, one, large.0 refl)) start fold)
  fold_writing contents old new row Memory fold stop large = stop
  fold_writing contents old new row (Read at) fold stop large = absurd stop
  fold_writing contents old new row (Wire e) fold stop large = absurd stop
  fold_writing contents old new row DuplicateKey fold stop large = absurd stop

  pub fold_saving : {W : Type 0} (contents : W → Option (List ℕ)) (old new : W) (row : List ℕ) (result : Result ℕ SnapshotError)
      → IfSome start (λ input. IsFoldWithin seen cmp reads input row) → IfErr result (StopsSaving contents old new row) → (result ≡ stopped TooLarge) ↔ (most < length row)
      → IfErr result (StopsFold seen cmp reads start left contents old new)
  fold_saving contents old new row (Ok written) fold stop large = tt
  fold_saving contents old new row (Err e) fold stop large = fold_writing contents old new row e fold stop large

-- whether nothing was found, and what was
pub some_found : {X : Type 0} (o : Option X) (none : Bool) → none ≡ is_none o → none ≡ false → (w : X) × (o ≡ Some w)
some_found None none is found = absurd cc
some_found (Some w) none is found = (w, refl)

pub none_found : {X : Type 0} (o : Option X) (none : Bool) → none ≡ is_none o → none ≡ true → o ≡ None
none_found None none is lost = refl
none_found (Some w) none is lost = absurd cc

module _ {K X : Type 0} (seen : X → Version K) (reads : ℕ → List ℕ → Result X WireError) (start left : Option (List ℕ)) where
  pub load_reading : (limit : ℕ) (fault : RowFault) → IfSome start (λ input. (versions : List X) × StopsWithin reads limit input versions left fault × AreDistinct seen versions)
      → IfSome start (λ input. StopsLoadWithin seen reads limit input left (load_fault fault))
  load_reading limit (reading.Read at) stop = stop
  load_reading limit (reading.Wire e) stop = stop
  load_reading limit reading.TooLarge stop = stop
  load_reading limit reading.Ended stop = some_then _ _ (λ input one. tt) start stop
  load_reading limit reading.Memory stop = some_then _ _ (λ input one. tt) start stop

  pub load_end : (versions held : List X) → IfSome start (λ input. AreMessages reads input versions) → AreDistinct seen versions → IsPermutation versions held
      → IfSome start (λ input. (all : List X) × AreMessages reads input all × AreDistinct seen all × IsPermutation all held)
  load_end versions held all distinct members = some_then _ _ (λ input one. (versions, one, distinct, members)) start all

pub load_repeat : {K X : Type 0} (seen : X → Version K) (reads : ℕ → List ℕ → Result X WireError) (limit : ℕ) (start left : Option (List ℕ)) (position : RowPosition) (bytes : List ℕ) (versions : List X) (version earlier : X)
    → ReadsSoFar reads limit start left position bytes (versions ++ version ∷ []) → AreDistinct seen versions → Contains versions earlier → (seen earlier).key ≡ (seen version).key
    → IfSome start (λ input. RepeatsKey seen reads limit input left)
load_repeat seen reads limit None left position bytes versions version earlier so_far distinct among same = tt
load_repeat seen reads limit (Some xs) None position bytes versions version earlier so_far distinct among same = absurd so_far.consumed
load_repeat {K} {X} seen reads limit (Some xs) (Some ys) position bytes versions version earlier so_far distinct among same =
    let others = pieces (message_at reads) 0 (length bytes) ys in
    record {
      versions = versions;
      version = version;
      others = others;
      messages =
          ap (λ (input : List ℕ). messages_of reads input) so_far.consumed
          ∙ so_far.read.reads_on ys
          ∙ ap (λ (x : List (Result X WireError)). x ++ others) (map-append sound versions (version ∷ []))
          ∙ append_assoc (map sound versions) (sound version ∷ []) others;
      distinct = distinct;
      earlier = earlier;
      among = among;
      same_key = same;
      bytes = bytes;
      rows = HasRead-whole reads bytes (versions ++ version ∷ []) so_far.read;
      size = so_far.small;
      read = so_far.consumed;
    }
