-- The versions of a log's batches that were taken so far.
use Rattle.std.proofs.Common.{ℕ, List, [], ◌++◌, Option, Some, None, IfSome, Result, refl, sym, subst, append_assoc}
use Rattle.std.proofs.lemmas.List.{append-nil}
use Rattle.am_version_order.specs.Versions.{Version}
use Rattle.am_wire.specs.declared.error.WireError.{WireError}
use Rattle.am_merge.specs.Views.{HoldsBest}
use Rattle.am_store.specs.Reading.{IsNext, IsLast}
use Rattle.am_store.specs.Logs.{AreInBatches, JoinsLog, ReadsOn}
use Rattle.am_store.proofs.Joining.{best_of_best}
use Rattle.am_store.proofs.ReadBatches.{AreReadSoFar, read_none, read_more, joins}

module _ {K X : Type 0} (seen : X → Version K) (reads : ℕ → List ℕ → Result X WireError) where
  module _ (start : Option (List ℕ)) (old : List X) where
    -- of a log these are left, and of the versions before it and those read so far these are the best
    pub record HasKept (left : Option (List ℕ)) (kept : List X) : Type 0 where
      pub versions : List X
      pub so_far : AreReadSoFar seen reads start left versions
      pub best : HoldsBest seen (old ++ versions) kept

    pub kept_none : HoldsBest seen old old → HasKept start old
    kept_none itself =
        record {
          versions = [];
          so_far = read_none seen reads start;
          best = subst (λ (all : List X). HoldsBest seen all old) (sym (append-nil old)) itself;
        }

    pub kept_more : (left next : Option (List ℕ)) (batch : List ℕ) (kept new : List X) → HasKept left kept → IsNext left next batch → ReadsOn seen reads kept batch new → HasKept next new
    kept_more left next batch kept new has is_next read =
        record {
          versions = has.versions ++ read.versions;
          so_far = read_more seen reads start left next batch has.versions read.versions has.so_far is_next read.all;
          best =
              subst (λ (all : List X). HoldsBest seen all new) (append_assoc old has.versions read.versions)
              (best_of_best seen (old ++ has.versions) kept read.versions new has.best read.best);
        }

    pub kept_all : (left : Option (List ℕ)) (behind : ℕ) (kept : List X) → HasKept left kept → IsLast left behind → IfSome start (λ log. JoinsLog seen reads old log kept)
    kept_all left behind kept has is_last = joins seen reads start left behind old has.versions kept has.so_far is_last has.best

  -- the first batch of a log was read, and then the others
  pub joined_first : (start left : Option (List ℕ)) (batch : List ℕ) (old mid new : List X) → IsNext start left batch → ReadsOn seen reads old batch mid → IfSome left (λ log. JoinsLog seen reads mid log new)
      → IfSome start (λ log. JoinsLog seen reads old log new)
  joined_first None left batch old mid new is_next read joined = tt
  joined_first (Some log) None batch old mid new is_next read joined = absurd is_next
  joined_first (Some log) (Some rest) batch old mid new is_next read joined =
      record {
        versions = read.versions ++ joined.versions;
        all = subst (λ (batches : List (List ℕ)). AreInBatches seen reads batches (read.versions ++ joined.versions)) (sym is_next) (read.versions, joined.versions, read.all, joined.all, refl);
        best =
            subst (λ (all : List X). HoldsBest seen all new) (append_assoc old read.versions joined.versions)
            (best_of_best seen (old ++ read.versions) mid joined.versions new read.best joined.best);
      }

  -- a log that has no batch
  pub joined_none : (start : Option (List ℕ)) (behind : ℕ) (map : List X) → IsLast start behind → HoldsBest seen map map → IfSome start (λ log. JoinsLog seen reads map log map)
  joined_none start behind map is_last itself = kept_all start map start behind map (kept_none start map itself) is_last
