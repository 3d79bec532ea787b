-- The batches of a log, read so far.
use Rattle.std.specs.Prelude.{⊤}
use Rattle.std.proofs.Common.{ℕ, List, [], ◌++◌, Option, Some, None, IfSome, Result, refl, sym, subst, append_assoc}
use Rattle.std.proofs.lemmas.List.{append-nil}
use Rattle.am_version_order.specs.Versions.{Version}
use Rattle.am_wire.specs.declared.error.WireError.{WireError}
use Rattle.am_wire.specs.Inputs.{AreMessages}
use Rattle.am_store.specs.Blocks.{recovered}
use Rattle.am_store.specs.Reading.{IsNext, IsLast}
use Rattle.am_merge.specs.Views.{HoldsBest}
use Rattle.am_store.specs.Logs.{AreInBatches, JoinsLog}

module _ {K X : Type 0} (seen : X → Version K) (reads : ℕ → List ℕ → Result X WireError) where
  -- these are the versions of the batches before what is left
  abbrev pub AreReadSoFar : Option (List ℕ) → Option (List ℕ) → List X → Type 0
  AreReadSoFar None left versions = ⊤
  AreReadSoFar (Some log) None versions = ⊥
  AreReadSoFar (Some log) (Some left) versions =
      (later : List X) → AreInBatches seen reads (recovered left) later → AreInBatches seen reads (recovered log) (versions ++ later)

  pub read_none : (start : Option (List ℕ)) → AreReadSoFar start start []
  read_none None = tt
  read_none (Some log) = λ later are. are

  pub read_more : (start left next : Option (List ℕ)) (batch : List ℕ) (versions more : List X) → AreReadSoFar start left versions → IsNext left next batch → AreMessages reads batch more
      → AreReadSoFar start next (versions ++ more)
  read_more None left next batch versions more so_far is_next are = tt
  read_more (Some log) None next batch versions more so_far is_next are = absurd so_far
  read_more (Some log) (Some left) None batch versions more so_far is_next are = absurd is_next
  read_more (Some log) (Some left) (Some rest) batch versions more so_far is_next are = λ later others.
      subst (λ (all : List X). AreInBatches seen reads (recovered log) all) (sym (append_assoc versions more later))
      (so_far (more ++ later) (subst (λ (batches : List (List ℕ)). AreInBatches seen reads batches (more ++ later)) (sym is_next) (more, later, are, others, refl)))

  pub read_all : (start left : Option (List ℕ)) (behind : ℕ) (versions : List X) → AreReadSoFar start left versions → IsLast left behind
      → IfSome start (λ log. AreInBatches seen reads (recovered log) versions)
  read_all None left behind versions so_far is_last = tt
  read_all (Some log) None behind versions so_far is_last = absurd so_far
  read_all (Some log) (Some left) behind versions so_far is_last =
      subst (λ (all : List X). AreInBatches seen reads (recovered log) all) (append-nil versions)
      (so_far [] (subst (λ (batches : List (List ℕ)). AreInBatches seen reads batches []) (sym is_last.0) refl))

  -- all is read, and joined
  pub joins : (start left : Option (List ℕ)) (behind : ℕ) (map versions new : List X) → AreReadSoFar start left versions → IsLast left behind → HoldsBest seen (map ++ versions) new
      → IfSome start (λ log. JoinsLog seen reads map log new)
  joins None left behind map versions new so_far is_last best = tt
  joins (Some log) left behind map versions new so_far is_last best = record { versions = versions; all = read_all (Some log) left behind versions so_far is_last; best = best }
