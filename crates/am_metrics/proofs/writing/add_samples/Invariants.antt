use Rattle.std.proofs.Common.{◌≡◌, ◌++◌, take}
use Rattle.std.specs.List.{flat_map}
use Rattle.am_metrics.specs.Expositions.{sample_text}
use Rattle.am_metrics.proofs.writing.add_samples.Given as goal

-- what came of the elements so far stands behind what stood before
abbrev pub invariant-loop-sample : goal.invariant-loop-sample
invariant-loop-sample l = l.out.items ≡ l.initial.out.items ++ flat_map (sample_text l.fn.name) (take l.sample-index l.fn.samples)
