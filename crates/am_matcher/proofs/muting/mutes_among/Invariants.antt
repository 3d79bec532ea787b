use Rattle.std.proofs.Common.{ℕ, Bool, List, map, take}
use Rattle.am_matcher.specs.Mutes.{AreMutedIn}
use Rattle.am_matcher.specs.Uses.{SilencesPass, TextsPass}
use Rattle.am_matcher.proofs.muting.mutes_among.Given as goal

abbrev pub invariant-loop-version : goal.invariant-loop-version
invariant-loop-version l = record {
  muted : AreMutedIn l.judging.dialect l.labels l.judging.moment (take l.version-index (map (λ m. m.now) l.silences)) l.ids.items l.broken.items;
  kept : (test : List ℕ → Bool) → SilencesPass test (map (λ m. m.now) l.silences) → TextsPass test l.fn.patterns → TextsPass test l.patterns;
}
