use Rattle.std.proofs.Common.{◌≡◌}
use Rattle.std.specs.Prelude.{is_some}
use Rattle.am_instance.specs.InstanceStates.{silence_at}
use Rattle.am_instance.proofs.requests.is_among.Given as goal

abbrev pub invariant-loop-silence : goal.invariant-loop-silence
invariant-loop-silence l = is_some (silence_at l.fn.silences l.id) ≡ is_some (silence_at l.silence-iterator l.id)
