-- The fault of a row, as a step is answered with it.
use Rattle.std.proofs.lemmas.List.{drop_all}
use Rattle.std.proofs.Common.{◌≡◌, ◌<◌, ◌≤◌, ℕ, ◌+◌, List, [], ◌++◌, length, get_or, drop, drop-cons, suc, add-one, ap, refl, sym, ◌∙◌}
use Rattle.std.specs.Prelude.{◌≢◌, Option, Some, None, Result, option_map}
use Rattle.am_wire.specs.declared.error.WireError.{WireError}
use Rattle.am_wire.specs.declared.error.WireError.TheVariants as wire
use Rattle.am_wire.specs.declared.unknown.Unknown.{Unknown}
use Rattle.am_gossip.specs.Answers.{frame_fault}
use Rattle.am_gossip.specs.declared.error.FrameError.{FrameError}
use Rattle.am_gossip.specs.declared.frame.Part.{Part}
use Rattle.am_gossip.specs.declared.refusals.StepError.{StepError}
use Rattle.am_gossip.specs.declared.refusals.StepError.TheVariants.{MomentBack, UnknownPeer, Frame, Memory}
use Rattle.am_instance.specs.Deliveries.{Delivery, first_fault, rows_in, rows_of}
use Rattle.am_instance.specs.Steps.{IsJudgement}
use Rattle.am_gossip.specs.Refusals.{step_fault}
use Rattle.am_instance.proofs.Arrivals.{first_fault_here}

pub judged : (fault : Option WireError) (e : WireError) → (e ≢ wire.Memory → fault ≡ Some e) → IsJudgement fault (step_fault e)
judged fault (wire.Truncated at) is = ap (option_map frame_fault) (is (λ same. absurd cc))
judged fault (wire.LongVarint at) is = ap (option_map frame_fault) (is (λ same. absurd cc))
judged fault (wire.FieldNumber at) is = ap (option_map frame_fault) (is (λ same. absurd cc))
judged fault (wire.WireType at) is = ap (option_map frame_fault) (is (λ same. absurd cc))
judged fault (wire.WrongType at) is = ap (option_map frame_fault) (is (λ same. absurd cc))
judged fault (wire.NotUtf8 at) is = ap (option_map frame_fault) (is (λ same. absurd cc))
judged fault (wire.Timestamp at) is = ap (option_map frame_fault) (is (λ same. absurd cc))
judged fault (wire.MatcherType at) is = ap (option_map frame_fault) (is (λ same. absurd cc))
judged fault (wire.MissingMessage field) is = ap (option_map frame_fault) (is (λ same. absurd cc))
judged fault wire.TooLarge is = ap (option_map frame_fault) (is (λ same. absurd cc))
judged fault wire.Memory is = refl

some_fault : (o : Option WireError) (f : FrameError) → option_map frame_fault o ≡ Some f → (e : WireError) × (o ≡ Some e)
some_fault (Some e) f is = (e, refl)
some_fault None f is = absurd cc

-- a fault in the rows of a part is that of all rows from there on
pub judged_here : (xs ys : List (Result Delivery WireError)) (e : StepError) → IsJudgement (first_fault xs) e → IsJudgement (first_fault (xs ++ ys)) e
judged_here xs ys (Memory taken) is = is
judged_here xs ys (Frame f) is =
    let found = some_fault (first_fault xs) f is in
    ap (option_map frame_fault) (first_fault_here xs ys found.0 found.1) ∙ sym (ap (option_map frame_fault) found.1) ∙ is
judged_here xs ys (MomentBack last) is = is
judged_here xs ys UnknownPeer is = is

-- the rows of the part at a place, and those of the parts behind it
pub rows_at : (unknown : Unknown) (parts : List Part) (i : ℕ) (part : Part) → i < length parts → part ≡ get_or parts i part →
    rows_in unknown (drop i parts) ≡ rows_of unknown part ++ rows_in unknown (drop (i + 1) parts)
rows_at unknown parts i part within is =
    ap (rows_in unknown) (drop-cons parts i part within) ∙ ap (λ p. rows_of unknown p ++ rows_in unknown (drop (suc i) parts)) (sym is)
    ∙ ap (λ (n : ℕ). rows_of unknown part ++ rows_in unknown (drop n parts)) (sym (add-one i))

-- no part is left
pub none_left : (unknown : Unknown) (parts : List Part) (i : ℕ) → length parts ≤ i → rows_in unknown (drop i parts) ≡ []
none_left unknown parts i past = ap (rows_in unknown) (drop_all i parts past)
