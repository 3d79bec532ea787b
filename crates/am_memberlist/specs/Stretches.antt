-- Answers unpacked in stretches.
use Rattle.std.specs.Prelude.{ℕ, List, drop, Result, Ok}
use Rattle.am_memberlist.specs.declared.unpacking.Stretch.{Stretch}
use Rattle.am_memberlist.specs.declared.unpacking.Stretch.TheVariants.{Whole, Part}
use Rattle.am_memberlist.specs.LzwStates.{LzwState}
use Rattle.am_memberlist.specs.LzwStretches.{rest}
use Rattle.am_memberlist.specs.declared.answer.Answer.{Answer}
use Rattle.am_memberlist.specs.declared.answer.Answer.TheVariants.{Message, Packed}
use Rattle.am_memberlist.specs.declared.error.AnswerError.{AnswerError}
use Rattle.am_memberlist.specs.Answers.{◌>>=◌}
use Rattle.am_memberlist.specs.Messages.{as_part, packed_in}

-- the message of a compressed answer, unpacked on from this state
abbrev pub unpacked_from : List ℕ → LzwState → Result (List ℕ) AnswerError
unpacked_from answer unpacked = packed_in (drop 1 answer) >>= λ packed. as_part (rest packed unpacked)

-- the message of a compressed answer, unpacked on from the result of a stretch
abbrev pub stretch_of : List ℕ → Stretch → Result (List ℕ) AnswerError
stretch_of answer (Whole message) = Ok message.items
stretch_of answer (Part unpacked) = unpacked_from answer unpacked

-- the message of an answer
abbrev pub message_of : Answer → Result (List ℕ) AnswerError
message_of (Message bytes) = Ok bytes.items
message_of (Packed answer unpacked) = unpacked_from answer.items unpacked
