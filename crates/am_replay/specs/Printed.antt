-- The lines that a player prints, without their ends.
use Rattle.std.specs.Prelude.{ℕ, Bool, true, false, List, ◌++◌, codes}
use Rattle.std.specs.Option.{option_copied}
use Rattle.std.specs.Fmt.{decimal}
use Rattle.am_dedup.specs.declared.decision.Decision.{Decision}
use Rattle.am_dedup.specs.declared.decision.Decision.TheVariants.{Skip, Notify}
use Rattle.am_dedup.specs.declared.decision.Reason.TheVariants.{First, NewFiring, AllResolved, NewResolved, Repeat}
use Rattle.am_gossip.specs.declared.kind.FrameKind.{FrameKind}
use Rattle.am_gossip.specs.declared.kind.FrameKind.TheVariants as kinds
use Rattle.am_report.specs.Words.{word_of}
use Rattle.am_report.specs.Lists.{texts_word}
use Rattle.am_report.specs.Views.{owner_words}
use Rattle.am_replay.specs.declared.refusal.LineRefusal.{LineRefusal}
use Rattle.am_replay.specs.declared.refusal.LineRefusal.TheVariants as refusals
use Rattle.am_replay.specs.declared.line.OutputLine.{OutputLine}
use Rattle.am_replay.specs.declared.line.OutputLine.TheVariants as lines

-- the word for a yes-or-no answer
abbrev pub yes_or_no : Bool → List ℕ
yes_or_no true = codes "yes"
yes_or_no false = codes "no"

-- the reason for which a group is notified, or that it isn't
abbrev pub decision_word : Decision → List ℕ
decision_word Skip = codes "Skip"
decision_word (Notify First) = codes "First"
decision_word (Notify NewFiring) = codes "NewFiring"
decision_word (Notify AllResolved) = codes "AllResolved"
decision_word (Notify NewResolved) = codes "NewResolved"
decision_word (Notify Repeat) = codes "Repeat"

-- the name of a kind of frame
abbrev pub kind_word : FrameKind → List ℕ
kind_word kinds.Delta = codes "Delta"
kind_word kinds.Push = codes "Push"
kind_word kinds.Pull = codes "Pull"
kind_word kinds.Tick = codes "Tick"

-- the name of a kind of refusal
abbrev pub refusal_word : LineRefusal → List ℕ
refusal_word refusals.NotFound = codes "NotFound"
refusal_word refusals.NoMatcher = codes "NoMatcher"
refusal_word refusals.EmptyName = codes "EmptyName"
refusal_word refusals.BadPattern = codes "BadPattern"
refusal_word refusals.AllMatchEmpty = codes "AllMatchEmpty"
refusal_word refusals.EndNotAfterStart = codes "EndNotAfterStart"
refusal_word refusals.EndInPast = codes "EndInPast"
refusal_word refusals.AlreadyExpired = codes "AlreadyExpired"
refusal_word refusals.Newer = codes "Newer"
refusal_word refusals.IdInUse = codes "IdInUse"
refusal_word refusals.TooLarge = codes "TooLarge"
refusal_word refusals.Memory = codes "Memory"
refusal_word refusals.MomentBack = codes "MomentBack"
refusal_word refusals.UnknownPeer = codes "UnknownPeer"
refusal_word refusals.Stopped = codes "Stopped"
refusal_word refusals.Running = codes "Running"
refusal_word refusals.NoFrame = codes "NoFrame"

-- the text of a printed line
unfoldable pub line_text : OutputLine → List ℕ
line_text (lines.Posted name id) = word_of name.now ++ codes " posted " ++ word_of id.now
line_text (lines.Expired name id) = word_of name.now ++ codes " expired " ++ word_of id.now
line_text (lines.Logged name changed) = word_of name.now ++ codes " logged " ++ yes_or_no changed
line_text (lines.Decided name decision) = word_of name.now ++ codes " decide " ++ decision_word decision
line_text (lines.Muted name ids broken) = word_of name.now ++ codes " mutes " ++ texts_word ids.now ++ codes " broken "
    ++ texts_word broken.now
line_text lines.Settled = codes "settled"
line_text (lines.Timely is_timely) = codes "timely " ++ yes_or_no is_timely
line_text (lines.Frame number sender addressee kind) =
    codes "frame " ++ decimal number ++ codes " " ++ word_of sender.now ++ codes " " ++ word_of addressee.now ++ codes " " ++ kind_word kind
line_text (lines.Refused name refusal) = owner_words (option_copied name) ++ codes "refused " ++ refusal_word refusal
line_text (lines.Calm name) = codes "calm " ++ word_of name.now
line_text (lines.Uncalm name line) = codes "uncalm " ++ word_of name.now ++ codes " line " ++ decimal line
