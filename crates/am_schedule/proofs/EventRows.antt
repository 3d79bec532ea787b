-- The rows of events, by the parts that are read together.
use Rattle.std.proofs.Common.{◌≡◌, ℕ, List, [], drop, Option, Result, Ok, Err, refl}
use Rattle.am_schedule.specs.declared.error.FaultKind.{FaultKind}
use Rattle.am_schedule.specs.declared.form.Verb.{Verb}
use Rattle.am_schedule.specs.declared.form.Verb.TheVariants as verbs
use Rattle.am_schedule.specs.declared.step.VersionLine.{VersionLine}
use Rattle.am_schedule.specs.declared.step.PostLine.{PostLine}
use Rattle.am_schedule.specs.declared.step.GroupLine.{GroupLine}
use Rattle.am_schedule.specs.declared.step.LineEvent.{LineEvent}
use Rattle.am_schedule.specs.declared.step.LineEvent.TheVariants as events
use Rattle.am_schedule.specs.Readings.{◌>>=◌}
use Rattle.am_schedule.specs.Words.{word_at, text_in}
use Rattle.am_schedule.specs.Lists.{pairs_in, member_in}
use Rattle.am_schedule.specs.Labels.{versions_in}
use Rattle.am_schedule.specs.Slots.{whole_moment, interval, bits, hashes, yes_or_no, text, identifier, value_at}
use Rattle.am_schedule.specs.StepLines.{post_in, group_in, event_in}

-- what the words behind a verb are, where a post and a group are read as one
abbrev pub event_parts : List (List ℕ) → (List ℕ → Option VersionLine) → Verb → List (List ℕ) → Result LineEvent FaultKind
event_parts names version verbs.From words = member_in names (word_at 4 words) >>= λ peer. versions_in version (drop 5 words) >>= λ versions. Ok (events.From peer versions)
event_parts names version verbs.Post words = post_in words >>= λ line. Ok (events.Post line)
event_parts names version verbs.Expire words = text_in (word_at 4 words) >>= λ id. Ok (events.Expire id)
event_parts names version verbs.Notified words = group_in words >>= λ group. Ok (events.Notified group)
event_parts names version verbs.Decide words = group_in words >>= λ group. value_at [] yes_or_no (word_at 9 words) >>= λ wanted. Ok (events.Decide group wanted)
event_parts names version verbs.Mutes words = pairs_in (drop 4 words) >>= λ labels. Ok (events.Mutes labels)
event_parts names version verbs.Show words = Ok events.Show
event_parts names version verbs.Tick words = Ok events.Tick
event_parts names version verbs.Pull words = member_in names (word_at 4 words) >>= λ peer. Ok (events.Pull peer)
event_parts names version verbs.Start words = Ok events.Start

by_group : {R : Type 0} (r : Result (List ℕ) FaultKind) (s : Result (List ℕ) FaultKind) (f v : Result (List ℕ) FaultKind) (p : Result ℕ FaultKind) (made : List ℕ → List ℕ → List ℕ → List ℕ → ℕ → GroupLine) (next : GroupLine → Result R FaultKind)
    → (r >>= λ a. s >>= λ b. f >>= λ c. v >>= λ d. p >>= λ e. next (made a b c d e)) ≡ ((r >>= λ a. s >>= λ b. f >>= λ c. v >>= λ d. p >>= λ e. Ok (made a b c d e)) >>= next)
by_group (Err kind) s f v p made next = refl
by_group (Ok a) (Err kind) f v p made next = refl
by_group (Ok a) (Ok b) (Err kind) v p made next = refl
by_group (Ok a) (Ok b) (Ok c) (Err kind) p made next = refl
by_group (Ok a) (Ok b) (Ok c) (Ok d) (Err kind) made next = refl
by_group (Ok a) (Ok b) (Ok c) (Ok d) (Ok e) made next = refl

by_post : (i : Result (Option (List ℕ)) FaultKind) (b s e : Result ℕ FaultKind) (n v : Result (List ℕ) FaultKind) (made : Option (List ℕ) → ℕ → ℕ → ℕ → List ℕ → List ℕ → PostLine)
    → (i >>= λ i. b >>= λ b. s >>= λ s. e >>= λ e. n >>= λ n. v >>= λ v. Ok (events.Post (made i b s e n v)))
    ≡ ((i >>= λ i. b >>= λ b. s >>= λ s. e >>= λ e. n >>= λ n. v >>= λ v. Ok (made i b s e n v)) >>= λ line. Ok (events.Post line))
by_post (Err kind) b s e n v made = refl
by_post (Ok i) (Err kind) s e n v made = refl
by_post (Ok i) (Ok b) (Err kind) e n v made = refl
by_post (Ok i) (Ok b) (Ok s) (Err kind) n v made = refl
by_post (Ok i) (Ok b) (Ok s) (Ok e) (Err kind) v made = refl
by_post (Ok i) (Ok b) (Ok s) (Ok e) (Ok n) (Err kind) made = refl
by_post (Ok i) (Ok b) (Ok s) (Ok e) (Ok n) (Ok v) made = refl

pub event_by : (names : List (List ℕ)) (version : List ℕ → Option VersionLine) (verb : Verb) (words : List (List ℕ)) → event_in names version verb words ≡ event_parts names version verb words
unfolding event_in post_in group_in
event_by names version verbs.From words = refl
event_by names version verbs.Post words =
    by_post (value_at names identifier (word_at 4 words)) (value_at names bits (word_at 5 words)) (value_at names whole_moment (word_at 6 words)) (value_at names whole_moment (word_at 7 words)) (value_at names text (word_at 8 words)) (value_at names text (word_at 9 words))
    (λ id bits starts ends name value. record { id = id; bits = bits; starts = starts; ends = ends; name = name; value = value })
event_by names version verbs.Expire words = refl
event_by names version verbs.Notified words =
    by_group (value_at names text (word_at 4 words))
    (value_at names text (word_at 5 words)) (value_at names hashes (word_at 6 words)) (value_at names hashes (word_at 7 words)) (value_at names interval (word_at 8 words))
    (λ group receiver firing resolved repeat. record { group = group; receiver = receiver; firing = firing; resolved = resolved; repeat = repeat })
    (λ group. Ok (events.Notified group))
event_by names version verbs.Decide words =
    by_group (value_at names text (word_at 4 words))
    (value_at names text (word_at 5 words)) (value_at names hashes (word_at 6 words)) (value_at names hashes (word_at 7 words)) (value_at names interval (word_at 8 words))
    (λ group receiver firing resolved repeat. record { group = group; receiver = receiver; firing = firing; resolved = resolved; repeat = repeat })
    (λ group. value_at [] yes_or_no (word_at 9 words) >>= λ wanted. Ok (events.Decide group wanted))
event_by names version verbs.Mutes words = refl
event_by names version verbs.Show words = refl
event_by names version verbs.Tick words = refl
event_by names version verbs.Pull words = refl
event_by names version verbs.Start words = refl
