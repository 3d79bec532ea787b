-- Instances that show what bare sets show reply as these say.
use Rattle.std.proofs.Common.{◌≡◌, ℕ, List, true}
use Rattle.am_silence.specs.Mesh.{Mesh, mesh_version}
use Rattle.am_nflog.specs.Mesh.{Mesh as LogMesh, mesh_version as entry_version}
use Rattle.am_nflog.specs.LogKeys.{LogKey}
use Rattle.am_matcher.specs.declared.labels.Label.{Label}
use Rattle.am_matcher.specs.declared.dialect.Dialect.{Dialect}
use Rattle.am_matcher.specs.Mutes.{AreMutedIn}
use Rattle.am_merge.specs.Views.{IsViewAt}
use Rattle.am_instance.specs.declared.event.Event.{Event}
use Rattle.am_instance.specs.declared.event.Event.TheVariants as events
use Rattle.am_instance.specs.declared.event.Request.TheVariants as requests
use Rattle.am_instance.specs.declared.reply.Reply.{Reply}
use Rattle.am_instance.specs.declared.reply.Reply.TheVariants as replies
use Rattle.am_instance.specs.declared.reply.Made.{Made}
use Rattle.am_instance.specs.InstanceStates.{InstanceState, silences_in_view, log_in_view}
use Rattle.am_instance.specs.Replies.{IsReply, HoldsMutes, silence_in_view, entry_in_view}
use Rattle.am_instance.specs.Bare.{AreEntriesShown, AreSilencesShown, IsBareReply, asks_shown}
use Rattle.am_instance.proofs.Muted.{muted_in_view}

-- what mutes, mutes among those in view
mutes_in_view : (dialect : Dialect) (labels : List Label) (now : ℕ) (silences : List Mesh) (reply : Reply) → HoldsMutes (AreMutedIn dialect labels now silences) reply →
    HoldsMutes (AreMutedIn dialect labels now (silences_in_view now silences)) reply
mutes_in_view dialect labels now silences (replies.Silences shown) held = absurd held
mutes_in_view dialect labels now silences (replies.Silence shown state) held = absurd held
mutes_in_view dialect labels now silences (replies.Posted id) held = absurd held
mutes_in_view dialect labels now silences replies.Deleted held = absurd held
mutes_in_view dialect labels now silences (replies.Refused error) held = absurd held
mutes_in_view dialect labels now silences (replies.Logged changed) held = absurd held
mutes_in_view dialect labels now silences (replies.Decided told) held = absurd held
mutes_in_view dialect labels now silences (replies.Muted mutes) held = muted_in_view dialect labels now silences mutes.ids mutes.broken held
mutes_in_view dialect labels now silences (replies.Shown shown entries) held = absurd held
mutes_in_view dialect labels now silences replies.Nothing held = absurd held

pub bare_reply : (stand : InstanceState) (silences : List Mesh) (log : List LogMesh) (event : Event) (now : ℕ) (reply : Reply) (made : Made) →
    AreSilencesShown silences now (silences_in_view now stand.silences) → AreEntriesShown log now (log_in_view now stand.log) →
    ((id : List ℕ) → IsViewAt mesh_version silences now id (silence_in_view now stand.silences id)) →
    ((key : LogKey) → IsViewAt entry_version log now key (entry_in_view now stand.log key)) →
    asks_shown event ≡ true → IsReply stand event now reply made → IsBareReply stand.config.dialect silences log event now reply
bare_reply stand silences log (events.Request (requests.List filters)) now reply made view entries of_id of_key asks replied =
    (silences_in_view now stand.silences, view, replied.0)
bare_reply stand silences log (events.Request (requests.Get id)) now reply made view entries of_id of_key asks replied =
    (silence_in_view now stand.silences id, of_id id, replied.0)
bare_reply stand silences log (events.Request (requests.Post posted bits)) now reply made view entries of_id of_key asks replied = absurd cc
bare_reply stand silences log (events.Request (requests.Delete id)) now reply made view entries of_id of_key asks replied = absurd cc
bare_reply stand silences log (events.Frame sender frame) now reply made view entries of_id of_key asks replied = absurd cc
bare_reply stand silences log (events.Notified group_key receiver firing resolved repeat) now reply made view entries of_id of_key asks replied = absurd cc
bare_reply stand silences log (events.Decide group_key receiver firing resolved repeat send_resolved) now reply made view entries of_id of_key asks replied =
    let key : LogKey = record { group_key = group_key; receiver = receiver } in (entry_in_view now stand.log key, of_key key, replied.0)
bare_reply stand silences log (events.Mutes labels) now reply made view entries of_id of_key asks replied =
    (silences_in_view now stand.silences, view, mutes_in_view stand.config.dialect labels now stand.silences reply replied.0)
bare_reply stand silences log events.Show now reply made view entries of_id of_key asks replied =
    (silences_in_view now stand.silences, view, log_in_view now stand.log, entries, replied.0)
bare_reply stand silences log events.Tick now reply made view entries of_id of_key asks replied = absurd cc
bare_reply stand silences log (events.PullFrom place) now reply made view entries of_id of_key asks replied = absurd cc
