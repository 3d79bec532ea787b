-- Instances with the same views reply alike.
use Rattle.std.proofs.Common.{◌≡◌, ℕ, List, [], true, map, subst}
use Rattle.std.specs.Prelude.{filter, option_map}
use Rattle.std.specs.List.{list_all}
use Rattle.am_silence.specs.Mesh.{Mesh}
use Rattle.am_matcher.specs.Matching.{passes}
use Rattle.am_nflog.specs.Mesh.{Mesh as LogMesh}
use Rattle.am_dedup.specs.Decisions.{decision, logged, set_of}
use Rattle.am_instance.specs.declared.event.Event.{Event}
use Rattle.am_instance.specs.declared.event.Event.TheVariants as events
use Rattle.am_instance.specs.declared.event.Request.TheVariants as requests
use Rattle.am_instance.specs.declared.reply.Reply.{Reply}
use Rattle.am_instance.specs.declared.reply.Reply.TheVariants as replies
use Rattle.am_instance.specs.declared.reply.Made.{Made}
use Rattle.am_instance.specs.InstanceStates.{InstanceState, silences_in_view, log_in_view}
use Rattle.am_instance.specs.Replies.{IsReply, IsNothing, HoldsSilences, HoldsViews, found_reply, with_state}
use Rattle.am_instance.specs.Laws.{ShowSame, asks_views}

pub alike : (one other : InstanceState) (event : Event) (now : ℕ) (reply : Reply) (made : Made) →
    silences_in_view now one.silences ≡ silences_in_view now other.silences → log_in_view now one.log ≡ log_in_view now other.log → ShowSame now one other →
    asks_views event ≡ true → IsReply one event now reply made → IsReply other event now reply made
alike one other (events.Request (requests.List filters)) now reply made silences log same asks replied =
    subst (λ (view : List Mesh). HoldsSilences (map (with_state now) (filter (λ v. list_all (λ f. passes f v.silence) filters.items) view)) reply × IsNothing made) silences replied
alike one other (events.Request (requests.Get id)) now reply made silences log same asks replied =
    subst (λ found. found_reply now found reply × IsNothing made) (same.silences id) replied
alike one other (events.Request (requests.Post posted bits)) now reply made silences log same asks replied = absurd cc
alike one other (events.Request (requests.Delete id)) now reply made silences log same asks replied = absurd cc
alike one other (events.Frame sender frame) now reply made silences log same asks replied = absurd cc
alike one other (events.Notified group_key receiver firing resolved repeat) now reply made silences log same asks replied = absurd cc
alike one other (events.Decide group_key receiver firing resolved repeat send_resolved) now reply made silences log same asks replied =
    subst (λ found. (reply ≡ replies.Decided (decision (option_map (λ m. logged m.entry) found) (set_of firing) (set_of resolved) repeat send_resolved now)) × IsNothing made)
    (same.log (record { group_key = group_key; receiver = receiver })) replied
alike one other (events.Mutes labels) now reply made silences log same asks replied = absurd cc
alike one other events.Show now reply made silences log same asks replied =
    subst (λ (view : List LogMesh). HoldsViews (map (with_state now) (filter (λ v. list_all (λ f. passes f v.silence) []) (silences_in_view now other.silences))) view reply × IsNothing made) log
    (subst (λ (view : List Mesh). HoldsViews (map (with_state now) (filter (λ v. list_all (λ f. passes f v.silence) []) view)) (log_in_view now one.log) reply × IsNothing made) silences replied)
alike one other events.Tick now reply made silences log same asks replied = absurd cc
alike one other (events.PullFrom place) now reply made silences log same asks replied = absurd cc
