-- Replies given by bare sets of versions. A bare set is a list in any order, with repetitions.
use Rattle.std.specs.Prelude.{◌≡◌, ℕ, Bool, true, List, [], map, filter, Option, option_map}
use Rattle.std.specs.List.{list_all}
use Rattle.std.specs.Ordering.{nat_cmp}
use Rattle.std.specs.Cmp.Lexicographic.{slice_cmp}
use Rattle.std.specs.declared.cmp.Ordering.{Ordering}
use Rattle.am_version_order.specs.Versions.{Version}
use Rattle.am_silence.specs.Mesh.{Mesh, mesh_version}
use Rattle.am_silence.specs.declared.state.State.{State}
use Rattle.am_silence.specs.declared.matcher.Matcher.{Matcher}
use Rattle.am_matcher.specs.Matching.{passes}
use Rattle.am_matcher.specs.declared.dialect.Dialect.{Dialect}
use Rattle.am_matcher.specs.Mutes.{AreMutedIn}
use Rattle.am_nflog.specs.Mesh.{Mesh as LogMesh, mesh_version as entry_version}
use Rattle.am_nflog.specs.Keys.{key_cmp}
use Rattle.am_dedup.specs.Decisions.{decision, logged, set_of}
use Rattle.am_merge.specs.Maps.{IsMap, at}
use Rattle.am_merge.specs.Views.{IsViewAt}
use Rattle.am_instance.specs.declared.event.Event.{Event}
use Rattle.am_instance.specs.declared.event.Event.TheVariants as events
use Rattle.am_instance.specs.declared.event.Request.{Request}
use Rattle.am_instance.specs.declared.event.Request.TheVariants as requests
use Rattle.am_instance.specs.declared.reply.Reply.{Reply}
use Rattle.am_instance.specs.declared.reply.Reply.TheVariants as replies
use Rattle.am_instance.specs.Replies.{HoldsMutes, HoldsSilences, HoldsViews, found_reply, with_state}
use Rattle.am_instance.specs.Laws.{asks_views}

module _ {K X : Type 0} (seen : X → Version K) (cmp : K → K → Ordering) where
  -- the view of a bare set: what the set shows at each key, in the order of the keys
  pub record IsView (set : List X) (now : ℕ) (view : List X) : Type 0 where
    pub order : IsMap seen cmp view
    pub shown : (key : K) → IsViewAt seen set now key (at seen cmp view key)

-- the silences that a bare set shows, by id
abbrev pub AreSilencesShown : List Mesh → ℕ → List Mesh → Type 0
AreSilencesShown = IsView mesh_version (slice_cmp nat_cmp)

-- the entries of the log that a bare set shows, by key
abbrev pub AreEntriesShown : List LogMesh → ℕ → List LogMesh → Type 0
AreEntriesShown = IsView entry_version key_cmp

-- the silences that pass all filters, with their states
abbrev pub passing : ℕ → List Matcher → List Mesh → List (Mesh × State)
passing now filters view = map (with_state now) (filter (λ v. list_all (λ f. passes f v.silence) filters) view)

-- the event is answered from what is shown: a list, a silence, a decision, both views, or which silences mute an alert
abbrev pub asks_shown : Event → Bool
asks_shown (events.Mutes labels) = true
asks_shown event = asks_views event

-- the reply to a request, given by the bare set of silences
abbrev pub IsBareRequestReply : List Mesh → Request → ℕ → Reply → Type 0
IsBareRequestReply silences (requests.List filters) now reply =
    (view : List Mesh) × AreSilencesShown silences now view × HoldsSilences (passing now filters.items view) reply
IsBareRequestReply silences (requests.Get id) now reply =
    (found : Option Mesh) × IsViewAt mesh_version silences now id found × found_reply now found reply
IsBareRequestReply silences _ now reply = ⊥

-- The reply to an event, given by what the bare sets of silences and of entries show: a list has the silences that pass its
-- filters, a silence is the one with its id, a decision goes by the group's entry, and the active silences mute an alert. The
-- dialect is that of the patterns.
abbrev pub IsBareReply : Dialect → List Mesh → List LogMesh → Event → ℕ → Reply → Type 0
IsBareReply dialect silences log (events.Request request) now reply = IsBareRequestReply silences request now reply
IsBareReply dialect silences log (events.Decide group_key receiver firing resolved repeat send_resolved) now reply =
    (found : Option LogMesh) × IsViewAt entry_version log now (record { group_key = group_key; receiver = receiver }) found
    × (reply ≡ replies.Decided (decision (option_map (λ m. logged m.entry) found) (set_of firing) (set_of resolved) repeat send_resolved now))
IsBareReply dialect silences log (events.Mutes labels) now reply =
    (view : List Mesh) × AreSilencesShown silences now view × HoldsMutes (AreMutedIn dialect labels now view) reply
IsBareReply dialect silences log events.Show now reply =
    (view : List Mesh) × AreSilencesShown silences now view
    × (entries : List LogMesh) × AreEntriesShown log now entries × HoldsViews (passing now [] view) entries reply
IsBareReply dialect silences log _ now reply = ⊥
