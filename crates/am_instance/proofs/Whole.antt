-- Versions that stay whole: those that are brought and made, and those that a step leaves.
use Rattle.std.proofs.Common.{◌≡◌, ⊎_elim, ℕ, ◌+◌, ◌-◌, zero, suc, length, Bool, true, false, List, [], ◌∷◌, map, take, refl, sym, ap, subst, ◌∙◌}
use Rattle.std.specs.Prelude.{All, Contains, Option, Some, None, Result, Ok, Err, IfOk, IfSome, if◌then◌else◌}
use Rattle.std.specs.List.{AllByRecursion}
use Rattle.std.specs.Ordering.{nat_cmp}
use Rattle.std.specs.Cmp.Lexicographic.{slice_cmp, on_texts}
use Rattle.std.specs.declared.cmp.Ordering.{Ordering}
use Rattle.std.proofs.lemmas.Cmp.{nat_list_cmp_total, nat_cmp_total, then_total, on_total}
use Rattle.std.proofs.lemmas.List.Elements.{All-contains_itself, All-cons, All-from_recursion, All-nil, All-weaker, recursion_from_All}
use Rattle.std.proofs.lemmas.Map.Lookups.{exact_bytes}
use Rattle.am_version_order.specs.Versions.{Version}
use Rattle.am_wire.specs.declared.error.WireError.{WireError}
use Rattle.am_wire.specs.declared.unknown.Unknown.{Unknown}
use Rattle.am_wire.specs.declared.unknown.Unknown.TheVariants.{Drop, Keep}
use Rattle.am_wire.specs.Fields.{pieces, next_piece, row_at, ◌>>=◌}
use Rattle.am_wire.specs.Inputs.{message_at, messages_of}
use Rattle.am_wire.specs.Unknown.{StaysWhole}
use Rattle.am_wire.proofs.Dropping.{is_plain}
use Rattle.am_silence.specs.Mesh.{Mesh, mesh_version, without_unknown}
use Rattle.am_silence.specs.MeshTable.{reads_mesh_silence}
use Rattle.am_silence.specs.RoundTrip.{mesh_dropped}
use Rattle.am_silence.specs.declared.error.SilenceError.{SilenceError}
use Rattle.am_silence.specs.Plans.{Post, post_of, planned, versions, ended_of}
use Rattle.am_silence.proofs.Wholeness.{planned_whole, ended_whole}
use Rattle.am_nflog.specs.Mesh.{Mesh as LogMesh, mesh_version as entry_version, without_unknown as entry_without_unknown}
use Rattle.am_nflog.specs.MeshTable.{reads_mesh_entry}
use Rattle.am_nflog.specs.RoundTrip.{mesh_dropped as entry_dropped}
use Rattle.am_nflog.specs.Keys.{key_cmp, exact_keys}
use Rattle.am_merge.specs.Maps.{IsMap, at}
use Rattle.am_merge.proofs.Keys.{IsKeyOrder, key_order, at-Some, all_joined}
use Rattle.am_merge.proofs.Puts.{at-member}
use Rattle.am_collect.specs.Events.{MapEvent, Events, after, after_all}
use Rattle.am_collect.specs.Events.MapEvent.{Delivered, Collected, Passed}
use Rattle.am_collect.proofs.Greatest.{one_of, live_from}
use Rattle.am_gossip.specs.declared.frame.Part.{Part}
use Rattle.am_gossip.specs.declared.frame.StateKey.{StateKey}
use Rattle.am_gossip.specs.declared.frame.StateKey.TheVariants.{Sil, Nfl}
use Rattle.am_gossip.specs.declared.refusals.StepError.{StepError}
use Rattle.am_gossip.specs.declared.refusals.StepError.TheVariants.{MomentBack, UnknownPeer, Frame, Memory}
use Rattle.am_instance.specs.declared.event.Event.{Event}
use Rattle.am_instance.specs.declared.event.Event.TheVariants as events
use Rattle.am_instance.specs.declared.event.Request.TheVariants as requests
use Rattle.am_instance.specs.declared.reply.Made.{Made}
use Rattle.am_instance.specs.declared.reply.Outcome.{Outcome}
use Rattle.am_instance.specs.declared.reply.Reply.{Reply}
use Rattle.am_instance.specs.Configs.{Settings}
use Rattle.am_instance.specs.Deliveries.{Delivery, IsWhole, read_as, before_fault, events_at, parts_of, rows_in, rows_of, to_silences, to_log}
use Rattle.am_instance.specs.Deliveries.Delivery.{OfSilence, OfEntry}
use Rattle.am_instance.specs.InstanceStates.{InstanceState, HoldsWhole, kept_silences, kept_log, AreSilencesLeftBy, IsLogLeftBy, silence_at}
use Rattle.am_instance.specs.Laws.{HasMaps}
use Rattle.am_instance.specs.Replies.{IsReply, IsNothing, AreSilencesMade, IsDone, IsEnded, IsLogged, RefusedOr, listed, posted_over, silence_in_view}
use Rattle.am_instance.specs.Steps.{brought, collects, delivers, made_here, step_events}
use Rattle.am_instance.proofs.Lifts.{rows_by_key, log_rows_by_key}
use Rattle.am_instance.proofs.Works.{made_nothing, made_silences, made_entry_here}

-- ---- what events leave of a map

module _ {K X : Type 0} (seen : X → Version K) (cmp : K → K → Ordering) (keys : IsKeyOrder cmp) (P : X → Type 0) where
  -- what the event delivers has it
  abbrev pub Brings : MapEvent X → Type 0
  Brings (Delivered v) = P v
  Brings Collected = Unit {0}
  Brings Passed = Unit {0}

  abbrev pub AllBring : Events X → Type 0
  AllBring events = AllByRecursion (λ e. Brings e.0) events

  -- what stands at a key has it
  abbrev Gives : (K → Option X) → Type 0
  Gives held = (key : K) (v : X) → held key ≡ Some v → P v

  given_after : (held : K → Option X) (event : MapEvent X) (now : ℕ) → Gives held → Brings event → Gives (after seen cmp held event now)
  given_after held (Delivered w) now gives here key v found =
      ⊎_elim (gives key v) (λ new. (at-Some seen cmp keys P (w ∷ []) key v (here, tt) new).1) (one_of seen (held key) (at seen cmp (w ∷ []) key) v found)
  given_after held Collected now gives here key v found = gives key v (live_from seen now (held key) v found).0
  given_after held Passed now gives here key v found = gives key v found

  given_all : (held : K → Option X) (events : Events X) → Gives held → AllBring events → Gives (after_all seen cmp held events)
  given_all held [] gives all = gives
  given_all held (e ∷ events) gives all = given_all (after seen cmp held e.0 e.1) events (given_after held e.0 e.1 gives all.0) all.1

  -- what held of all versions, and of those that are delivered, holds of what is left
  pub stays : (old new : List X) (events : Events X) → ((key : K) → at seen cmp new key ≡ after_all seen cmp (at seen cmp old) events key) →
      IsMap seen cmp new → All P old → AllBring events → All P new
  stays old new events left order all bring =
      let before : Gives (at seen cmp old) = λ key v found. (at-Some seen cmp keys P old key v (recursion_from_All P old all) found).1 in
      let after : Gives (after_all seen cmp (at seen cmp old) events) = given_all (at seen cmp old) events before bring in
      All-weaker (Contains new) P (λ v member. after (seen v).key v (sym (left (seen v).key) ∙ at-member seen cmp keys new v order member)) new (All-contains_itself new)

silence_keys : IsKeyOrder (slice_cmp nat_cmp)
silence_keys = key_order nat_list_cmp_total exact_bytes

log_keys : IsKeyOrder key_cmp
log_keys =
    key_order
    (then_total (on_texts (λ k. k.group_key))
    (then_total (on_texts (λ k. k.receiver.group_name)) (then_total (on_texts (λ k. k.receiver.integration)) (on_total (λ k. k.receiver.idx) nat_cmp_total))))
    exact_keys

-- ---- what is read

-- each value that was read has it
abbrev Sound : {A : Type 0} → (A → Type 0) → Result A WireError → Type 0
Sound P (Ok x) = P x
Sound P (Err e) = Unit {0}

sound_before : {A : Type 0} (P : A → Type 0) (items : List (Result A WireError)) → AllByRecursion (Sound P) items → AllByRecursion P (before_fault items)
sound_before P [] all = tt
sound_before P (Ok x ∷ items) all = (all.0, sound_before P items all.1)
sound_before P (Err e ∷ items) all = tt

sound_as : {A B : Type 0} (P : A → Type 0) (Q : B → Type 0) (f : A → B) → ((x : A) → P x → Q (f x)) → (items : List (Result A WireError)) →
    AllByRecursion (Sound P) items → AllByRecursion (Sound Q) (map (read_as f) items)
sound_as P Q f goes [] all = tt
sound_as P Q f goes (Ok x ∷ items) all = (goes x all.0, sound_as P Q f goes items all.1)
sound_as P Q f goes (Err e ∷ items) all = (tt, sound_as P Q f goes items all.1)

read_value : {A : Type 0} (P : A → Type 0) (n : ℕ) (r : Result A WireError) (x : A × ℕ) → ((v : A) → r ≡ Ok v → P v) → (r >>= (λ m. Ok (m, n))) ≡ Ok x → P x.0
read_value P n (Ok v) x has is = let pair : (v, n) ≡ x = cc in subst P (ap (λ y. y.0) pair) (has v refl)
read_value P n (Err e) x has is = absurd cc

next_sound : {A : Type 0} (P : A → Type 0) (others : ℕ → List (Result A WireError)) (r : Result (A × ℕ) WireError) → ((x : A × ℕ) → r ≡ Ok x → P x.0) →
    ((skip : ℕ) → AllByRecursion (Sound P) (others skip)) → AllByRecursion (Sound P) (next_piece others r)
next_sound P others (Ok x) here more = (here x refl, more (x.1 - 1))
next_sound P others (Err e) here more = (tt, tt)

module _ {A : Type 0} (P : A → Type 0) (reads : ℕ → List ℕ → Result A WireError) (each : (at : ℕ) (bytes : List ℕ) (v : A) → reads at bytes ≡ Ok v → P v) where
  row_sound : (at : ℕ) (row : Result (List ℕ × ℕ) WireError) (x : A × ℕ) → (row >>= (λ r. reads (at + (r.1 - length r.0)) r.0 >>= (λ m. Ok (m, r.1)))) ≡ Ok x → P x.0
  row_sound at (Ok r) x is = read_value P r.1 (reads (at + (r.1 - length r.0)) r.0) x (each (at + (r.1 - length r.0)) r.0) is
  row_sound at (Err e) x is = absurd cc

  pieces_sound : (skip at : ℕ) (bytes : List ℕ) → AllByRecursion (Sound P) (pieces (message_at reads) skip at bytes)
  unfolding pieces
  pieces_sound skip at [] = tt
  pieces_sound zero at (b ∷ bytes) =
      next_sound P (λ skip. pieces (message_at reads) skip (at + 1) bytes) (message_at reads at (b ∷ bytes)) (row_sound at (row_at at (b ∷ bytes))) (λ skip. pieces_sound skip (at + 1) bytes)
  pieces_sound (suc skip) at (b ∷ bytes) = pieces_sound skip (at + 1) bytes

  messages_sound : (input : List ℕ) → AllByRecursion (Sound P) (messages_of reads input)
  messages_sound input = pieces_sound 0 0 input

silence_read : (unknown : Unknown) (at : ℕ) (bytes : List ℕ) (v : Mesh) → reads_mesh_silence unknown at bytes ≡ Ok v → StaysWhole without_unknown unknown v
silence_read Keep at bytes v is = tt
silence_read Drop at bytes v is = is_plain without_unknown (reads_mesh_silence Drop at bytes) (reads_mesh_silence Keep at bytes) (mesh_dropped at bytes) (λ m. refl) v is

entry_read : (unknown : Unknown) (at : ℕ) (bytes : List ℕ) (e : LogMesh) → reads_mesh_entry unknown at bytes ≡ Ok e → StaysWhole entry_without_unknown unknown e
entry_read Keep at bytes e is = tt
entry_read Drop at bytes e is = is_plain entry_without_unknown (reads_mesh_entry Drop at bytes) (reads_mesh_entry Keep at bytes) (entry_dropped at bytes) (λ m. refl) e is

-- ---- what is brought

rows_sound : (unknown : Unknown) (part : Part) (key : StateKey) → part.key ≡ key → AllByRecursion (Sound (IsWhole unknown)) (rows_of unknown part)
rows_sound unknown part Sil is =
    subst (AllByRecursion (Sound (IsWhole unknown))) (sym (rows_by_key unknown part is))
    (sound_as (StaysWhole without_unknown unknown) (IsWhole unknown) OfSilence (λ v whole. whole) (messages_of (reads_mesh_silence unknown) part.bytes)
    (messages_sound (StaysWhole without_unknown unknown) (reads_mesh_silence unknown) (silence_read unknown) part.bytes))
rows_sound unknown part Nfl is =
    subst (AllByRecursion (Sound (IsWhole unknown))) (sym (log_rows_by_key unknown part is))
    (sound_as (StaysWhole entry_without_unknown unknown) (IsWhole unknown) OfEntry (λ e whole. whole) (messages_of (reads_mesh_entry unknown) part.bytes)
    (messages_sound (StaysWhole entry_without_unknown unknown) (reads_mesh_entry unknown) (entry_read unknown) part.bytes))

parts_sound : (unknown : Unknown) (parts : List Part) → AllByRecursion (Sound (IsWhole unknown)) (rows_in unknown parts)
parts_sound unknown [] = tt
parts_sound unknown (part ∷ parts) =
    all_joined (Sound (IsWhole unknown)) (rows_of unknown part) (rows_in unknown parts) (rows_sound unknown part part.key refl) (parts_sound unknown parts)

brought_whole : (unknown : Unknown) (event : Event) → AllByRecursion (IsWhole unknown) (brought unknown event)
brought_whole unknown (events.Frame sender frame) = sound_before (IsWhole unknown) (rows_in unknown (parts_of frame)) (parts_sound unknown (parts_of frame))
brought_whole unknown (events.Request request) = tt
brought_whole unknown (events.Notified group_key receiver firing resolved repeat) = tt
brought_whole unknown (events.Decide group_key receiver firing resolved repeat send_resolved) = tt
brought_whole unknown (events.Mutes labels) = tt
brought_whole unknown events.Show = tt
brought_whole unknown events.Tick = tt
brought_whole unknown (events.PullFrom place) = tt

-- ---- what is made

-- what has no unknown fields loses none
plain_whole : {A : Type 0} (plain : A → A) (unknown : Unknown) (v : A) → plain v ≡ v → StaysWhole plain unknown v
plain_whole plain Keep v is = tt
plain_whole plain Drop v is = is

silences_whole : (unknown : Unknown) (vs : List Mesh) → AllByRecursion (StaysWhole without_unknown unknown) vs → AllByRecursion (IsWhole unknown) (map OfSilence vs)
silences_whole unknown [] whole = tt
silences_whole unknown (v ∷ vs) whole = (whole.0, silences_whole unknown vs whole.1)

if_some : {A : Type 0} (P : A → Type 0) (o : Option A) → ((v : A) → o ≡ Some v → P v) → IfSome o P
if_some P None each = tt
if_some P (Some v) each = each v refl

-- what is in view is among what is held
view_whole : (unknown : Unknown) (now : ℕ) (silences : List Mesh) (id : List ℕ) → All (StaysWhole without_unknown unknown) silences →
    IfSome (silence_in_view now silences id) (StaysWhole without_unknown unknown)
view_whole unknown now silences id whole =
    if_some (StaysWhole without_unknown unknown) (silence_in_view now silences id)
    (λ v found. (at-Some mesh_version (slice_cmp nat_cmp) silence_keys (StaysWhole without_unknown unknown) silences id v
    (recursion_from_All (StaysWhole without_unknown unknown) silences whole) (live_from mesh_version now (silence_at silences id) v found).0).1)

posted_over_whole : (unknown : Unknown) (now : ℕ) (silences : List Mesh) (id : Option (List ℕ)) → All (StaysWhole without_unknown unknown) silences →
    IfSome (posted_over now silences id) (StaysWhole without_unknown unknown)
posted_over_whole unknown now silences None whole = tt
posted_over_whole unknown now silences (Some id) whole = view_whole unknown now silences id whole

listed_whole : (unknown : Unknown) (held : Option Mesh) → IfSome held (StaysWhole without_unknown unknown) → All (StaysWhole without_unknown unknown) (listed held)
listed_whole unknown None whole = All-nil (StaysWhole without_unknown unknown)
listed_whole unknown (Some v) whole = All-cons (StaysWhole without_unknown unknown) v [] whole (All-nil (StaysWhole without_unknown unknown))

module _ (unknown : Unknown) (made : Made) where
  abbrev MadeWhole : Type 0
  MadeWhole = AllByRecursion (IsWhole unknown) (made_here made)

  nothing_whole : IsNothing made → MadeWhole
  nothing_whole nothing = subst (AllByRecursion (IsWhole unknown)) (sym (made_nothing made nothing)) tt

  copies_whole : (vs : List Mesh) → All (StaysWhole without_unknown unknown) vs → AreSilencesMade made vs → MadeWhole
  copies_whole vs whole are =
      subst (AllByRecursion (IsWhole unknown)) (sym (made_silences made vs are)) (silences_whole unknown vs (recursion_from_All (StaysWhole without_unknown unknown) vs whole))

  posted_whole : (cause : Option SilenceError) (held : Option Mesh) (p : Post) (reply : Reply) → IfSome held (StaysWhole without_unknown unknown) →
      RefusedOr cause (IsDone (planned held p)) reply made → MadeWhole
  posted_whole None held p reply whole done = copies_whole (versions (planned held p)) (planned_whole unknown p held whole) done.copies
  posted_whole (Some error) held p reply whole refused = nothing_whole refused.nothing

  deleted_whole : (cause : Option SilenceError) (held : Option Mesh) (now retention : ℕ) (reply : Reply) → IfSome held (StaysWhole without_unknown unknown) →
      RefusedOr cause (IsEnded (ended_of held now retention)) reply made → MadeWhole
  deleted_whole None held now retention reply whole done =
      copies_whole (listed (ended_of held now retention)) (listed_whole unknown (ended_of held now retention) (ended_whole unknown held now retention whole)) done.copies
  deleted_whole (Some error) held now retention reply whole refused = nothing_whole refused.nothing

  logged_whole : (test : Bool) (now : ℕ) (log : List LogMesh) (entry : LogMesh) (reply : Reply) → entry_without_unknown entry ≡ entry → IsLogged now log test entry reply made → MadeWhole
  logged_whole true now log entry reply plain logged =
      subst (AllByRecursion (IsWhole unknown)) (sym (made_entry_here made entry logged.1 logged.2)) (plain_whole entry_without_unknown unknown entry plain, tt)
  logged_whole false now log entry reply plain logged = nothing_whole logged.1

  made_whole : (stand : InstanceState) (event : Event) (now : ℕ) (reply : Reply) → All (StaysWhole without_unknown unknown) stand.silences → IsReply stand event now reply made → MadeWhole
  made_whole stand (events.Request (requests.List filters)) now reply whole is = nothing_whole is.1
  made_whole stand (events.Request (requests.Get id)) now reply whole is = nothing_whole is.1
  made_whole stand (events.Request (requests.Post posted bits)) now reply whole is = posted_whole _ (posted_over now stand.silences posted.id) (post_of posted now bits stand.config.retention) reply
      (posted_over_whole unknown now stand.silences posted.id whole) is.answer
  made_whole stand (events.Request (requests.Delete id)) now reply whole is = deleted_whole _ (silence_in_view now stand.silences id) now stand.config.retention reply (view_whole unknown now stand.silences id whole) is
  made_whole stand (events.Frame sender frame) now reply whole is = nothing_whole is.1
  made_whole stand (events.Notified group_key receiver firing resolved repeat) now reply whole is = logged_whole _ now stand.log _ reply refl is
  made_whole stand (events.Decide group_key receiver firing resolved repeat send_resolved) now reply whole is = nothing_whole is.1
  made_whole stand (events.Mutes labels) now reply whole is = nothing_whole is.1
  made_whole stand events.Show now reply whole is = nothing_whole is.1
  made_whole stand events.Tick now reply whole is = nothing_whole is.1
  made_whole stand (events.PullFrom place) now reply whole is = nothing_whole is.1

-- ---- what a step delivers

all_delivered : (unknown : Unknown) (stand : InstanceState) (event : Event) (now : ℕ) (reply : Reply) (made : Made) → All (StaysWhole without_unknown unknown) stand.silences →
    IsReply stand event now reply made → AllByRecursion (IsWhole unknown) (delivers unknown event made)
all_delivered unknown stand event now reply made whole is =
    all_joined (IsWhole unknown) (brought unknown event) (made_here made) (brought_whole unknown event) (made_whole unknown made stand event now reply whole is)

pub delivered_whole : (unknown : Unknown) (stand : InstanceState) (event : Event) (now : ℕ) (reply : Reply) (made : Made) → All (StaysWhole without_unknown unknown) stand.silences →
    IsReply stand event now reply made → All (IsWhole unknown) (delivers unknown event made)
delivered_whole unknown stand event now reply made whole is =
    All-from_recursion (IsWhole unknown) (delivers unknown event made) (all_delivered unknown stand event now reply made whole is)

abbrev BringSilences : Unknown → Events Mesh → Type 0
BringSilences unknown = AllBring mesh_version (slice_cmp nat_cmp) silence_keys (StaysWhole without_unknown unknown)

abbrev BringEntries : Unknown → Events LogMesh → Type 0
BringEntries unknown = AllBring entry_version key_cmp log_keys (StaysWhole entry_without_unknown unknown)

silences_brought : (unknown : Unknown) (now : ℕ) (ds : List Delivery) → AllByRecursion (IsWhole unknown) ds → BringSilences unknown (map (λ d. (to_silences d, now)) ds)
silences_brought unknown now [] all = tt
silences_brought unknown now (OfSilence v ∷ ds) all = (all.0, silences_brought unknown now ds all.1)
silences_brought unknown now (OfEntry e ∷ ds) all = (tt, silences_brought unknown now ds all.1)

entries_brought : (unknown : Unknown) (now : ℕ) (ds : List Delivery) → AllByRecursion (IsWhole unknown) ds → BringEntries unknown (map (λ d. (to_log d, now)) ds)
entries_brought unknown now [] all = tt
entries_brought unknown now (OfSilence v ∷ ds) all = (tt, entries_brought unknown now ds all.1)
entries_brought unknown now (OfEntry e ∷ ds) all = (all.0, entries_brought unknown now ds all.1)

all_first : {A : Type 0} (P : A → Type 0) (n : ℕ) (xs : List A) → AllByRecursion P xs → AllByRecursion P (take n xs)
all_first P zero xs all = tt
all_first P (suc n) [] all = tt
all_first P (suc n) (x ∷ xs) all = (all.0, all_first P n xs all.1)

module _ {X : Type 0} (of_delivery : Delivery → MapEvent X) (Bring : Events X → Type 0) (unknown : Unknown) (event : Event) (now : ℕ)
    (collects_fine : Bring ((Collected, now) ∷ [])) (none_fine : Bring [])
    (given_fine : (ds : List Delivery) → AllByRecursion (IsWhole unknown) ds → Bring (events_at of_delivery now ds)) where
  step_brings : (stand : InstanceState) (result : Result Outcome StepError) → All (StaysWhole without_unknown unknown) stand.silences → IfOk result (λ outcome. IsReply stand event now outcome.reply outcome.made) →
      Bring (step_events of_delivery unknown event now result)
  step_brings stand (Ok outcome) whole reply = by (collects event) where
    by : (b : Bool) → Bring (if b then (Collected, now) ∷ [] else events_at of_delivery now (delivers unknown event outcome.made))
    by true = collects_fine
    by false =
        given_fine (delivers unknown event outcome.made) (all_delivered unknown stand event now outcome.reply outcome.made whole reply)
  step_brings stand (Err (Memory taken)) whole reply = given_fine (take taken (brought unknown event)) (all_first (IsWhole unknown) taken (brought unknown event) (brought_whole unknown event))
  step_brings stand (Err (MomentBack last)) whole reply = none_fine
  step_brings stand (Err UnknownPeer) whole reply = none_fine
  step_brings stand (Err (Frame fault)) whole reply = none_fine

-- A step leaves maps whole if they were whole before.
pub step_whole : (old new : InstanceState) (event : Event) (now : ℕ) (result : Result Outcome StepError) → new.config ≡ old.config →
    AreSilencesLeftBy (kept_silences old) (step_events to_silences old.config.unknown event now result) (kept_silences new) →
    IsLogLeftBy (kept_log old) (step_events to_log old.config.unknown event now result) (kept_log new) →
    IfOk result (λ outcome. IsReply old event now outcome.reply outcome.made) → HasMaps new → HoldsWhole old → HoldsWhole new
step_whole old new event now result config silences log reply maps whole =
    let unknown = old.config.unknown in
    let bring_silences = step_brings to_silences (BringSilences unknown) unknown event now (tt, tt) tt (λ ds all. (tt, silences_brought unknown now ds all)) old result whole.silences reply in
    let bring_entries = step_brings to_log (BringEntries unknown) unknown event now (tt, tt) tt (λ ds all. (tt, entries_brought unknown now ds all)) old result whole.silences reply in
    record {
      silences =
          subst (λ (settings : Settings). All (StaysWhole without_unknown settings.unknown) new.silences) (sym config)
          (stays mesh_version (slice_cmp nat_cmp) silence_keys (StaysWhole without_unknown unknown) old.silences new.silences _ silences.map maps.silences whole.silences bring_silences);
      log =
          subst (λ (settings : Settings). All (StaysWhole entry_without_unknown settings.unknown) new.log) (sym config)
          (stays entry_version key_cmp log_keys (StaysWhole entry_without_unknown unknown) old.log new.log _ log.map maps.log whole.log bring_entries);
    }
