-- Versions that are made here, taken and sent on.
use Rattle.std.proofs.Common.{◌≡◌, ℕ, get_or, List, [], ◌∷◌, Bool, true, false, ap, refl, sym, subst, ◌∙◌, append-nil}
use Rattle.std.specs.Prelude.{Some, ◌&&◌}
use Rattle.std.specs.Ordering.{nat_cmp}
use Rattle.std.specs.Cmp.Lexicographic.{slice_cmp}
use Rattle.am_version_order.specs.Versions.{is_live}
use Rattle.am_silence.specs.Mesh.{Mesh, mesh_version}
use Rattle.am_nflog.specs.Mesh.{Mesh as LogMesh, mesh_version as entry_version}
use Rattle.am_nflog.specs.Keys.{key_cmp}
use Rattle.am_merge.specs.Maps.{replaces}
use Rattle.am_merge.specs.Takings.{IsTaking, AreTakings, taken_by}
use Rattle.am_merge.specs.declared.held.Taken.{Taken}
use Rattle.am_instance.specs.declared.reply.Reply.{Reply}
use Rattle.am_instance.specs.declared.reply.Reply.TheVariants as replies
use Rattle.am_instance.specs.declared.reply.Outcome.{Outcome}
use Rattle.am_instance.specs.Configs.{peers_but}
use Rattle.am_instance.specs.Deliveries.Delivery.{OfSilence, OfEntry}
use Rattle.am_instance.specs.InstanceStates.{InstanceState, silence_at, entry_at}
use Rattle.am_instance.specs.Changes.{changes, only_if}
use Rattle.am_instance.specs.Sendings.{Sent, Sends, deltas_to, nothing_sent, sent_by}
use Rattle.am_instance.specs.Replies.{AreSilencesMade}
use Rattle.am_instance.specs.Steps.{Delivers, IsPutHere, IsLoggedHere, is_changed, deltas_here}
use Rattle.am_instance.proofs.Lifts.{delivers_silences, delivers_entries}
use Rattle.am_instance.proofs.Arrivals.{delivers_then, sends_then}

changed_by : (live replaced : Bool) → is_changed (taken_by live replaced) ≡ (live && replaced)
changed_by true true = refl
changed_by true false = refl
changed_by false true = refl
changed_by false false = refl

-- a taking is answered Changed where the version changes the map
pub silence_changed : (now : ℕ) (held : List Mesh) (v : Mesh) (new : List Mesh) (taken : Taken) → IsTaking mesh_version (slice_cmp nat_cmp) now held v new taken →
    is_changed taken ≡ changes mesh_version now (silence_at held) v
silence_changed now held v new taken is = ap is_changed is.answer ∙ changed_by (is_live now (mesh_version v)) (replaces mesh_version (slice_cmp nat_cmp) held v)

pub entry_changed : (now : ℕ) (held : List LogMesh) (e : LogMesh) (new : List LogMesh) (taken : Taken) → IsTaking entry_version key_cmp now held e new taken →
    is_changed taken ≡ changes entry_version now (entry_at held) e
entry_changed now held e new taken is = ap is_changed is.answer ∙ changed_by (is_live now (entry_version e)) (replaces entry_version key_cmp held e)

pub taken_silence : (now : ℕ) (v : Mesh) (old new : InstanceState) (taken : Taken) → new.config ≡ old.config → new.last ≡ old.last → new.log ≡ old.log →
    IsTaking mesh_version (slice_cmp nat_cmp) now old.silences v new.silences taken → Delivers now (OfSilence v ∷ []) old new
taken_silence now v old new taken config last log is = delivers_silences now (v ∷ []) old new config last log (λ key. is.put.joined key)

pub taken_entry : (now : ℕ) (e : LogMesh) (old new : InstanceState) (taken : Taken) → new.config ≡ old.config → new.last ≡ old.last → new.silences ≡ old.silences →
    IsTaking entry_version key_cmp now old.log e new.log taken → Delivers now (OfEntry e ∷ []) old new
taken_entry now e old new taken config last silences is = delivers_entries now (e ∷ []) old new config last silences (λ key. is.put.joined key)

-- what is sent of one version
pub sent_silence : (now : ℕ) (v : Mesh) (old : InstanceState) (test : Bool) (a b : Sent) → test ≡ changes mesh_version now (silence_at old.silences) v →
    Sends (deltas_to (peers_but old.config old.config.place) (only_if test (OfSilence v))) a b → Sends (deltas_here old now (OfSilence v ∷ [])) a b
sent_silence now v old test a b is sent =
    subst (λ xs. Sends (deltas_to (peers_but old.config old.config.place) xs) a b) (ap (λ (t : Bool). only_if t (OfSilence v)) is ∙ sym (append-nil _)) sent

pub sent_entry : (now : ℕ) (e : LogMesh) (old : InstanceState) (test : Bool) (a b : Sent) → test ≡ changes entry_version now (entry_at old.log) e →
    Sends (deltas_to (peers_but old.config old.config.place) (only_if test (OfEntry e))) a b → Sends (deltas_here old now (OfEntry e ∷ [])) a b
sent_entry now e old test a b is sent =
    subst (λ xs. Sends (deltas_to (peers_but old.config old.config.place) xs) a b) (ap (λ (t : Bool). only_if t (OfEntry e)) is ∙ sym (append-nil _)) sent

-- one silence
pub put_one : (old new : InstanceState) (v : Mesh) (reply : Reply) (now : ℕ) (outcome : Outcome) (taken : Taken) (copies : List Mesh) → copies ≡ v ∷ [] →
    new.config ≡ old.config → new.last ≡ old.last → new.log ≡ old.log → IsTaking mesh_version (slice_cmp nat_cmp) now old.silences v new.silences taken →
    outcome.reply ≡ reply → AreSilencesMade outcome.made copies →
    Sends (deltas_to (peers_but old.config old.config.place) (only_if (is_changed taken) (OfSilence v))) nothing_sent (sent_by outcome) → IsPutHere old (v ∷ []) reply now outcome new
put_one old new v reply now outcome taken copies are config last log is answer made sent = record {
  answer = answer;
  made = subst (λ vs. AreSilencesMade outcome.made vs) are made;
  delivered = taken_silence now v old new taken config last log is;
  sent = sent_silence now v old (is_changed taken) nothing_sent (sent_by outcome) (silence_changed now old.silences v new.silences taken is) sent;
}

-- two silences, one after the other
pub put_pair : (old new : InstanceState) (v w : Mesh) (reply : Reply) (now : ℕ) (outcome : Outcome) (taken : Taken × Taken) (copies : List Mesh) (mid : Sent) → copies ≡ v ∷ w ∷ [] →
    new.config ≡ old.config → new.last ≡ old.last → new.log ≡ old.log → AreTakings mesh_version (slice_cmp nat_cmp) now old.silences v w new.silences taken →
    outcome.reply ≡ reply → AreSilencesMade outcome.made copies →
    Sends (deltas_to (peers_but old.config old.config.place) (only_if (is_changed taken.0) (OfSilence v))) nothing_sent mid →
    Sends (deltas_to (peers_but old.config old.config.place) (only_if (is_changed taken.1) (OfSilence w))) mid (sent_by outcome) → IsPutHere old (v ∷ w ∷ []) reply now outcome new
put_pair old new v w reply now outcome taken copies mid are config last log is answer made first second =
    let between : InstanceState = record { config = old.config; silences = is.between; log = old.log; last = old.last } in
    let one = taken_silence now v old between taken.0 refl refl refl is.before in
    record {
      answer = answer;
      made = subst (λ vs. AreSilencesMade outcome.made vs) are made;
      delivered = delivers_then now (OfSilence v ∷ []) (OfSilence w ∷ []) old between new one (taken_silence now w between new taken.1 config last log is.after);
      sent = sends_then (peers_but old.config old.config.place) now (OfSilence v ∷ []) (OfSilence w ∷ []) old between nothing_sent mid (sent_by outcome) one
          (sent_silence now v old (is_changed taken.0) nothing_sent mid (silence_changed now old.silences v is.between taken.0 is.before) first)
          (sent_silence now w between (is_changed taken.1) mid (sent_by outcome) (silence_changed now is.between w new.silences taken.1 is.after) second);
    }

-- an entry
pub put_entry : (old new : InstanceState) (e copy : LogMesh) (now : ℕ) (outcome : Outcome) (taken : Taken) (test : Bool) → copy ≡ e → test ≡ is_changed taken →
    new.config ≡ old.config → new.last ≡ old.last → new.silences ≡ old.silences → IsTaking entry_version key_cmp now old.log e new.log taken →
    outcome.reply ≡ replies.Logged test → outcome.made.silences.items ≡ [] → outcome.made.log ≡ Some copy →
    Sends (deltas_to (peers_but old.config old.config.place) (only_if (is_changed taken) (OfEntry copy))) nothing_sent (sent_by outcome) → IsLoggedHere old e now outcome new
put_entry old new e copy now outcome taken test same tested config last silences is reply none made sent =
    let changed = entry_changed now old.log e new.log taken is in
    record {
      answer = reply ∙ ap replies.Logged (tested ∙ changed);
      no_silences = none;
      made = made ∙ ap (λ (x : LogMesh). Some x) same;
      delivered = taken_entry now e old new taken config last silences is;
      sent = sent_entry now e old (is_changed taken) nothing_sent (sent_by outcome) changed
          (subst (λ x. Sends (deltas_to (peers_but old.config old.config.place) (only_if (is_changed taken) (OfEntry x))) nothing_sent (sent_by outcome)) same sent);
    }

-- the same of what is sent, where it was a copy that was sent
resent : (peers : List ℕ) (test : Bool) (v copy : Mesh) (a b c d : Sent) → copy ≡ v → a ≡ c → d ≡ b →
    Sends (deltas_to peers (only_if test (OfSilence copy))) a b → Sends (deltas_to peers (only_if test (OfSilence v))) c d
resent peers test v copy a b c d same start finish sent =
    subst (λ x. Sends (deltas_to peers (only_if test (OfSilence x))) c d) same
    (subst (λ x. Sends (deltas_to peers (only_if test (OfSilence copy))) x d) start
    (subst (λ x. Sends (deltas_to peers (only_if test (OfSilence copy))) a x) (sym finish) sent))

pub put_one_copy : (old new : InstanceState) (v : Mesh) (reply : Reply) (now : ℕ) (outcome : Outcome) (taken : Taken) (copies : List Mesh) (copy : Mesh) (a b : Sent) → copies ≡ v ∷ [] →
    copy ≡ get_or copies 0 copy → a ≡ nothing_sent → sent_by outcome ≡ b →
    new.config ≡ old.config → new.last ≡ old.last → new.log ≡ old.log → IsTaking mesh_version (slice_cmp nat_cmp) now old.silences v new.silences taken →
    outcome.reply ≡ reply → AreSilencesMade outcome.made copies →
    Sends (deltas_to (peers_but old.config old.config.place) (only_if (is_changed taken) (OfSilence copy))) a b → IsPutHere old (v ∷ []) reply now outcome new
put_one_copy old new v reply now outcome taken copies copy a b are at start finish config last log is answer made sent =
    put_one old new v reply now outcome taken copies are config last log is answer made
    (resent (peers_but old.config old.config.place) (is_changed taken) v copy a b nothing_sent (sent_by outcome) (at ∙ ap (λ xs. get_or xs 0 copy) are) start finish sent)

pub put_pair_copies : (old new : InstanceState) (v w : Mesh) (reply : Reply) (now : ℕ) (outcome : Outcome) (one other : Taken) (copies : List Mesh) (first second : Mesh) (a b c : Sent) → copies ≡ v ∷ w ∷ [] →
    first ≡ get_or copies 0 first → second ≡ get_or copies 1 second → a ≡ nothing_sent → sent_by outcome ≡ c →
    new.config ≡ old.config → new.last ≡ old.last → new.log ≡ old.log → AreTakings mesh_version (slice_cmp nat_cmp) now old.silences v w new.silences (one, other) →
    outcome.reply ≡ reply → AreSilencesMade outcome.made copies →
    Sends (deltas_to (peers_but old.config old.config.place) (only_if (is_changed one) (OfSilence first))) a b →
    Sends (deltas_to (peers_but old.config old.config.place) (only_if (is_changed other) (OfSilence second))) b c → IsPutHere old (v ∷ w ∷ []) reply now outcome new
put_pair_copies old new v w reply now outcome one other copies first second a b c are at here start finish config last log is answer made sent then_sent =
    put_pair old new v w reply now outcome (one, other) copies b are config last log is answer made
    (resent (peers_but old.config old.config.place) (is_changed one) v first a b nothing_sent b (at ∙ ap (λ xs. get_or xs 0 first) are) start refl sent)
    (resent (peers_but old.config old.config.place) (is_changed other) w second b c b (sent_by outcome) (here ∙ ap (λ xs. get_or xs 1 second) are) refl finish then_sent)
