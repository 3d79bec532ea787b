-- The step of an event from that of the event without its filters.
use Rattle.std.proofs.Common.{◌≡◌, inl, inr, ℕ, List, [], refl, sym, ap, subst, ◌∙◌, Ok}
use Rattle.std.specs.Global.{Vec}
use Rattle.am_silence.specs.Mesh.{Mesh}
use Rattle.am_silence.specs.declared.matcher.Matcher.{Matcher}
use Rattle.am_silence.specs.declared.state.State.{State}
use Rattle.am_instance.specs.declared.event.Event.{Event}
use Rattle.am_instance.specs.declared.event.Event.TheVariants as events
use Rattle.am_instance.specs.declared.event.Request.TheVariants as requests
use Rattle.am_instance.specs.declared.reply.Outcome.{Outcome}
use Rattle.am_instance.specs.declared.reply.Reply.{Reply}
use Rattle.am_instance.specs.declared.reply.Reply.TheVariants as replies
use Rattle.am_instance.specs.InstanceStates.{InstanceState}
use Rattle.am_instance.specs.OneStep.{IsStep}
use Rattle.am_instance.specs.Replies.{HoldsSilences, silences_shown}
use Rattle.am_instance.specs.Sendings.{Sent, sent_by}
use Rattle.am_api_silences.specs.Answers.{IsStepAnswer}
use Rattle.am_api_silences.specs.Replies.{IsReplyBytes, IsSiftedBytes, Says}
use Rattle.am_api_silences.specs.ListFilters.{IsParted, passing}
use Rattle.am_api_silences.specs.declared.replies.ResponseBytes.{ResponseBytes}
use Rattle.am_api_silences.proofs.Passing.{kept, none_sifted, shown_passing}
use Rattle.am_api_silences.proofs.Telling.{says_weaker}

-- a reply that is this list
record HoldsRows (shown : List (Mesh × State)) (reply : Reply) : Type 0 where
  rows : Vec (Mesh × State)
  is : reply ≡ replies.Silences rows
  items : rows.items ≡ shown

holds_rows : (shown : List (Mesh × State)) (reply : Reply) → HoldsSilences shown reply → HoldsRows shown reply
holds_rows shown (replies.Silences rows) holds = record { rows = rows; is = refl; items = holds }
holds_rows shown _ holds = absurd holds

module _ (old new : InstanceState) (now : ℕ) (given none : Vec Matcher) (empty : none.items ≡ []) where
  -- the silences of the one that pass are those of the other
  rows_shown : (rows : Vec (Mesh × State)) → rows.items ≡ silences_shown now none.items old.silences → (kept given.items rows).items ≡ silences_shown now given.items old.silences
  rows_shown rows items =
      ap (λ (shown : List (Mesh × State)). passing given.items shown) (items ∙ ap (λ (filters : List Matcher). silences_shown now filters old.silences) empty)
      ∙ shown_passing now given.items old.silences

  -- the outcome of the one with the silences that pass is the outcome of the other
  made_step : (outcome : Outcome) (rows : Vec (Mesh × State)) → rows.items ≡ silences_shown now none.items old.silences
      → IsStep old (events.Request (requests.List none)) now (Ok outcome) new
      → IsStep old (events.Request (requests.List given)) now (Ok (record outcome { reply = replies.Silences (kept given.items rows) })) new
  made_step outcome rows items s = record {
    accepted = record { forward = s.accepted.forward; known = s.accepted.known; sound = s.accepted.sound };
    refused = s.refused;
    unchanged = s.unchanged;
    config = s.config;
    silences = s.silences;
    log = s.log;
    kept = s.kept;
    swept = s.swept;
    sent = s.sent;
    reply = (rows_shown rows items, s.reply.1);
  }

  list_made : (outcome : Outcome) (reply : ResponseBytes) (sent : Sent) → IsStep old (events.Request (requests.List none)) now (Ok outcome) new
      → Says (IsSiftedBytes given.items outcome.reply) reply → sent ≡ sent_by outcome
      → IsStepAnswer (events.Request (requests.List given)) old now (record { reply = reply; sent = sent }) new
  list_made outcome reply sent s says is =
      let holds = holds_rows (silences_shown now none.items old.silences) outcome.reply s.reply.0 in record {
        step = Ok (record outcome { reply = replies.Silences (kept given.items holds.rows) });
        made = made_step outcome holds.rows holds.items s;
        replied = subst (λ (r : Reply). Says (IsSiftedBytes given.items r) reply) holds.is says;
        sent = is;
        refused = tt;
        unsent = tt;
      }

module _ (event bare : Event) (filters : List Matcher) (old new : InstanceState) (now : ℕ) where
  -- the answer by a step that was made
  pub parted_made : IsParted event bare filters → (outcome : Outcome) (reply : ResponseBytes) (sent : Sent) → IsStep old bare now (Ok outcome) new
      → Says (IsSiftedBytes filters outcome.reply) reply → sent ≡ sent_by outcome → IsStepAnswer event old now (record { reply = reply; sent = sent }) new
  parted_made (inl same) outcome reply sent s says is =
      record {
        step = Ok outcome;
        made = subst (λ (e : Event). IsStep old e now (Ok outcome) new) same.0 s;
        replied = says_weaker (IsSiftedBytes [] outcome.reply) (IsReplyBytes outcome.reply) (none_sifted outcome.reply) reply
            (subst (λ (fs : List Matcher). Says (IsSiftedBytes fs outcome.reply) reply) same.1 says);
        sent = is;
        refused = tt;
        unsent = tt;
      }
  parted_made (inr (given, none, asks, all, empty, own)) outcome reply sent s says is =
      subst (λ (e : Event). IsStepAnswer e old now (record { reply = reply; sent = sent }) new) (sym asks) (
      list_made old new now given none empty outcome reply sent
      (subst (λ (e : Event). IsStep old e now (Ok outcome) new) all s)
      (subst (λ (fs : List Matcher). Says (IsSiftedBytes fs outcome.reply) reply) own says) is)
