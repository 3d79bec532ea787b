-- An answer as it is posted back.
use Rattle.std.proofs.Common.{◌≡◌, ℕ, ◌<◌, ◌*◌, ◌^◌, List, [], ◌∷◌, map, None, Some, Ok, refl, ap, ◌∙◌}
use Rattle.std.specs.Prelude.{All, codes, option_map, option_and_then}
use Rattle.std.proofs.lemmas.Bool.{lt-ltb}
use Rattle.std.proofs.lemmas.List.Elements.{All-head, All-tail}
use Rattle.serde_json.specs.Data.{Data}
use Rattle.serde_json.specs.View.{items_of}
use Rattle.serde_json.specs.Written.{compact_text}
use Rattle.am_silence_json.specs.Moments.{ReadsMoment}
use Rattle.am_silence_json.specs.Posts.{HasMoment, IsObjectText}
use Rattle.am_api_decisions.specs.declared.answer.DecisionReply.{DecisionReply}
use Rattle.am_api_decisions.specs.Hashes.{hashes_of, hash_data}
use Rattle.am_api_decisions.specs.Answers.{answer_data}
use Rattle.am_api_decisions.specs.Notices.{undated_in, IsNotice}
use Rattle.am_api_decisions.specs.Sound.{IsAnswer, IsToNotify, notice_from}
use Rattle.am_api_decisions.proofs.Digits.{hash_again}
use Rattle.am_api_decisions.proofs.Again.{answer_is_read}
use Rattle.am_api_decisions.proofs.Bytes.{answer_utf8}

abbrev IsHash : ℕ → Type 0
IsHash hash = hash < 2 ^ 64

hashes_again : (hashes : List ℕ) → All IsHash hashes → hashes_of (items_of (map hash_data hashes)) ≡ Some hashes
hashes_again [] h = refl
hashes_again (hash ∷ hashes) h =
    let others = hashes_of (items_of (map hash_data hashes)) in
    ap (option_and_then (λ (x : ℕ). option_map (λ (xs : List ℕ). x ∷ xs) others)) (hash_again hash (All-head IsHash hash hashes h))
    ∙ ap (option_map (λ (xs : List ℕ). hash ∷ xs)) (hashes_again hashes (All-tail IsHash hash hashes h))

undated : (a : DecisionReply) (m : ℕ) → IsAnswer a → IsToNotify a → undated_in (answer_data a) ≡ Ok (record (notice_from a m) { decided_at = None })
unfolding undated_in answer_data
undated a m h told =
    rw (
      lt-ltb a.index (2 ^ 32) h.index,
      lt-ltb 0 a.repeat told.some,
      lt-ltb (a.repeat * 1_000_000_000) (2 ^ 63) told.few,
      told.notify,
      hashes_again a.firing h.firing,
      hashes_again a.resolved h.resolved,
    ) refl

decided : (a : DecisionReply) (m : ℕ) → ReadsMoment a.decided_at m → HasMoment (codes "decidedAt") (answer_data a) m
unfolding answer_data
decided a m spelled = record { text = a.decided_at; here = refl; spelled = spelled }

pub answer_text : (a : DecisionReply) → IsAnswer a → IsObjectText (compact_text (answer_data a)) (answer_data a)
unfolding answer_data
answer_text a h = record { utf8 = answer_utf8 a h; text = answer_is_read a h; is_object = refl }

pub answer_notice : (a : DecisionReply) (d : Data) (m : ℕ) → IsAnswer a → IsToNotify a → ReadsMoment a.decided_at m
    → IsObjectText (compact_text (answer_data a)) d → IsNotice d (notice_from a m)
answer_notice a d m h told spelled text =
    let same : answer_data a ≡ d = cc (answer_is_read a h, text.text) in
    rw (← same) (record { notified = undated a m h told; decided_at = decided a m spelled })
