-- The text of an answer is UTF-8.
use Rattle.std.proofs.Common.{ℕ, ◌<◌, ◌^◌, List, [], ◌∷◌, map, Bool, true, false, refl, arith}
use Rattle.std.specs.Prelude.{All, ⊤, decimal}
use Rattle.std.specs.Str.{IsUtf8}
use Rattle.std.proofs.lemmas.List.Elements.{All-head, All-tail}
use Rattle.std.proofs.lemmas.Str.{IsUtf8-append, IsUtf8-from_ascii}
use Rattle.std.proofs.lemmas.Fmt.{IsAscii-decimal}
use Rattle.json.proofs.Printed.Utf8.{IsUtf8-are_ascii, IsUtf8-quoted, IsUtf8-boolean}
use Rattle.serde_json.specs.Data.{Data, null, boolean, number, string, array, object, Items, no_items, item, Members, no_members, member}
use Rattle.serde_json.specs.View.{items_of}
use Rattle.serde_json.specs.Written.{number_text, compact_text, items_text, members_text, comma_if}
use Rattle.am_dedup.specs.declared.decision.Reason.{Reason}
use Rattle.am_dedup.specs.declared.decision.Reason.TheVariants as reasons
use Rattle.am_matcher.specs.declared.labels.Label.{Label}
use Rattle.am_api_decisions.specs.declared.answer.Why.{Why}
use Rattle.am_api_decisions.specs.declared.answer.Why.TheVariants as whys
use Rattle.am_api_decisions.specs.declared.answer.Muted.{Muted}
use Rattle.am_api_decisions.specs.declared.answer.DecisionReply.{DecisionReply}
use Rattle.am_api_decisions.specs.Hashes.{hash_data}
use Rattle.am_api_decisions.specs.Answers.{reason_text, why_text, label_members, muted_data, answer_data}
use Rattle.am_api_decisions.specs.Sound.{IsLabel, IsMuted, IsAnswer}
use Rattle.am_api_decisions.proofs.Digits.{hash_utf8}

-- its texts are UTF-8
abbrev mutual
  HasTexts : Data → Type 0
  HasTexts null = ⊤
  HasTexts (boolean b) = ⊤
  HasTexts (number n) = IsUtf8 (number_text n)
  HasTexts (string s) = IsUtf8 s
  HasTexts (array ds) = ItemsHaveTexts ds
  HasTexts (object ms) = MembersHaveTexts ms

  ItemsHaveTexts : Items → Type 0
  ItemsHaveTexts no_items = ⊤
  ItemsHaveTexts (item d ds) = HasTexts d × ItemsHaveTexts ds

  MembersHaveTexts : Members → Type 0
  MembersHaveTexts no_members = ⊤
  MembersHaveTexts (member k d ms) = IsUtf8 k × HasTexts d × MembersHaveTexts ms

comma_utf8 : (later : Bool) → IsUtf8 (comma_if later)
comma_utf8 true = IsUtf8-are_ascii _ refl
comma_utf8 false = IsUtf8-are_ascii _ refl

mark_utf8 : (x : ℕ) (rest : List ℕ) → IsUtf8 (x ∷ []) → IsUtf8 rest → IsUtf8 (x ∷ rest)
mark_utf8 x rest h k = IsUtf8-append (x ∷ []) rest h k

mutual
  text_utf8 : (d : Data) → HasTexts d → IsUtf8 (compact_text d)
  text_utf8 null h = IsUtf8-are_ascii _ refl
  text_utf8 (boolean b) h = IsUtf8-boolean b
  text_utf8 (number n) h = h
  text_utf8 (string s) h = IsUtf8-quoted s h
  text_utf8 (array ds) h = mark_utf8 91 _ (IsUtf8-are_ascii _ refl) (items_utf8 false ds h)
  text_utf8 (object ms) h = mark_utf8 123 _ (IsUtf8-are_ascii _ refl) (members_utf8 false ms h)

  items_utf8 : (later : Bool) (ds : Items) → ItemsHaveTexts ds → IsUtf8 (items_text later ds)
  items_utf8 later no_items h = IsUtf8-are_ascii _ refl
  items_utf8 later (item d ds) h = IsUtf8-append _ _ (comma_utf8 later) (IsUtf8-append _ _ (text_utf8 d h.0) (items_utf8 true ds h.1))

  members_utf8 : (later : Bool) (ms : Members) → MembersHaveTexts ms → IsUtf8 (members_text later ms)
  members_utf8 later no_members h = IsUtf8-are_ascii _ refl
  members_utf8 later (member k d ms) h =
      IsUtf8-append _ _ (comma_utf8 later) (IsUtf8-append _ _ (IsUtf8-quoted k h.0)
      (mark_utf8 58 _ (IsUtf8-are_ascii _ refl) (IsUtf8-append _ _ (text_utf8 d h.1) (members_utf8 true ms h.2))))

hashes_utf8 : (hashes : List ℕ) → ItemsHaveTexts (items_of (map hash_data hashes))
hashes_utf8 [] = tt
hashes_utf8 (hash ∷ hashes) = (hash_utf8 hash, hashes_utf8 hashes)

strings_utf8 : (texts : List (List ℕ)) → All IsUtf8 texts → ItemsHaveTexts (items_of (map string texts))
strings_utf8 [] h = tt
strings_utf8 (text ∷ texts) h = (All-head IsUtf8 text texts h, strings_utf8 texts (All-tail IsUtf8 text texts h))

labels_utf8 : (labels : List Label) → All IsLabel labels → MembersHaveTexts (label_members labels)
labels_utf8 [] h = tt
labels_utf8 (label ∷ labels) h =
    let first = All-head IsLabel label labels h in
    (first.name, first.value, labels_utf8 labels (All-tail IsLabel label labels h))

number_utf8 : (n : ℕ) → n < 2 ^ 64 → IsUtf8 (decimal n)
number_utf8 n h = IsUtf8-from_ascii (decimal n) (IsAscii-decimal n h)

muted_utf8 : (m : Muted) → IsMuted m → HasTexts (muted_data m)
muted_utf8 m h =
    (IsUtf8-are_ascii _ refl, labels_utf8 m.labels h.labels, (IsUtf8-are_ascii _ refl, strings_utf8 m.silenced_by.items h.silenced_by, (IsUtf8-are_ascii _ refl, number_utf8 m.more h.more, tt)))

all_muted_utf8 : (ms : List Muted) → All IsMuted ms → ItemsHaveTexts (items_of (map muted_data ms))
all_muted_utf8 [] h = tt
all_muted_utf8 (m ∷ ms) h = (muted_utf8 m (All-head IsMuted m ms h), all_muted_utf8 ms (All-tail IsMuted m ms h))

reason_utf8 : (reason : Reason) → IsUtf8 (reason_text reason)
reason_utf8 reasons.First = IsUtf8-are_ascii _ refl
reason_utf8 reasons.NewFiring = IsUtf8-are_ascii _ refl
reason_utf8 reasons.AllResolved = IsUtf8-are_ascii _ refl
reason_utf8 reasons.NewResolved = IsUtf8-are_ascii _ refl
reason_utf8 reasons.Repeat = IsUtf8-are_ascii _ refl

why_utf8 : (why : Why) → IsUtf8 (why_text why)
why_utf8 (whys.Notify reason) = reason_utf8 reason
why_utf8 whys.Unjudged = IsUtf8-are_ascii _ refl
why_utf8 whys.Skip = IsUtf8-are_ascii _ refl
why_utf8 whys.Muted = IsUtf8-are_ascii _ refl

answer_texts : (a : DecisionReply) → IsAnswer a → HasTexts (answer_data a)
unfolding answer_data
answer_texts a h = (
  IsUtf8-are_ascii _ refl,
  h.decided_at,
  (
    IsUtf8-are_ascii _ refl,
    hashes_utf8 a.firing,
    (
      IsUtf8-are_ascii _ refl,
      h.group_key,
      (
        IsUtf8-are_ascii _ refl,
        number_utf8 a.index (omega (arith, h.index)),
        (
          IsUtf8-are_ascii _ refl,
          h.integration,
          (
            IsUtf8-are_ascii _ refl,
            all_muted_utf8 a.muted.items h.muted,
            (
              IsUtf8-are_ascii _ refl,
              tt,
              (
                IsUtf8-are_ascii _ refl,
                why_utf8 a.reason,
                (
                  IsUtf8-are_ascii _ refl,
                  h.receiver,
                  (
                    IsUtf8-are_ascii _ refl,
                    number_utf8 a.repeat h.repeat,
                    (IsUtf8-are_ascii _ refl, hashes_utf8 a.resolved, (IsUtf8-are_ascii _ refl, number_utf8 a.turn_seconds h.turn_seconds, tt)),
                  ),
                ),
              ),
            ),
          ),
        ),
      ),
    ),
  ),
)

pub answer_utf8 : (a : DecisionReply) → IsAnswer a → IsUtf8 (compact_text (answer_data a))
answer_utf8 a h = text_utf8 (answer_data a) (answer_texts a h)
