use Rattle.std.proofs.Common.{◌≡◌, ℕ, List, [], Option, Some, None, Bor, get_or, slice_get, option_map, eqb, lit<, refl, sym, ap, ◌∙◌}
use Rattle.std.specs.Option.{unwrap_or}
use Rattle.std.specs.List.{slice_split}
use Rattle.std.proofs.lemmas.Option.{get_or_from_slice_get, unwrap_or-slice_get}
use Rattle.std.proofs.lemmas.Iterator.Consumers.{nth_from_yields_List}
use Rattle.std.proofs.lemmas.Iterator.Splits.{YieldsList-from_str_split}
use Rattle.am_schedule.specs.Words.{words_of, word_at}
use Rattle.am_schedule.proofs.word.word_of.Goals as goal

-- the item that was read, or else the empty text
read_from : (texts : List (List ℕ)) (place : ℕ) (read : Option (Bor (List ℕ))) (none : Bor (List ℕ)) → none.now ≡ []
    → option_map (λ text. text.now) read ≡ slice_get texts place → (unwrap_or read none).now ≡ get_or texts place []
read_from texts place (Some text) none empty is = sym (get_or_from_slice_get texts place text.now [] (sym is))
read_from texts place None none empty is = empty ∙ (ap (λ text. unwrap_or text []) is ∙ unwrap_or-slice_get texts place [])

pub returns : goal.returns
unfolding words_of word_at
returns c =
    ap (λ text. text.now) c.unwrap_or.ensures
    ∙ read_from (slice_split (λ b. eqb b 32) c.args.line.now) c.args.place c.nth.result _ refl
    (nth_from_yields_List _ _ c.args.place c.nth.ensures.ran (YieldsList-from_str_split 32 c.args.line.now (lit< tt) c.split.ensures.text c.split.ensures.has_more c.split.ensures.pattern))
