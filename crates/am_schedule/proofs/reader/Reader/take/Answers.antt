use Rattle.std.proofs.Common.{◌≡◌, true, false, None, refl, sym, ◌∙◌}
use Rattle.std.proofs.lemmas.Bool.{false_from_ne_true}
use Rattle.std.proofs.lemmas.List.{append-nil}
use Rattle.std.proofs.lemmas.Str.{IsUtf8-from_is_utf8, is_utf8-from_IsUtf8}
use Rattle.am_schedule.specs.Words.{words_of}
use Rattle.am_schedule.specs.Schedules.{is_passed_over, words_in}
use Rattle.am_schedule.proofs.Taking.{no_text, passed_meaning, passed_stands, kept_words, all_taken, all_faults, all_formed}
use Rattle.am_schedule.proofs.reader.Reader.take.Goals as goal

pub returns-in_default-clause-fault : goal.returns-in_default-clause-fault
returns-in_default-clause-fault c = λ before stands other.
    no_text before c.args.line.now (false_from_ne_true _ (λ is. c.in_default.ensures.cases.0 (IsUtf8-from_is_utf8 c.args.line.now is)))

pub returns-then-is_passed_over-clause-taken : goal.returns-then-is_passed_over-clause-taken
returns-then-is_passed_over-clause-taken c = λ before stands.
    let passed : is_passed_over c.args.line.now ≡ true = rw (← c.in-Ok.ensures.cases.0) (sym c.is_passed_over.ensures ∙ c.if-is_passed_over.true) in
    (None, passed_meaning before c.args.line.now (is_utf8-from_IsUtf8 _ c.in-Ok.ensures.cases.1) passed, passed_stands before c.args.line.now _ passed stands, sym (append-nil _))

pub returns-clause-taken : goal.returns-clause-taken
returns-clause-taken c =
    let kept : is_passed_over c.args.line.now ≡ false = rw (← c.in-Ok.ensures.cases.0) (sym c.is_passed_over.ensures ∙ c.if-is_passed_over.false) in
    let words : words_in c.args.line.now ≡ words_of c.in-Ok.line.now = kept_words c.args.line.now kept ∙ rw (← c.in-Ok.ensures.cases.0) refl in
    let utf8 = is_utf8-from_IsUtf8 _ c.in-Ok.ensures.cases.1 in
    all_taken c.args.line.now c.args.number _ _ _ _ utf8 kept words c.take_words.ensures.taken

pub returns-clause-fault : goal.returns-clause-fault
returns-clause-fault c =
    let kept : is_passed_over c.args.line.now ≡ false = rw (← c.in-Ok.ensures.cases.0) (sym c.is_passed_over.ensures ∙ c.if-is_passed_over.false) in
    let words : words_in c.args.line.now ≡ words_of c.in-Ok.line.now = kept_words c.args.line.now kept ∙ rw (← c.in-Ok.ensures.cases.0) refl in
    let utf8 = is_utf8-from_IsUtf8 _ c.in-Ok.ensures.cases.1 in
    all_faults c.args.line.now _ _ _ utf8 kept words c.take_words.ensures.fault

pub returns-clause-formed : goal.returns-clause-formed
returns-clause-formed c =
    let kept : is_passed_over c.args.line.now ≡ false = rw (← c.in-Ok.ensures.cases.0) (sym c.is_passed_over.ensures ∙ c.if-is_passed_over.false) in
    let words : words_in c.args.line.now ≡ words_of c.in-Ok.line.now = kept_words c.args.line.now kept ∙ rw (← c.in-Ok.ensures.cases.0) refl in
    let utf8 = is_utf8-from_IsUtf8 _ c.in-Ok.ensures.cases.1 in
    all_formed c.args.line.now _ _ _ utf8 words c.take_words.ensures.formed
