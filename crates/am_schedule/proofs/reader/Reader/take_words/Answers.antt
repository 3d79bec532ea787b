use Rattle.std.proofs.Common.{◌≡◌, Some, refl, sym, ap, ◌∙◌}
use Rattle.am_schedule.specs.declared.form.Form.TheVariants.{Version, Other}
use Rattle.am_schedule.specs.Words.{words_of}
use Rattle.am_schedule.specs.Forms.{form_in}
use Rattle.am_schedule.proofs.Taking.{cluster_took, version_took, other_took, read_formed, other_formed, whatever_is_told}
use Rattle.am_schedule.proofs.reader.Reader.take_words.Goals as goal

pub returns-in_default-clause-taken : goal.returns-in_default-clause-taken
returns-in_default-clause-taken c = cluster_took _ _ _ _ c.in_default.is c.in_ok-cluster_line.ensures.value

pub returns-in_ok-set_value-in-Some-Version-clause-taken : goal.returns-in_ok-set_value-in-Some-Version-clause-taken
returns-in_ok-set_value-in-Some-Version-clause-taken c =
    let form : form_in (words_of c.args.text.now) ≡ Some (Version c.in-Some-Version.form) = sym c.form_of.ensures ∙ c.in-Some-Version.is ∙ ap Some c.in-Some-Version.field-0-is in
    version_took _ _ _ _ _ _ _ c.in-Some.is form c.in_ok-version-in-Some-Version.ensures refl (λ label. rw c.word_of.ensures at (c.in_ok-set_value-in-Some-Version.ensures label)) refl

pub returns-in_ok-push-in-Some-Other-clause-taken : goal.returns-in_ok-push-in-Some-Other-clause-taken
returns-in_ok-push-in-Some-Other-clause-taken c =
    let form : form_in (words_of c.args.text.now) ≡ Some (Other c.in-Some-Other.form) = sym c.form_of.ensures ∙ c.in-Some-Other.is ∙ ap Some c.in-Some-Other.field-0-is in
    other_took _ _ _ _ _ _ _ c.in-Some.is form (rw c.as_slice.ensures at c.in_ok-line-in-Some-Other.ensures.value) refl refl c.in_ok-push-in-Some-Other.ensures.items

pub returns-in_err-push-in-Some-Other-clause-formed : goal.returns-in_err-push-in-Some-Other-clause-formed
returns-in_err-push-in-Some-Other-clause-formed c =
    let form : form_in (words_of c.args.text.now) ≡ Some (Other c.in-Some-Other.form) = sym c.form_of.ensures ∙ c.in-Some-Other.is ∙ ap Some c.in-Some-Other.field-0-is in
    whatever_is_told _ _ (other_formed _ _ _ _ c.in-Some.is form (read_formed _ _ _ _ _ c.in_ok-line-in-Some-Other.ensures.value))
