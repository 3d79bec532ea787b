use Rattle.am_http.specs.declared.request.Read.TheVariants.{Whole}
use Rattle.am_instance.specs.Laws.{all_entries, all_silences}
use Rattle.am_member.proofs.Replied.{answer_bare}
use Rattle.am_member.proofs.laws.lives_reply_as_the_bare_sets.Goals as goal

pub returns : goal.returns
returns c = λ session_phases start stand deeds turn request maps held life done is.
    let steps = c.lives_are_steps.ensures session_phases start stand deeds life in (
      steps.0,
      steps.1,
      λ calm. answer_bare (all_silences start steps.0) (all_entries start steps.0) stand turn.left request turn.bits turn.now turn.answer
          (λ event now reply made later asks replied. c.calm_steps_reply_as_the_bare_sets.ensures start stand steps.0 event now reply made
          (record { maps = maps; made = steps.2; silences = calm.silences; log = calm.log }) held later asks replied)
          (done.answered.asked (Whole request) is),
    )
