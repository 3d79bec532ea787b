use Rattle.am_member.proofs.laws.lives_show_the_bare_sets.Goals as goal

pub returns : goal.returns
returns c = λ session_phases start new deeds maps life.
    let steps = c.lives_are_steps.ensures session_phases start new deeds life in (
      steps.0,
      steps.1,
      record {
        silences = λ calm now id later. c.steps_show_the_bare_sets.ensures.silences start new steps.0 now id maps.silences steps.2 calm later;
        log = λ calm now key later. c.steps_show_the_bare_sets.ensures.log start new steps.0 now key maps.log steps.2 calm later;
      },
    )
