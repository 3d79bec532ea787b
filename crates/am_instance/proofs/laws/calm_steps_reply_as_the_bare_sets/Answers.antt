use Rattle.am_instance.specs.Laws.{all_entries, all_silences}
use Rattle.am_instance.proofs.laws.calm_steps_reply_as_the_bare_sets.Goals as goal

pub returns : goal.returns
returns c = λ start new steps event now reply made calm maps later asks replied.
    c.what_is_shown_replies.ensures new (all_silences start steps) (all_entries start steps) event now reply made maps
    (λ id. c.steps_show_the_bare_sets.ensures.silences start new steps now id calm.maps.silences calm.made calm.silences later)
    (λ key. c.steps_show_the_bare_sets.ensures.log start new steps now key calm.maps.log calm.made calm.log later)
    asks replied
