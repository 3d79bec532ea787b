use Rattle.am_wire.specs.declared.unknown.Unknown.TheVariants.{Drop}
use Rattle.std.proofs.Common.{◌≡◌, [], true}
use Rattle.std.specs.Prelude.{All}
use Rattle.am_instance.specs.Replies.{IsNothing}
use Rattle.am_instance.specs.Steps.{collects}
use Rattle.am_cluster.specs.BothStates.{log_state, silence_state}
use Rattle.am_cluster.specs.Recorded.{AreValues}
use Rattle.am_cluster.specs.declared.recording.Kind.TheVariants as kinds
use Rattle.am_cluster.specs.Recording.{brings_or_makes}
use Rattle.am_cluster.specs.Ties.{CanFly}
use Rattle.am_cluster.proofs.Acted.{all_fly_from, all_sound, brings_nothing, can_be_next, on_ok, on_ok_and, told_frames, values_known}
use Rattle.am_cluster.proofs.events.step_and_record.Goals as goal

pub write_answer-requires : goal.write_answer-requires
write_answer-requires c =
    let values = values_known c.args.event c.step_of-answer.new.instance c.step_of-answer.result
    (λ made silences log. c.values_are_delivered.ensures Drop c.args.event made c.requires.values silences log) c.step_of-answer.ensures.silences c.step_of-answer.ensures.log
    c.step_of-answer.ensures.held_silences c.step_of-answer.ensures.held_log c.step_of-answer.ensures.maps in (
      c.requires.room,
      c.args.event,
      c.requires.coming,
      record {
        room_for_it = c.requires.enough;
        silences =
            can_be_next silence_state c.steps_are_possible.ensures.silences c.args.journal.now.members c.args.journal.now.silences c.args.entry.now c.args.event c.args.instance.now c.step_of-answer.new.instance c.step_of-answer.result
            c.requires.ready.silences c.requires.ready.unknown c.requires.ready.whole c.step_of-answer.ensures.step values;
        log =
            can_be_next log_state c.steps_are_possible.ensures.log c.args.journal.now.members c.args.journal.now.log c.args.entry.now c.args.event c.args.instance.now c.step_of-answer.new.instance c.step_of-answer.result
            c.requires.ready.log c.requires.ready.unknown c.requires.ready.whole c.step_of-answer.ensures.step values;
        not_refused = c.step_of-answer.ensures.not_refused;
        idle = on_ok (λ o. collects c.args.event ≡ true → (o.frames.items ≡ []) × (o.unsent.memory ≡ 0)) c.args.instance.now c.step_of-answer.new.instance c.args.event c.args.entry.now.moment c.step_of-answer.result
            (λ o step collecting. (c.collecting_leaves_nothing_out.ensures.frames c.args.instance.now c.step_of-answer.new.instance c.args.event c.args.entry.now.moment o collecting step, c.collecting_leaves_nothing_out.ensures.memory c.args.instance.now c.step_of-answer.new.instance c.args.event c.args.entry.now.moment o collecting step)) c.step_of-answer.ensures.step;
        brings = on_ok (λ o. brings_or_makes c.args.event ≡ kinds.Brings → IsNothing o.made) c.args.instance.now c.step_of-answer.new.instance c.args.event c.args.entry.now.moment c.step_of-answer.result
            (λ o step brings. brings_nothing c.args.instance.now c.step_of-answer.new.instance c.args.event c.args.entry.now.moment o (λ sender frame arrived. c.few_are_made.ensures.arrivals c.args.instance.now c.step_of-answer.new.instance sender frame c.args.entry.now.moment o arrived) step brings)
            c.step_of-answer.ensures.step;
      },
    )

pub returns : goal.returns
returns c =
    let values = values_known c.args.event c.step_of-answer.new.instance c.step_of-answer.result
    (λ made silences log. c.values_are_delivered.ensures Drop c.args.event made c.requires.values silences log) c.step_of-answer.ensures.silences c.step_of-answer.ensures.log
    c.step_of-answer.ensures.held_silences c.step_of-answer.ensures.held_log c.step_of-answer.ensures.maps in
    let recorded = c.write_answer.ensures c.args.event c.requires.coming (record {
      room_for_it = c.requires.enough;
      silences =
          can_be_next silence_state c.steps_are_possible.ensures.silences c.args.journal.now.members c.args.journal.now.silences c.args.entry.now c.args.event c.args.instance.now c.step_of-answer.new.instance c.step_of-answer.result
          c.requires.ready.silences c.requires.ready.unknown c.requires.ready.whole c.step_of-answer.ensures.step values;
      log =
          can_be_next log_state c.steps_are_possible.ensures.log c.args.journal.now.members c.args.journal.now.log c.args.entry.now c.args.event c.args.instance.now c.step_of-answer.new.instance c.step_of-answer.result
          c.requires.ready.log c.requires.ready.unknown c.requires.ready.whole c.step_of-answer.ensures.step values;
      not_refused = c.step_of-answer.ensures.not_refused;
      idle = on_ok (λ o. collects c.args.event ≡ true → (o.frames.items ≡ []) × (o.unsent.memory ≡ 0)) c.args.instance.now c.step_of-answer.new.instance c.args.event c.args.entry.now.moment c.step_of-answer.result
          (λ o step collecting. (c.collecting_leaves_nothing_out.ensures.frames c.args.instance.now c.step_of-answer.new.instance c.args.event c.args.entry.now.moment o collecting step, c.collecting_leaves_nothing_out.ensures.memory c.args.instance.now c.step_of-answer.new.instance c.args.event c.args.entry.now.moment o collecting step)) c.step_of-answer.ensures.step;
      brings = on_ok (λ o. brings_or_makes c.args.event ≡ kinds.Brings → IsNothing o.made) c.args.instance.now c.step_of-answer.new.instance c.args.event c.args.entry.now.moment c.step_of-answer.result
          (λ o step brings. brings_nothing c.args.instance.now c.step_of-answer.new.instance c.args.event c.args.entry.now.moment o (λ sender frame arrived. c.few_are_made.ensures.arrivals c.args.instance.now c.step_of-answer.new.instance sender frame c.args.entry.now.moment o arrived) step brings)
          c.step_of-answer.ensures.step;
    }) in record {
      answer = c.step_of-answer.result;
      step = c.step_of-answer.ensures.step;
      recorded = recorded;
      can_fly = told_frames c.args.entry.now.source (CanFly c.args.journal.now.members c.args.entry.now.place) c.step_of-answer.result recorded.frames c.write_answer.result
          (on_ok_and (λ o. AreValues Drop c.args.event o c.step_of-answer.new.instance) (λ o. All (CanFly c.args.journal.now.members c.args.entry.now.place) o.frames.items) c.args.instance.now c.step_of-answer.new.instance c.args.event c.args.entry.now.moment c.step_of-answer.result
          (λ o known step. all_fly_from c.args.instance.now.config c.args.journal.now.members c.args.entry.now.place o.frames.items c.requires.ready.own_place c.requires.ready.all_members
          (all_sound c.args.instance.now c.step_of-answer.new.instance c.args.event o c.requires.ready.unknown
          (λ are. c.sent_frames_are_sound.ensures.sound c.args.instance.now c.step_of-answer.new.instance c.args.event c.args.entry.now.moment o step are c.requires.ready.whole) known) (c.sent_frames_are_sound.ensures.addressed c.args.instance.now c.step_of-answer.new.instance c.args.event c.args.entry.now.moment o step))
          values c.step_of-answer.ensures.step) recorded.told;
    }
