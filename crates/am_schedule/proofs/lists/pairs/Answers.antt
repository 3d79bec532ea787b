use Rattle.std.proofs.Common.{◌≡◌, get_or, Some, false, ◌∙◌}
use Rattle.std.specs.List.{list_any}
use Rattle.std.specs.Str.{bytes_eq}
use Rattle.am_schedule.specs.declared.step.Pair.{Pair}
use Rattle.am_schedule.specs.Lists.{pair_in, names_of}
use Rattle.am_schedule.proofs.Pairs.{named_newly, name_known, pair_read, not_found}
use Rattle.am_schedule.proofs.Values.{value_here}
use Rattle.am_schedule.proofs.lists.pairs.Goals as goal

pub loop-word-preserved : goal.loop-word-preserved
loop-word-preserved c =
    let pair : Pair = record { name = c.in_ok-name-2.name; value = c.in_ok-value.value } in
    let name : pair.name ≡ c.in_ok-name.name.now = c.in_ok-name-2.ensures in
    let is : pair_in (get_or c.args.words.now c.loop-word.word-index _).now ≡ Some pair = pair_read _ c.in_ok-name.name c.in_ok-name.value _ pair.name pair.value c.pair.ensures.parts c.in_ok-name.ensures.ok_part name c.in_ok-value.ensures in
    let new : list_any (λ t. bytes_eq t pair.name) (names_of c.loop-word.pairs.items) ≡ false = rw name (not_found _ _ _ _ c.is_some.ensures c.if-is_some.false c.look_up.ensures (c.loop-word.invariant.names c.in_ok-name.name.now)) in
    rw (c.in_ok-push.ensures.items) record {
      read = named_newly _ pair _ new ∙ rw (value_here pair_in _ _ _ pair c.loop-word-test.true is) at c.loop-word.invariant.read;
      names = λ text. name_known c.loop-word.pairs.items pair text _ _ (rw name (c.in_ok-set_value.ensures text)) (c.loop-word.invariant.names text);
    }
