use Rattle.std.proofs.Common.{◌≡◌, true, false, get_or, refl, sym, ◌∙◌}
use Rattle.std.proofs.lemmas.List.{append-nil, drop_all}
use Rattle.std.specs.List.{list_any}
use Rattle.std.specs.Str.{bytes_eq}
use Rattle.am_schedule.specs.Clusters.{is_name}
use Rattle.am_schedule.proofs.Names.{name_here}
use Rattle.am_schedule.proofs.cluster.names.Goals as goal

pub loop-word-preserved : goal.loop-word-preserved
loop-word-preserved c =
    let is : is_name (get_or c.args.words.now c.loop-word.word-index _).now ≡ true = sym c.is_name.ensures.value ∙ c.if-not-is_name.false in
    let new : list_any (λ t. bytes_eq t (get_or c.args.words.now c.loop-word.word-index _).now) c.loop-word.names.items ≡ false = rw c.deref.ensures.value at (sym c.has_name.ensures ∙ c.if-has_name.false) in
    rw (c.in_ok-push.ensures.items, c.in_ok-name.ensures) (name_here _ c.args.words.now _ _ c.loop-word-test.true is new ∙ c.loop-word.invariant)

pub returns : goal.returns
returns c = rw (← (rw (drop_all c.loop-word.word-index c.args.words.now c.loop-word-test.false) at c.loop-word.invariant), append-nil, c.new.ensures) refl
