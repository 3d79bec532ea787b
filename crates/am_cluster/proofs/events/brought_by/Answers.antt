use Rattle.std.proofs.Common.{sym, ap, ◌∙◌, subst, map}
use Rattle.std.specs.Prelude.{All}
use Rattle.std.proofs.lemmas.List.Elements.{All-nil}
use Rattle.am_cluster.specs.Contents.{IsValue, delivery_of}
use Rattle.am_cluster.proofs.Acted.{nothing_brought}
use Rattle.am_cluster.proofs.events.brought_by.Goals as goal

pub returns-in_default-clause-versions : goal.returns-in_default-clause-versions
returns-in_default-clause-versions c = ap (map delivery_of) c.new.ensures.items ∙ sym (nothing_brought c.args.event.now c.in_default.not-Frame)

pub returns-in_default-clause-values : goal.returns-in_default-clause-values
returns-in_default-clause-values c = subst (λ vs. All IsValue (map delivery_of vs)) (sym c.new.ensures.items) (All-nil IsValue)
