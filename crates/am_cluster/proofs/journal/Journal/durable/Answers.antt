use Rattle.std.proofs.Common.{◌∙◌, sym}
use Rattle.std.proofs.lemmas.Bool.{false≢true}
use Rattle.am_cluster.proofs.journal.Journal.durable.Goals as goal

pub returns-then-is_durable : goal.returns-then-is_durable
returns-then-is_durable c =
    rw (← c.self.view_is)
    (λ t. (c.is_durable.ensures.0 c.if-is_durable.true, c.is_durable-then-is_durable.ensures.0 t), λ both. c.is_durable-then-is_durable.ensures.1 both.1)

pub returns-else-is_durable : goal.returns-else-is_durable
returns-else-is_durable c = rw (← c.self.view_is) (λ t. absurd (false≢true (sym c.if-is_durable.false ∙ t)), λ both. c.is_durable.ensures.1 both.0)
