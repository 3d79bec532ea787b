use Rattle.std.proofs.Common.{inr, refl, ◌∙◌, ap}
use Rattle.am_instance.specs.declared.event.Event.TheVariants as events
use Rattle.am_api_silences.proofs.answering.split_filters.Goals as goal

pub returns-in-Request-List : goal.returns-in-Request-List
returns-in-Request-List c =
    inr (c.in-Request-List.filters, c.new.result, c.in-Request-List.is ∙ ap events.Request c.in-Request-List.field-0-is, refl, c.new.ensures.items, refl)
