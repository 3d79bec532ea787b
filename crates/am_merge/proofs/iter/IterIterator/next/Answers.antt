use Rattle.std.specs.Option.{IsSome}
use Rattle.std.proofs.lemmas.List.Elements.{All-rest}
use Rattle.slab.specs.Slab.{get}
use Rattle.am_merge.specs.declared.entry.KeyEntry.{KeyEntry}
use Rattle.am_merge.proofs.iter.IterIterator.next.Goals as goal

pub invariant_of-self-2 : goal.invariant_of-self-2
invariant_of-self-2 g c =
    All-rest (λ (e : KeyEntry). IsSome (get c.self.inside.table.now e.slot)) c.in_ok-entry.entry c.next.new.self c.self.inside.walk c.in_ok-entry.ensures.steps c.self.invariant
