use Rattle.std.proofs.Common.{◌≡◌, Bool, true, false, refl, sym, ap, ◌∙◌}
use Rattle.std.specs.Prelude.{bytes_eq, not}
use Rattle.std.specs.Option.{IsSome}
use Rattle.std.proofs.lemmas.List.Elements.{All-rest}
use Rattle.slab.specs.Slab.{get}
use Rattle.am_merge.specs.Buckets.{bucket_slot, run_of}
use Rattle.am_merge.specs.Indexes.{filed}
use Rattle.am_merge.specs.declared.entry.BucketEntry.{BucketEntry}
use Rattle.am_merge.proofs.Walks.{run_more}
use Rattle.am_merge.proofs.iter.InBucketIterator.next.Goals as goal

not_false : (b : Bool) → false ≡ not b → b ≡ true
not_false true e = refl
not_false false e = cc

pub invariant_of-self-else-ne : goal.invariant_of-self-else-ne
invariant_of-self-else-ne g c =
    All-rest (λ (e : BucketEntry). IsSome (get c.self.inside.table.now (bucket_slot e))) c.in_ok-entry.entry c.next.new.self c.self.inside.walk c.in_ok-entry.ensures.steps c.self.invariant

pub returns-clause-steps : goal.returns-clause-steps
returns-clause-steps g c =
    let same = ap (λ b. bytes_eq b c.self.inside.bucket.now) (sym c.bucket.ensures) ∙ not_false (bytes_eq c.bucket.result.now c.self.inside.bucket.now) c.if-ne.ensures in
    sym c.self.view_is
    ∙ ap (λ es. run_of g.V.Version.bucket_of c.self.inside.bucket.now (filed bucket_slot (get c.self.inside.table.now) es)) c.in_ok-entry.ensures.steps
    ∙ run_more g.V.Version.bucket_of c.self.inside.bucket.now (get c.self.inside.table.now) c.in_ok-entry.entry c.next.new.self c.index-version.result.now c.index-version.ensures same
