use Rattle.std.proofs.Common.{subst, sym, ◌∙◌, ap, All}
use Rattle.am_merge.specs.Stores.{versions, IsStore}
use Rattle.am_merge.proofs.Values.{emptied}
use Rattle.am_merge.proofs.builder.HeldBuilder.of.Goals as goal

pub invariant_of-held : goal.invariant_of-held
invariant_of-held g c = emptied (IsStore g.V.Version.seen g.V.Version.head_of g.V.Key.Ord.cmp g.V.Version.bucket_of) g.V.Version.is_value c.empty_store.result c.replace-store.new.dest c.replace-store.ensures.after c.empty_store.ensures.store c.empty_store.ensures.empty

pub invariant_of-result : goal.invariant_of-result
invariant_of-result g c =
    (c.by_key.ensures.keyed, subst (All g.V.Version.is_value) (sym (c.by_key.ensures.same ∙ ap versions c.replace-store.ensures.value)) c.held.invariant.1)
