use Rattle.std.proofs.Common.{◌≡◌, true, false, sym, ap, subst}
use Rattle.std.specs.Prelude.{is_none}
use Rattle.am_merge.specs.Cursors.{place}
use Rattle.am_merge.specs.Maps.{at}
use Rattle.am_merge.specs.Stores.{versions}
use Rattle.am_merge.proofs.Keys.{key_order}
use Rattle.am_merge.proofs.Puts.{at_found, at_absent}
use Rattle.am_merge.proofs.Steps.{element}
use Rattle.am_merge.proofs.Values.{all_of_put}
use Rattle.am_merge.proofs.builder.HeldBuilder.insert_new.Goals as goal

pub returns-in-Ok-clause-answer : goal.returns-in-Ok-clause-answer
returns-in-Ok-clause-answer g c =
    let map = versions c.self.inside.store in
    let i = place c.self.inside.store.keys c.in-Ok.field-0 in
    let found = c.in-Ok.ensures.found.place in
    let w = element map i found.in_range in
    subst (λ m. false ≡ is_none (at g.V.Version.seen g.V.Key.Ord.cmp m (g.V.Version.seen c.args.version).key)) c.self.view_is
    (subst (λ k. false ≡ is_none (at g.V.Version.seen g.V.Key.Ord.cmp map k)) c.key.ensures
    (sym (ap is_none (at_found g.V.Version.seen g.V.Key.Ord.cmp (key_order g.met.V.Key.Ord.total g.met.V.Version.exact_keys) map c.key.result.now i w.0 c.self.invariant.0.index.order found w.1))))

pub returns-in_ok-add_by_key-in-Err-clause-answer : goal.returns-in_ok-add_by_key-in-Err-clause-answer
returns-in_ok-add_by_key-in-Err-clause-answer g c =
    let map = versions c.self.inside.store in
    subst (λ m. true ≡ is_none (at g.V.Version.seen g.V.Key.Ord.cmp m (g.V.Version.seen c.args.version).key)) c.self.view_is
    (subst (λ k. true ≡ is_none (at g.V.Version.seen g.V.Key.Ord.cmp map k)) c.key.ensures
    (sym (ap is_none (at_absent g.V.Version.seen g.V.Key.Ord.cmp (key_order g.met.V.Key.Ord.total g.met.V.Version.exact_keys) map c.key.result.now (place c.self.inside.store.keys c.in-Err.cursor) c.in-Err.ensures.absent.gap))))

pub invariant_of-self-in-Err : goal.invariant_of-self-in-Err
invariant_of-self-in-Err g c =
    (c.add_by_key.ensures.keyed, all_of_put g.V.Version.seen g.V.Key.Ord.cmp (key_order g.met.V.Key.Ord.total g.met.V.Version.exact_keys) g.V.Version.is_value (versions c.self.inside.store) c.args.version (versions c.add_by_key.new.store) c.in_ok-add_by_key-in-Err.ensures.put c.self.invariant.1 c.canonical-content.ensures.value)
