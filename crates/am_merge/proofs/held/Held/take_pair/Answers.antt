use Rattle.std.proofs.Common.{◌+◌, sym, ap, ◌∙◌, subst, arith}
use Rattle.std.specs.Prelude.{All, IsOk}
use Rattle.am_merge.specs.Stores.{versions}
use Rattle.am_merge.specs.Takings.{IsPut, new_keys, new_versions}
use Rattle.am_merge.proofs.Keys.{key_order}
use Rattle.am_merge.proofs.Steps.{fewer_rooms}
use Rattle.am_merge.proofs.Values.{all_of_put}
use Rattle.am_merge.proofs.held.Held.take_pair.Goals as goal

pub returns-in_err-is_second_new-clause-err : goal.returns-in_err-is_second_new-clause-err
returns-in_err-is_second_new-clause-err g c =
    let before = versions c.reserve.new.store in
    let after = versions c.put.new.store in
    let same = sym c.reserve.ensures.versions in
    let first_keys = c.needs-first_keys.ensures.keys ∙ ap (λ map. new_keys g.V.Version.seen g.V.Key.Ord.cmp map c.args.first) same in
    let first_versions = c.needs-first_keys.ensures.versions ∙ ap (λ map. new_versions g.V.Version.seen g.V.Key.Ord.cmp map c.args.first) same in
    let taken = subst (λ map. IsPut g.V.Version.seen g.V.Key.Ord.cmp map c.args.first after) (sym same) c.in_ok-is_first_new.ensures.put in
    let second_keys = c.needs_after-second_keys.ensures.keys after taken in
    let second_versions = c.needs_after-second_keys.ensures.versions after taken in
    let k = c.needs_after-second_keys.result.0 in
    let l = c.needs_after-second_keys.result.1 in
    let wide = fewer_rooms c.reserve.new.store (c.needs-first_keys.result.0 + k) (c.needs-first_keys.result.1 + l) (k + new_keys g.V.Version.seen g.V.Key.Ord.cmp before c.args.first) (l + new_versions g.V.Version.seen g.V.Key.Ord.cmp before c.args.first) (omega arith) (omega arith) c.in_ok-reserve.ensures.room in
    let left = c.put.ensures.room k l wide in
    let never = subst IsOk c.in_err-is_second_new.was (c.put-2.ensures.succeeds (fewer_rooms c.put.new.store k l (new_keys g.V.Version.seen g.V.Key.Ord.cmp after c.args.second) (new_versions g.V.Version.seen g.V.Key.Ord.cmp after c.args.second) (omega arith) (omega arith) left)) in
    absurd cc

pub invariant_of-self-in_err-is_second_new : goal.invariant_of-self-in_err-is_second_new
invariant_of-self-in_err-is_second_new g c =
    let first = all_of_put g.V.Version.seen g.V.Key.Ord.cmp (key_order g.met.V.Key.Ord.total g.met.V.Version.exact_keys) g.V.Version.is_value (versions c.reserve.new.store) c.args.first (versions c.put.new.store) c.in_ok-is_first_new.ensures.put (subst (All g.V.Version.is_value) (sym c.reserve.ensures.versions) c.self.invariant.1) c.canonical-content.ensures.value in
    (c.in_err-is_second_new.ensures.store, subst (All g.V.Version.is_value) (sym c.in_err-is_second_new.ensures.err) first)

pub invariant_of-self-2 : goal.invariant_of-self-2
invariant_of-self-2 g c =
    let first = all_of_put g.V.Version.seen g.V.Key.Ord.cmp (key_order g.met.V.Key.Ord.total g.met.V.Version.exact_keys) g.V.Version.is_value (versions c.reserve.new.store) c.args.first (versions c.put.new.store) c.in_ok-is_first_new.ensures.put (subst (All g.V.Version.is_value) (sym c.reserve.ensures.versions) c.self.invariant.1) c.canonical-content.ensures.value in
    (c.in_ok-is_second_new.ensures.store, all_of_put g.V.Version.seen g.V.Key.Ord.cmp (key_order g.met.V.Key.Ord.total g.met.V.Version.exact_keys) g.V.Version.is_value (versions c.put.new.store) c.args.second (versions c.put-2.new.store) c.in_ok-is_second_new.ensures.put first c.canonical-content-2.ensures.value)
