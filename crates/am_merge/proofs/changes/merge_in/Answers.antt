use Rattle.std.proofs.Common.{◌≡◌, ◌≤◌, ◌+◌, suc, length, Bool, true, false, cond, refl, ap, ◌∙◌, arith}
use Rattle.am_merge.specs.Stores.{versions}
use Rattle.am_merge.proofs.Keys.{key_order}
use Rattle.am_merge.proofs.Merges.{merge_more, count_more, at_rest}
use Rattle.am_merge.proofs.Steps.{count_is}
use Rattle.am_merge.proofs.changes.merge_in.Goals as goal
use mir.Val.{bool_byte}

byte_is : (b : Bool) → bool_byte b ≡ cond b 1 0
byte_is true = refl
byte_is false = refl

at_most_one : (b : Bool) → bool_byte b ≤ 1
at_most_one true = omega arith
at_most_one false = omega arith

pub loop-version-preserved : goal.loop-version-preserved
loop-version-preserved g c =
    let so_far = c.loop-version.invariant in
    let put = c.in-Ok.ensures.put in
    let keys = (key_order g.met.V.Key.Ord.total g.met.V.Version.exact_keys) in
    let others = versions c.args.other.now in
    let v = c.in-Some.version.now in
    let place = at_rest others c.loop-version.taken v c.next.new.self (so_far.rest ∙ c.in-Some.ensures.steps) in
    let long = ap length c.in-Some.ensures.steps in
    let next : c.loop-version.taken + 1 ≡ suc c.loop-version.taken = omega arith in
    record {
      store = c.put_copy.ensures.store;
      rest = rw next place.1.1;
      within = let within = so_far.within in omega arith;
      joined = merge_more g.V.Version.seen g.V.Key.Ord.cmp keys (versions c.args.store.now) (versions c.loop-version.store) others c.loop-version.taken v c.requires.other.keys.order place.0 place.1.0 so_far.joined (versions c.put_copy.new.store) put.joined;
      count =
          let more = count_more g.V.Version.seen g.V.Key.Ord.cmp keys (versions c.args.store.now) (versions c.loop-version.store) others c.loop-version.taken v c.requires.other.keys.order place.0 place.1.0 so_far.joined in
          let one = c.from-changed.ensures ∙ byte_is c.in-Ok.more ∙ ap (λ b. cond b 1 0) c.in-Ok.ensures.answer in
          let before = so_far.count in
          omega arith;
      few = let few = so_far.few in let small = at_most_one c.in-Ok.more in let byte = c.from-changed.ensures in omega arith;
    }

pub overflow_add-changed : goal.overflow_add-changed
overflow_add-changed g c =
    let so_far = c.loop-version.invariant in
    let few = so_far.few in
    let within = so_far.within in
    let long = ap length c.in-Some.ensures.steps in
    let byte = c.from-changed.ensures in
    let small = at_most_one c.in-Ok.more in
    let size = c.len-size.ensures ∙ count_is g.V.Version.seen g.V.Version.head_of g.V.Key.Ord.cmp (key_order g.met.V.Key.Ord.total g.met.V.Version.exact_keys) g.V.Version.bucket_of c.args.other.now c.requires.other in
    let fits = c.len-size.type_inv in
    omega arith

pub overflow_add-taken : goal.overflow_add-taken
overflow_add-taken g c =
    let so_far = c.loop-version.invariant in
    let within = so_far.within in
    let long = ap length c.in-Some.ensures.steps in
    let size = c.len-size.ensures ∙ count_is g.V.Version.seen g.V.Version.head_of g.V.Key.Ord.cmp (key_order g.met.V.Key.Ord.total g.met.V.Version.exact_keys) g.V.Version.bucket_of c.args.other.now c.requires.other in
    let fits = c.len-size.type_inv in
    omega arith
