use Rattle.std.proofs.Common.{◌≡◌, ◌<◌, ◌++◌, length, ap, sym, ◌∙◌, arith, length-append}
use Rattle.std.specs.Int.{w64, from_le_bytes}
use Rattle.std.proofs.KnownBytes.{Consumes-trans}
use Rattle.am_store.proofs.ReadingLemmas.{whole_is, part_is}
use Rattle.am_store.proofs.batches.read_block.Goals as goal

pub returns-then-len-size : goal.returns-then-len-size
returns-then-len-size g c =
    let head = c.read_up_to.new.bytes.items in
    let batch = c.read_up_to-2.new.bytes.items in
    let (size, is, eight, n) = c.in-Some.ensures.some in
    let head_is = sym c.deref.ensures.value ∙ is in
    let long = c.read_up_to-2.new.bytes.ok.0 in
    let few : length batch < c.in-Some.size = omega (arith, long, c.len-2.ensures, c.if-len-size.true) in
    let few_bytes : length batch < from_le_bytes w64 size = omega (arith, few, n) in (
      head ++ batch,
      Consumes-trans _ _ _ head batch c.in_ok-read_up_to.ensures.whole c.in_ok-read_up_to-2.ensures.whole,
      (
        omega (arith, long, c.len-then-len-size.ensures, ap length head_is, eight, length-append head batch),
        part_is head size batch _ head_is eight few_bytes (c.in_ok-read_up_to-2.ensures.end few),
      ),
    )

pub returns : goal.returns
returns g c =
    let head = c.read_up_to.new.bytes.items in
    let batch = c.read_up_to-2.new.bytes.items in
    let (size, is, eight, n) = c.in-Some.ensures.some in
    let head_is = sym c.deref.ensures.value ∙ is in
    let whole : from_le_bytes w64 size ≡ length batch = omega (arith, c.read_up_to-2.new.bytes.ok.0, c.len-2.ensures, c.if-len-size.false, c.in_ok-read_up_to-2.ensures.size, n) in (
      head ++ batch,
      Consumes-trans _ _ _ head batch c.in_ok-read_up_to.ensures.whole c.in_ok-read_up_to-2.ensures.whole,
      λ rest. whole_is head size batch rest head_is eight whole,
    )
