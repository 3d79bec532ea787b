use Rattle.std.proofs.Common.{◌≡◌, ◌-◌, ◌<◌, [], length, get_or, ◌∙◌, arith}
use Rattle.std.specs.declared.cmp.Ordering.TheVariants.{Less}
use Rattle.std.proofs.lemmas.List.Elements.{All-nil}
use Rattle.am_merge.proofs.Joined.{block_read}
use Rattle.am_merge.proofs.Risings.{rising_block, joined_behind, found_in, missing_in}
use Rattle.am_merge.proofs.blocks.Blocks.search.Goals as goal

pub returns-then-leading-eq0-clause-missing : goal.returns-then-leading-eq0-clause-missing
returns-then-leading-eq0-clause-missing g c =
    let order = g.P.Probe.order c.args.probe.now in
    let blocks = c.self.inside.blocks.items in
    let rising = rw (← c.self.view_is) at c.requires in
    let behind = rw (c.deref.ensures.value, c.if-leading-eq0.true) at c.leading-leading.ensures.behind in
    rw (← c.self.view_is)
    (record {
      within = record { block = omega arith; offset = omega arith };
      before = All-nil (λ x. order x ≡ Less);
      behind = joined_behind order blocks c.self.invariant.0 rising behind;
    })

pub search_block-requires : goal.search_block-requires
search_block-requires g c =
    let order = g.P.Probe.order c.args.probe.now in
    let blocks = c.self.inside.blocks.items in
    let rising = rw (← c.self.view_is) at c.requires in
    let few = rw c.deref.ensures.value at c.leading-leading.ensures.within in
    let inside : c.leading-leading.result - 1 < length blocks = omega arith in
    let whole : c.as_slice.result.now ≡ get_or blocks (c.leading-leading.result - 1) [] = c.as_slice.ensures ∙ block_read blocks (c.leading-leading.result - 1) c.index.result.now inside c.index.ensures in
    rw whole (rising_block order blocks (c.leading-leading.result - 1) inside rising)

pub returns-in-Ok-clause-found : goal.returns-in-Ok-clause-found
returns-in-Ok-clause-found g c =
    let order = g.P.Probe.order c.args.probe.now in
    let blocks = c.self.inside.blocks.items in
    let few = rw c.deref.ensures.value at c.leading-leading.ensures.within in
    let inside : c.leading-leading.result - 1 < length blocks = omega arith in
    let whole : c.as_slice.result.now ≡ get_or blocks (c.leading-leading.result - 1) [] = c.as_slice.ensures ∙ block_read blocks (c.leading-leading.result - 1) c.index.result.now inside c.index.ensures in
    let within = rw whole at c.in-Ok.ensures.inside in
    let equal = rw whole at c.in-Ok.ensures.equal in
    rw (← c.self.view_is)
    (record {
      item = record { offset = within };
      equal = found_in order blocks (c.leading-leading.result - 1) c.in-Ok.offset inside within equal;
    })

pub returns-in-Err-clause-missing : goal.returns-in-Err-clause-missing
returns-in-Err-clause-missing g c =
    let order = g.P.Probe.order c.args.probe.now in
    let blocks = c.self.inside.blocks.items in
    let rising = rw (← c.self.view_is) at c.requires in
    let few = rw c.deref.ensures.value at c.leading-leading.ensures.within in
    let inside : c.leading-leading.result - 1 < length blocks = omega arith in
    let whole : c.as_slice.result.now ≡ get_or blocks (c.leading-leading.result - 1) [] = c.as_slice.ensures ∙ block_read blocks (c.leading-leading.result - 1) c.index.result.now inside c.index.ensures in
    let within = rw whole at c.in-Err.ensures.within in
    let first = rw c.deref.ensures.value at c.leading-leading.ensures.before in
    let behind = rw c.deref.ensures.value at c.leading-leading.ensures.behind in
    let missing = missing_in order blocks (c.leading-leading.result - 1) c.leading-leading.result c.in-Err.offset c.self.invariant.0 rising (omega arith) few within (λ d. first d (omega arith)) behind (rw whole at c.in-Err.ensures.before) (rw whole at c.in-Err.ensures.behind) in
    rw (← c.self.view_is)
    (record {
      within = record { block = omega arith; offset = within };
      before = missing.0;
      behind = missing.1;
    })
