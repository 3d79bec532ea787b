use Rattle.std.proofs.Common.{sym, arith, rules}
use Rattle.am_gossip.proofs.Varints.{varint_within_bytes, varint_few}
use Rattle.am_gossip.proofs.hello.read_hello.Goals as goal

pub slice_bounds-name_from-count : goal.slice_bounds-name_from-count
slice_bounds-name_from-count c = varint_within_bytes _ _ _ (sym c.in-Ok.ensures.exact)

pub slice_bounds-name_from-start : goal.slice_bounds-name_from-start
slice_bounds-name_from-start c = let le = slice_bounds-name_from-count c in search rules

pub overflow_add-len : goal.overflow_add-len
overflow_add-len c = let le = varint_few _ _ _ (sym c.in-Ok.ensures.exact) in search rules

pub name_from-requires : goal.name_from-requires
name_from-requires c = let le = varint_few _ _ _ (sym c.in-Ok.ensures.exact) in omega (arith, le)
