use Rattle.std.proofs.Common.{rules, ◌∙◌}
use Rattle.am_wire.proofs.Offsets.{never_cut, len_within, part_read, part_fits, behind_read}
use Rattle.am_wire.proofs.offset.split_part.Goals as goal

pub slice_bounds-split_at-count : goal.slice_bounds-split_at-count
slice_bounds-split_at-count c = len_within c.requires.1 _ _ (c.in-Ok.ensures.exact)

pub slice_bounds-split_at-start : goal.slice_bounds-split_at-start
slice_bounds-split_at-start c = let le = slice_bounds-split_at-count c in search rules

pub split_at-requires : goal.split_at-requires
split_at-requires c = part_fits c.requires.1 _ _ (c.in-Ok.ensures.exact)

pub returns-in-Ok : goal.returns-in-Ok
returns-in-Ok c = λ part h.
    (c.split_at.ensures.front ∙ part_read h _ _ (c.in-Ok.ensures.exact), c.split_at.ensures.back ∙ behind_read h _ _ (c.in-Ok.ensures.exact))

pub returns-in-Err : goal.returns-in-Err
returns-in-Err c = absurd (never_cut c.requires.1 _ (c.in-Err.ensures.exact))
