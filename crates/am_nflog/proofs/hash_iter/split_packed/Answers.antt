use Rattle.std.proofs.Common.{rules}
use Rattle.std.proofs.lemmas.List.{take_rest}
use Rattle.am_nflog.proofs.Packs.{nothing_left, len_within, first_packed, others_packed}
use Rattle.am_nflog.proofs.hash_iter.split_packed.Goals as goal

pub slice_bounds-result-count : goal.slice_bounds-result-count
slice_bounds-result-count c = len_within c.args.bytes.now c.requires _ _ c.in-Ok.ensures.exact

pub slice_bounds-result-start : goal.slice_bounds-result-start
slice_bounds-result-start c = let le = slice_bounds-result-count c in search rules

pub returns-in-Ok-clause-first : goal.returns-in-Ok-clause-first
returns-in-Ok-clause-first c = rw (take_rest c.args.bytes.now c.in-Ok.len) (first_packed c.args.bytes.now c.requires _ _ c.in-Ok.ensures.exact)

pub returns-in-Ok-clause-others : goal.returns-in-Ok-clause-others
returns-in-Ok-clause-others c = rw (take_rest c.args.bytes.now c.in-Ok.len) (others_packed c.args.bytes.now c.requires _ _ c.in-Ok.ensures.exact)

pub returns-in-Err-clause-none : goal.returns-in-Err-clause-none
returns-in-Err-clause-none c = nothing_left c.args.bytes.now c.requires _ c.in-Err.ensures.exact
