use Rattle.std.proofs.Common.{◌||◌}
use Rattle.am_matcher.specs.Uses.{is_among, is_used_by}
use Rattle.am_matcher.proofs.Uses.{used_by_themselves, among_themselves, texts_first, silences_second}
use Rattle.am_matcher.proofs.cache.PatternCache.mutes_in.Goals as goal

pub returns-clause-kept : goal.returns-clause-kept
returns-clause-kept c =
    let before = c.args.self.now in
    let held = c.args.held.now in
    c.mutes_by.ensures.kept (λ text. is_among before text || is_used_by held text)
    (silences_second (is_among before) (is_used_by held) held (used_by_themselves held))
    (texts_first (is_among before) (is_used_by held) before (among_themselves before))
