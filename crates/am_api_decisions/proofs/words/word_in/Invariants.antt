use Rattle.std.proofs.Common.{◌≡◌}
use Rattle.form_urlencoded.specs.Parse.{raw_pairs_left}
use Rattle.am_api_decisions.specs.Words.{first_among, word_in}
use Rattle.am_api_decisions.proofs.words.word_in.Given as goal

-- the word is the first one among the pairs that are left
abbrev pub invariant-loop-other : goal.invariant-loop-other
invariant-loop-other l = first_among l.name (raw_pairs_left l.other-iterator) ≡ word_in l.name l.query
