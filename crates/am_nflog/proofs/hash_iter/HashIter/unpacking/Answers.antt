use Rattle.am_nflog.proofs.Packs.{is_packed, reads_packed}
use Rattle.am_nflog.proofs.hash_iter.HashIter.unpacking.Goals as goal

pub invariant_of-result : goal.invariant_of-result
invariant_of-result c = is_packed c.args.bytes.now c.requires.0 c.requires.1 c.requires.2

pub returns : goal.returns
returns c = λ hashes is short. reads_packed c.args.bytes.now hashes is short
