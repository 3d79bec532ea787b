use Rattle.am_peers.proofs.Whole.{within}
use Rattle.am_peers.proofs.reply.body_of.Goals as goal

pub split_at-requires : goal.split_at-requires
split_at-requires c = within 16384 c.args.reply.now c.in-Some.head.len c.in-Some.ensures.fits
