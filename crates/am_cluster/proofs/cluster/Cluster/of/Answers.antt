use Rattle.std.proofs.Common.{◌≡◌, ◌∙◌, length, arith}
use Rattle.am_cluster.proofs.Born.{world_born}
use Rattle.am_cluster.proofs.cluster.Cluster.of.Goals as goal

pub invariant_of-result : goal.invariant_of-result
invariant_of-result c = let count : c.len.result ≡ length c.args.members.items = omega (arith, c.len.ensures, c.args.members.ok.0) in record {
  members = c.new-journal.ensures.members ∙ count;
  world = world_born _ _ _ _ _ _ c.requires c.new-journal.ensures.silences c.new-journal.ensures.log c.new-journal.ensures.lines c.new.ensures.items;
}
