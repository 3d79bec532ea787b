use Rattle.std.proofs.Common.{refl, string_bytes}
use Rattle.am_replay.proofs.Played.{plays_more, reached}
use Rattle.am_replay.proofs.player.play_lines.Goals as goal

pub returns-in-Err-clause-halted : goal.returns-in-Err-clause-halted
returns-in-Err-clause-halted g c = (
  c.index-lines-index.result.1,
  refl,
  reached c.args.cluster.now c.loop-index.cluster c.args.lines.now c.loop-index.index c.index-lines-index.result.0 c.index-lines-index.result.1 (string_bytes c.args.out.now) (string_bytes c.loop-index.out)
      c.loop-index-test.true c.index-lines-index.is c.loop-index.invariant,
)

pub loop-index-preserved : goal.loop-index-preserved
loop-index-preserved g c =
    plays_more c.args.cluster.now c.loop-index.cluster c.show_line.new.cluster c.args.lines.now c.loop-index.index c.index-lines-index.result.0 c.index-lines-index.result.1 (string_bytes c.args.out.now) (string_bytes c.loop-index.out) (string_bytes c.show_line.new.out)
    c.loop-index-test.true c.index-lines-index.is c.loop-index.invariant c.in-Ok.ensures
