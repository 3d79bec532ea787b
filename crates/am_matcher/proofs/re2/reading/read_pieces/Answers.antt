use Rattle.am_matcher.proofs.Re2Readings.{reads_on, reads_nothing, reads_whole, reads_open}
use Rattle.am_matcher.proofs.re2.reading.read_pieces.Goals as goal

pub loop-left-preserved : goal.loop-left-preserved
loop-left-preserved c =
    reads_on c.loop-left.invariant c.in-Some.piece _ c.keep.new.reading c.in-Some.ensures.value c.piece.view_is c.in_ok-keep.ensures

pub returns-in_default : goal.returns-in_default
returns-in_default c = reads_nothing c.loop-left.invariant c.loop-left-test.ensures c.in_default.ensures.value

pub returns-in-Outside : goal.returns-in-Outside
returns-in-Outside c = reads_whole c.loop-left.invariant c.loop-left-test.ensures c.in-Outside.is

pub returns-in_default-place : goal.returns-in_default-place
returns-in_default-place c = reads_open c.loop-left.invariant c.loop-left-test.ensures c.in_default-place.not-Outside
