use Rattle.std.proofs.Common.{◌-◌, arith}
use Rattle.fed_resolve.proofs.ChainMarks.{closed-step}
use Rattle.fed_resolve.proofs.chain.mark_on.Goals as goal

pub loop-place-preserved-then-marks-place : goal.loop-place-preserved-then-marks-place
loop-place-preserved-then-marks-place c =
    let more = c.mark_auths.ensures in
    closed-step c.args.graph.now.stored c.requires.graph c.loop-place.place (c.loop-place.place - 1) (omega arith) c.args.marks.now c.loop-place.marks c.loop-place.invariant c.mark_auths.new.marks (omega arith) c.if-marks-place.true more
