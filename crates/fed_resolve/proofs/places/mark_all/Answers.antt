use Rattle.std.proofs.Common.{length}
use Rattle.fed_resolve.proofs.Marks.{among-more}
use Rattle.fed_resolve.proofs.places.mark_all.Goals as goal

pub loop-place-preserved : goal.loop-place-preserved
loop-place-preserved c =
    among-more (length c.args.marks.now) c.args.places.now c.args.marks.now c.loop-place.marks c.loop-place.place-index c.loop-place-test.true (c.requires c.loop-place.place-index 0 c.loop-place-test.true) c.loop-place.invariant
