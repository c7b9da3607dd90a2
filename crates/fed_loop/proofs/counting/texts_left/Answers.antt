use Rattle.std.proofs.Common.{arith, length, ap}
use Rattle.fed_inbox.specs.Taken.{taken_left}
use Rattle.fed_loop.proofs.counting.texts_left.Goals as goal

pub loop-init : goal.loop-init
loop-init c =
    let same = ap (λ texts. length (taken_left texts)) c.into_iter-iterator.ensures.into_iter_gives in
    (omega (arith, same), omega arith)

pub loop-preserved : goal.loop-preserved
loop-preserved c =
    let left = ap length c.in-Some.ensures.steps in
    let count = c.saturating_add-count.ensures in
    let all = c.loop.invariant.0 in
    (omega (arith, left, count, all), omega (arith, count))

pub returns : goal.returns
returns c =
    let left = ap length c.in-None.ensures.steps.0 in
    let all = c.loop.invariant.0 in
    let within = c.loop.invariant.1 in
    omega (arith, left, all, within)
