use Rattle.std.proofs.Common.{◌≡◌, eqb, drop, ap, ◌∙◌, arith}
use Rattle.std.specs.List.{position_from}
use Rattle.fed_resolve.proofs.Mainlines.{indices-whole}
use Rattle.fed_resolve.proofs.mainline.indices.Goals as goal

pub returns : goal.returns
returns c =
    let start : c.loop-index.index ≡ 0 = omega arith in
    indices-whole c.args.count c.args.line.now c.loop-index.indices.items c.loop-index.invariant.long
    (λ place below. c.loop-index.invariant.each place below ∙ ap (λ i. position_from (λ p. eqb p place) i (drop i c.args.line.now)) start)
