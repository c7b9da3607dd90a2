use Rattle.std.proofs.Common.{arith, ◌≡◌, ◌+◌, map, sym, ap, ◌∙◌}
use Rattle.std.specs.List.{range_with_len}
use Rattle.std.proofs.lemmas.List.{take_all}
use Rattle.std.proofs.lemmas.List.FromFn.{length-map-range_with_len, get_or-map-range_with_len}
use Rattle.fed_sim.specs.Way.{WayState, ways_of, new_way}
use Rattle.fed_sim.proofs.Built.{built}
use Rattle.fed_sim.proofs.server.ways.Goals as goal

pub loop-place-init : goal.loop-place-init
loop-place-init c = ap ways_of c.in_ok-ways.ensures.items

pub loop-place-preserved : goal.loop-place-preserved
loop-place-preserved c =
    let count = length-map-range_with_len new_way 0 c.args.count in
    let i = c.loop-place.place in
    let at : 0 + i ≡ i = omega arith in
    let way = c.new-in-loop-place.ensures ∙ ap new_way c.new.ensures in
    built (λ (l : WayState). l.way) c.loop-place.ways.items c.push.new.self.items (map new_way (range_with_len 0 c.args.count)) i c.new-in-loop-place.result c.loop-place.invariant c.in_ok-push.ensures.items
    (omega (arith, count, c.loop-place-test.true))
    (way ∙ sym (get_or-map-range_with_len new_way 0 c.args.count i i c.new-in-loop-place.result.way c.loop-place-test.true at))

pub returns : goal.returns
returns c = c.loop-place.invariant ∙ take_all c.loop-place.place (map new_way (range_with_len 0 c.args.count)) (let count = length-map-range_with_len new_way 0 c.args.count in omega (arith, count, c.loop-place-test.false))
