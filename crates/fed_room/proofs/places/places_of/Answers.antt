use Rattle.std.proofs.Common.{◌≡◌, ◌++◌, [], ◌+◌, drop, ap, ◌∙◌}
use Rattle.std.specs.List.{cons_option}
use Rattle.fed_resolve.specs.Chain.{place_of}
use Rattle.fed_room.proofs.AtPlaces.{pushed_on, left_here}
use Rattle.fed_room.proofs.places.places_of.Goals as goal

pub loop-id-preserved : goal.loop-id-preserved
loop-id-preserved c =
    let f = place_of c.args.graph.now.stored in
    let id = c.id-item.result in
    let ids = c.args.ids.now in
    let i = c.loop-id.id-index in
    let grown : c.add.new.places.items ≡ c.loop-id.places.items ++ cons_option (f id) [] = c.in_ok-add.ensures ∙ ap (λ t. c.loop-id.places.items ++ cons_option (f t) []) c.as_str.ensures.text in
    pushed_on f c.loop-id.places.items c.add.new.places.items id (drop (i + 1) ids) (drop i ids) (left_here ids i id c.loop-id-test.true c.id-item.is) grown ∙ c.loop-id.invariant
