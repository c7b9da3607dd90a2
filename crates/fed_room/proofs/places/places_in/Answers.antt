use Rattle.std.proofs.Common.{◌≡◌, ◌∷◌, ◌∙◌}
use Rattle.fed_event.specs.EventIds.{ids_left}
use Rattle.fed_resolve.specs.Chain.{place_of}
use Rattle.fed_room.proofs.AtPlaces.{pushed_on}
use Rattle.fed_room.proofs.places.places_in.Goals as goal

pub loop-id-preserved : goal.loop-id-preserved
loop-id-preserved c =
    let f = place_of c.args.graph.now.stored in
    let steps : ids_left c.loop-id.id-iterator ≡ c.in-Some.id.now ∷ ids_left c.next.new.self = c.in-Some.ensures.steps in
    pushed_on f c.loop-id.places.items c.add.new.places.items c.in-Some.id.now (ids_left c.next.new.self) (ids_left c.loop-id.id-iterator) steps c.in_ok-add.ensures ∙ c.loop-id.invariant
