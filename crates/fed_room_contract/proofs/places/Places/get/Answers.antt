use Rattle.std.proofs.Common.{None, Some, sym, ap, ◌∙◌}
use Rattle.fed_room_contract.specs.Places.{PlaceMap, place_in, place_at}
use Rattle.fed_room_contract.proofs.TextUpdates.{text_map-at}
use Rattle.fed_room_contract.proofs.places.Places.get.Goals as goal

pub returns-in-Some : goal.returns-in-Some
returns-in-Some c =
    ap place_in (sym (text_map-at c.self.inside.places c.args.id.now (Some c.in-Some.place.now) c.self.invariant c.in-Some.ensures.value))
    ∙ ap (λ (m : PlaceMap). place_at m c.args.id.now) c.self.view_is

pub returns-in-None : goal.returns-in-None
returns-in-None c =
    ap place_in (sym (text_map-at c.self.inside.places c.args.id.now None c.self.invariant c.in-None.ensures.value))
    ∙ ap (λ (m : PlaceMap). place_at m c.args.id.now) c.self.view_is
