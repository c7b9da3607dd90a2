use Rattle.std.proofs.Common.{◌≡◌, ℕ, Option, false, not, is_some, if◌then◌else◌, sym, ap, ◌∙◌}
use Rattle.std.specs.FinMap as finite
use Rattle.fed_json.specs.TextMap.{text_map}
use Rattle.fed_room_contract.specs.Places.{PlaceMap, place_at, without_room_for}
use Rattle.fed_room_contract.proofs.TextUpdates.{text_map-removes}
use Rattle.fed_room_contract.proofs.places.Places.take_room_back.Goals as goal

abbrev seen : Option ℕ → Option ℕ
seen place = place

pub returns-then-is_none : goal.returns-then-is_none
returns-then-is_none c =
    let id = c.args.id.now in
    let m = c.self.inside.places in
    let old = text_map seen m.entries in
    let got : c.get.result ≡ place_at old id = c.get.ensures ∙ ap (λ (m : PlaceMap). place_at m id) (sym c.self.view_is) in
    let missing : is_some (place_at old id) ≡ false = ap is_some (sym got) ∙ c.is_none.ensures ∙ ap not c.if-is_none.true in
    text_map-removes seen m c.remove.new.self id c.self.invariant c.remove.ensures.ordered c.remove.ensures.updates
    ∙ ap (λ b. if b then old else finite.remove old id) (sym missing)
    ∙ ap (λ (m : PlaceMap). without_room_for m id) c.self.view_is
