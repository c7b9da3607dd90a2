use Rattle.std.proofs.Common.{ℕ, Option, None, if◌then◌else◌, sym, ap, ◌∙◌}
use Rattle.std.specs.FinMap as finite
use Rattle.fed_json.specs.TextMap.{text_map}
use Rattle.fed_json.proofs.TextMaps.{contains_key-text_map, text_map-insert}
use Rattle.fed_room_contract.specs.Places.{PlaceMap, with_room_for}
use Rattle.fed_room_contract.proofs.places.Places.add_room.Goals as goal

abbrev seen : Option ℕ → Option ℕ
seen place = place

pub returns-then-contains_key-clause-ok : goal.returns-then-contains_key-clause-ok
returns-then-contains_key-clause-ok c =
    let id = c.args.id.now in
    let there = sym (contains_key-text_map seen c.self.inside.places.entries c.self.invariant id) ∙ sym c.contains_key.ensures ∙ c.if-contains_key.true in
    let old = text_map seen c.self.inside.places.entries in
    sym c.self.view_is ∙ ap (λ b. if b then old else finite.insert old id None) (sym there) ∙ ap (λ (m : PlaceMap). with_room_for m id) c.self.view_is

pub returns-clause-ok : goal.returns-clause-ok
returns-clause-ok c =
    let id = c.args.id.now in
    let missing = sym (contains_key-text_map seen c.self.inside.places.entries c.self.invariant id) ∙ sym c.contains_key.ensures ∙ c.if-contains_key.false in
    let old = text_map seen c.self.inside.places.entries in
    text_map-insert seen c.self.inside.places.entries c.insert.new.self.entries c.in_ok-id.id None c.self.invariant c.in_ok-insert.ensures.ordered c.in_ok-insert.ensures.entries
    ∙ ap (λ k. finite.insert old k None) c.in_ok-id.ensures.ok
    ∙ ap (λ b. if b then old else finite.insert old id None) (sym missing)
    ∙ ap (λ (m : PlaceMap). with_room_for m id) c.self.view_is
