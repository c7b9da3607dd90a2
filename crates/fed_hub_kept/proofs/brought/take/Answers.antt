use Rattle.std.proofs.Common.{◌≡◌, ◌≤◌, Some, None, length, map, option_map, refl, sym, ap, ◌∙◌, subst}
use Rattle.std.proofs.lemmas.List.{map-set, length-map}
use Rattle.std.proofs.lemmas.Option.{slice_get-map, slice_get_read}
use Rattle.fed_event.specs.Fields.{room_id_of}
use Rattle.fed_hub_kept.specs.Unfound.{AreFronts, place_in}
use Rattle.fed_hub_kept.proofs.Arrivals.{of_no_room, of_later_room, refused, taken, both}
use Rattle.fed_hub_kept.proofs.brought.take.Goals as goal

pub returns-in_default : goal.returns-in_default
returns-in_default c =
    let none : place_in c.args.places.now (room_id_of c.args.event.now.event) ≡ None = ap (place_in c.args.places.now) (sym (c.room_id.ensures ∙ ap room_id_of c.event.ensures.event)) ∙ sym c.in_default.ensures.value in
    of_no_room (place_in c.args.places.now) c.args.event.now (map (λ inputs. inputs.now) c.args.left.now) none

pub returns-then-place-left : goal.returns-then-place-left
returns-then-place-left c =
    let left = map (λ inputs. inputs.now) c.args.left.now in
    let is : place_in c.args.places.now (room_id_of c.args.event.now.event) ≡ Some c.in-Some.place.now = ap (place_in c.args.places.now) (sym (c.room_id.ensures ∙ ap room_id_of c.event.ensures.event)) ∙ sym c.in-Some.ensures.value in
    of_later_room (place_in c.args.places.now) c.args.event.now left c.in-Some.place.now is (subst (λ n. n ≤ c.in-Some.place.now) (sym (length-map c.args.left.now (λ inputs. inputs.now))) c.if-place-left.true)

pub returns-in_default-behind : goal.returns-in_default-behind
returns-in_default-behind c =
    let left = map (λ inputs. inputs.now) c.args.left.now in
    let place = c.in-Some.place.now in
    let is : place_in c.args.places.now (room_id_of c.args.event.now.event) ≡ Some place = ap (place_in c.args.places.now) (sym (c.room_id.ensures ∙ ap room_id_of c.event.ensures.event)) ∙ sym c.in-Some.ensures.value in
    let here = slice_get-map (λ inputs. inputs.now) c.args.left.now place ∙ ap (option_map (λ inputs. inputs.now)) (slice_get_read c.args.left.now (length c.args.left.now) place c.index-left-place.result refl c.if-place-left.false c.index-left-place.is) in
    refused (place_in c.args.places.now) c.args.event.now left place c.index-left-place.result.now is here c.in_default-behind.ensures

pub returns : goal.returns
returns c = λ later.
    let left = map (λ inputs. inputs.now) c.args.left.now in
    let place = c.in-Some.place.now in
    let is : place_in c.args.places.now (room_id_of c.args.event.now.event) ≡ Some place = ap (place_in c.args.places.now) (sym (c.room_id.ensures ∙ ap room_id_of c.event.ensures.event)) ∙ sym c.in-Some.ensures.value in
    let here = slice_get-map (λ inputs. inputs.now) c.args.left.now place ∙ ap (option_map (λ inputs. inputs.now)) (slice_get_read c.args.left.now (length c.args.left.now) place c.index-left-place.result refl c.if-place-left.false c.index-left-place.is) in
    let set_there = map-set (λ inputs. inputs.now) c.args.left.now place c.in-Some-behind.rest in
    both (taken (place_in c.args.places.now) c.args.event.now left place c.index-left-place.result.now is here c.in-Some-behind.rest.now c.in-Some-behind.ensures later)
    ((λ a. subst (AreFronts (place_in c.args.places.now) later) (sym set_there) a), (λ a. subst (AreFronts (place_in c.args.places.now) later) set_there a))
