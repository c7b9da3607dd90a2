use Rattle.std.proofs.Common.{is_some, sym, ap, ◌∙◌}
use Rattle.std.proofs.lemmas.Map.Text.{btree_map_updates_str}
use Rattle.fed_hub_kept.specs.Unfound.{place_in}
use Rattle.fed_hub_kept.proofs.PlacesById.{first_of_id, later_of_id}
use Rattle.fed_hub_kept.proofs.brought.places_by_id.Goals as goal
use Rattle.fed_hub_kept.proofs.brought.places_by_id.Goals.{then-not-contains_key+in_ok-insert, else-not-contains_key}

pub loop-place-preserved : goal.loop-place-preserved
loop-place-preserved c = λ id.
    let known = c.args.known.now in
    let i = c.loop-place.place in
    let name = c.index-known-place.result in
    let within = c.loop-place-test.true in
    let is = c.index-known-place.is in
    let found = place_in c.loop-place.places in
    let key = c.as_str-id.ensures.value in
    elim c.if-not-contains_key.branch [
      | then-not-contains_key+in_ok-insert w ↦
          let none = ap (λ k. is_some (found k)) (sym key) ∙ sym c.contains_key.ensures ∙ w.if-not-contains_key.true in
          ap (λ m. place_in m id) w.places-is
          ∙ first_of_id known i name within is found c.loop-place.invariant c.as_str-id.result.now _ id key none
          (btree_map_updates_str c.as_str-id.result.now c.loop-place.places w.insert.new.self _ w.in_ok-insert.ensures.updates id)
      | else-not-contains_key w ↦
          let some = ap (λ k. is_some (found k)) (sym key) ∙ sym c.contains_key.ensures ∙ w.if-not-contains_key.false in
          ap (λ m. place_in m id) w.places-is ∙ later_of_id known i name within is found c.loop-place.invariant some id
    ]
