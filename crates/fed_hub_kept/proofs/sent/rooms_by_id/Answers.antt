use Rattle.std.proofs.Common.{◌≡◌, ℕ, List, is_some, option_map, Option, false, true, Bor, take, refl, sym, ap, ◌∙◌}
use Rattle.std.specs.Cmp.Lexicographic.{slice_cmp}
use Rattle.std.specs.Ordering.{nat_cmp}
use Rattle.std.specs.BTreeMap.{BTreeMap, get_by}
use Rattle.std.proofs.lemmas.Map.Text.{btree_map_updates_str}
use Rattle.fed_hub_state.specs.KeptRoom.{KeptState, id_of}
use Rattle.fed_hub_kept.specs.Sent.{room_at}
use Rattle.fed_hub_kept.proofs.Each.{one_more}
use Rattle.fed_hub_kept.proofs.ById.{first_of_id, later_of_id}
use Rattle.fed_hub_kept.proofs.sent.rooms_by_id.Goals as goal
use Rattle.fed_hub_kept.proofs.sent.rooms_by_id.Goals.{then-not-contains_key+in_ok-insert, else-not-contains_key}

-- what is found in a map by an id
abbrev found_in : BTreeMap (Bor (List ℕ)) (Bor KeptState) → List ℕ → Option (Bor KeptState)
found_in m id = get_by (λ key. slice_cmp nat_cmp id key.now) m

pub loop-room-preserved : goal.loop-room-preserved
loop-room-preserved c = λ id.
    let rooms = c.args.rooms.now in
    let i = c.loop-room.room-index in
    let room = c.room-item.result in
    let found = found_in c.loop-room.by_id in
    let more = sym (ap (λ rs. room_at rs id) (one_more rooms i room c.loop-room-test.true c.room-item.is)) in
    let key = c.id-id.ensures in
    elim c.if-not-contains_key.branch [
      | then-not-contains_key+in_ok-insert w ↦
          let none : is_some (found (id_of room)) ≡ false = ap (λ i. is_some (found i)) (sym key) ∙ sym c.contains_key.ensures ∙ w.if-not-contains_key.true in
          ap (λ m. option_map (λ r. r.now) (found_in m id)) w.by_id-is
          ∙ first_of_id id_of found (take i rooms) room c.loop-room.invariant c.id-id.result.now _ _ id key refl none
          (btree_map_updates_str c.id-id.result.now c.loop-room.by_id w.insert.new.self _ w.in_ok-insert.ensures.updates id)
          ∙ more
      | else-not-contains_key w ↦
          let some : is_some (found (id_of room)) ≡ true = ap (λ i. is_some (found i)) (sym key) ∙ sym c.contains_key.ensures ∙ w.if-not-contains_key.false in
          ap (λ m. option_map (λ r. r.now) (found_in m id)) w.by_id-is ∙ later_of_id id_of found (take i rooms) room c.loop-room.invariant some id ∙ more
    ]
