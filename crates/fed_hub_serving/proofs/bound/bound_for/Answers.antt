use Rattle.std.proofs.Common.{◌≡◌, ◌∷◌, ◌++◌, ◌+◌, [], ℕ, List, nat_lt, not, cond, Option, Some, None, String, Global, map, take, length, string_bytes, bytes_eq, position, refl, sym, ap, ◌∙◌}
use Rattle.std.specs.List.{position_or_len}
use Rattle.std.proofs.lemmas.List.{map-append, length-map, take_more}
use Rattle.fed_dest.specs.List.{place_of}
use Rattle.fed_event.specs.Checked.{CheckedEvent}
use Rattle.fed_event.specs.Fields.{room_id_of}
use Rattle.fed_hub_serving.specs.declared.bound.Bound.{Bound}
use Rattle.fed_hub_serving.specs.Bound.{bound_of}
use Rattle.fed_hub_serving.proofs.bound.bound_for.Goals as goal

where_or_len : (ids : List (String Global)) (room : List ℕ) → position_or_len (λ (id : String Global). bytes_eq (string_bytes id) room) ids ≡ position_or_len (λ other. bytes_eq other room) (map string_bytes ids)
where_or_len [] room = refl
where_or_len (id ∷ ids) room = ap (λ k. cond (not (bytes_eq (string_bytes id) room)) (1 + k) 0) (where_or_len ids room)

-- the place of a room among the ids
place_named : (ids : List (String Global)) (room : List ℕ) → position (λ (id : String Global). bytes_eq (string_bytes id) room) ids ≡ place_of (map string_bytes ids) room
place_named ids room = λ i. cond (nat_lt (where_or_len ids room i) (sym (length-map ids string_bytes) i)) (Some (where_or_len ids room i)) None

pub loop-event-preserved : goal.loop-event-preserved
loop-event-preserved c =
    let known = map string_bytes c.args.known.now in
    let events = c.args.events.now in
    let k = c.loop-event.event-index in
    let event = c.event-item.result in
    let room : c.place_of-room.result ≡ place_of known (room_id_of event.event) =
    c.place_of-room.ensures ∙ ap (λ r. position (λ (id : String Global). bytes_eq (string_bytes id) r) c.args.known.now) (c.room_id.ensures ∙ ap room_id_of c.event.ensures.event) ∙ place_named c.args.known.now (room_id_of event.event) in
    let bound : ◌≡◌ {A = Bound} (record { room = c.place_of-room.result; event = c.in_ok-event.event }) (bound_of known event) = λ i. record { room = room i; event = c.in_ok-event.ensures i } in
    c.in_ok-push.ensures.items ∙ (λ i. c.loop-event.invariant i ++ bound i ∷ []) ∙ sym (map-append (bound_of known) (take k events) (event ∷ []))
    ∙ ap (λ (e : CheckedEvent). map (bound_of known) (take k events ++ e ∷ [])) c.event-item.is ∙ ap (map (bound_of known)) (sym (take_more events k event c.loop-event-test.true))
