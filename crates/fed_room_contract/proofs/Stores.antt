-- Events that wait, and what becomes of one that comes.
use Rattle.std.proofs.Common.{◌≡◌, ℕ, zero, suc, ◌<◌, List, [], ◌∷◌, length, Bool, true, false, ◌&&◌, ◌||◌, not, cond, if◌then◌else◌, nat_lt, Option, Some, None, IfSome, MatchOption, option_map, refl, sym, ap, ◌∙◌, subst, true≢false}
use Rattle.std.proofs.lemmas.Slice.Eq.{bytes_eq-Decides}
use Rattle.std.specs.List.{remove, slice_get, position}
use Rattle.fed_event.specs.Checked.{CheckedEvent}
use Rattle.fed_room_contract.specs.declared.receipt.Receipt.TheVariants as receipt
use Rattle.fed_room_contract.specs.declared.graph.Stored.{Stored}
use Rattle.fed_room_contract.specs.Graph.{IsGraph, is_stored, is_ready, stored_at}
use Rattle.fed_room_contract.specs.Room.{RoomState, Rules, event_id, is_of_id, is_known, without, none_stored, most_waiting, first_ready, receipt_of}
use Rattle.fed_room_contract.specs.Arrival.{IsFirstReady}
use Rattle.fed_room_contract.proofs.Positions.{find-position, find-no_position, position_below}
use Rattle.fed_room_contract.proofs.Rooms.{stored_is_ready}

-- ---- receipts

pub receipt_known : (rules : Rules) (room : RoomState) (event : CheckedEvent) → is_known room (event_id event) ≡ true → receipt_of rules room event ≡ receipt.Known
receipt_known rules room event known =
    ap (λ b. if b then receipt.Known else if is_ready room.stored event.event then receipt.Stored (rules.decide room.stored event) else if nat_lt (length room.waiting) most_waiting then receipt.Waiting else receipt.Dropped) known

pub receipt_ready : (rules : Rules) (room : RoomState) (event : CheckedEvent) → is_known room (event_id event) ≡ false → is_ready room.stored event.event ≡ true
    → receipt_of rules room event ≡ receipt.Stored (rules.decide room.stored event)
receipt_ready rules room event new ready =
    ap (λ b. if b then receipt.Known else if is_ready room.stored event.event then receipt.Stored (rules.decide room.stored event) else if nat_lt (length room.waiting) most_waiting then receipt.Waiting else receipt.Dropped) new
    ∙ ap (λ b. if b then receipt.Stored (rules.decide room.stored event) else if nat_lt (length room.waiting) most_waiting then receipt.Waiting else receipt.Dropped) ready

pub receipt_late : (rules : Rules) (room : RoomState) (event : CheckedEvent) (few : Bool) → is_known room (event_id event) ≡ false → is_ready room.stored event.event ≡ false
    → nat_lt (length room.waiting) most_waiting ≡ few → receipt_of rules room event ≡ (if few then receipt.Waiting else receipt.Dropped)
receipt_late rules room event few new late most =
    ap (λ b. if b then receipt.Known else if is_ready room.stored event.event then receipt.Stored (rules.decide room.stored event) else if nat_lt (length room.waiting) most_waiting then receipt.Waiting else receipt.Dropped) new
    ∙ ap (λ b. if b then receipt.Stored (rules.decide room.stored event) else if nat_lt (length room.waiting) most_waiting then receipt.Waiting else receipt.Dropped) late
    ∙ ap (λ b. if b then receipt.Waiting else receipt.Dropped) most

pub neither : (a b : Bool) → (a || b) ≡ false → a ≡ false
neither true b h = absurd (true≢false h)
neither false b h = refl

pub not_stored : (room : RoomState) (id : List ℕ) → is_known room id ≡ false → is_stored room.stored id ≡ false
not_stored room id h = neither (is_stored room.stored id) _ h

-- ---- one that is taken out

second : (a b : Bool) → (a && b) ≡ true → b ≡ true
second true b h = h
second false b h = absurd (true≢false (sym h))

-- the others are as far apart as before
pub apart-without : (xs : List Stored) (waiting : List CheckedEvent) (place : ℕ) → none_stored xs waiting ≡ true → none_stored xs (remove waiting place) ≡ true
apart-without xs [] zero h = h
apart-without xs [] (suc place) h = h
apart-without xs (e ∷ es) zero h = second (not (is_stored xs (event_id e))) _ h
apart-without xs (e ∷ es) (suc place) h = by (not (is_stored xs (event_id e))) h (apart-without xs es place)
  where
    by : (b : Bool) → (b && none_stored xs es) ≡ true → (none_stored xs es ≡ true → none_stored xs (remove es place) ≡ true) → (b && none_stored xs (remove es place)) ≡ true
    by true h later = later h
    by false h later = absurd (true≢false (sym h))

-- without its id they are the same
pub without-taken : (waiting : List CheckedEvent) (place : ℕ) (event : CheckedEvent) → slice_get waiting place ≡ Some event → without (event_id event) (remove waiting place) ≡ without (event_id event) waiting
without-taken [] place event h = absurd (cc)
without-taken (e ∷ es) zero event h =
    let same : e ≡ event = cc in
    let own : is_of_id (event_id event) e ≡ true = (bytes_eq-Decides (event_id e) (event_id event)).1 (ap event_id same) in
    ap (λ b. cond (not b) (e ∷ without (event_id event) es) (without (event_id event) es)) (sym own)
without-taken (e ∷ es) (suc place) event h =
    ap (λ ys. cond (not (is_of_id (event_id event) e)) (e ∷ ys) ys) (without-taken es place event h)

-- ---- what is found

-- an event that is stored is ready
pub found_ready : {A : Type 0} (now : A → Stored) (xs : List Stored) (id : List ℕ) (found : Option A) → IsGraph xs → option_map now found ≡ stored_at xs id
    → IfSome found (λ s. is_ready xs (now s).event.event ≡ true)
found_ready now xs id None graph h = tt
found_ready now xs id (Some s) graph h = stored_is_ready xs id (now s) graph (sym h)

-- the place of the first event that is ready
pub first_place : (room : RoomState) (place : Option ℕ) → place ≡ position (λ event. is_ready room.stored event.event) room.waiting → MatchOption place (first_ready room ≡ None) (IsFirstReady room)
first_place room None h = find-no_position (λ event. is_ready room.stored event.event) room.waiting (sym h)
first_place room (Some i) h = record {
  within = subst (λ (o : Option ℕ). IfSome o (λ k. k < length room.waiting)) (sym h) (position_below (λ event. is_ready room.stored event.event) room.waiting);
  first = find-position (λ event. is_ready room.stored event.event) room.waiting i (sym h);
}
