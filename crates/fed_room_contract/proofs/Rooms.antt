-- Rooms that grow.
use Rattle.std.proofs.Common.{◌≡◌, ℕ, zero, suc, ◌<◌, ◌≤◌, List, [], ◌∷◌, ◌++◌, append_assoc, length, replicate, Bool, true, false, not, cond, if◌then◌else◌, Option, None, Some, is_some, option_map, refl, sym, ap, ◌∙◌, subst, arith, length-append, ◌+◌}
use Rattle.std.proofs.lemmas.List.{append-nil}
use Rattle.std.proofs.lemmas.Slice.Eq.{bytes_eq-Decides}
use Rattle.std.specs.List.{find}
use Rattle.fed_event.specs.Checked.{CheckedEvent}
use Rattle.fed_room_contract.specs.declared.verdict.Verdict.{Verdict}
use Rattle.fed_room_contract.specs.declared.verdict.Verdict.TheVariants.{Accepted}
use Rattle.fed_room_contract.specs.declared.receipt.Receipt.{Receipt}
use Rattle.fed_room_contract.specs.declared.receipt.Receipt.TheVariants as receipt
use Rattle.fed_room_contract.specs.declared.graph.Stored.{Stored}
use Rattle.fed_room_contract.specs.declared.input.Input.{Input}
use Rattle.fed_room_contract.specs.declared.input.Input.TheVariants.{Receive, Advance, Commit}
use Rattle.fed_room_contract.specs.Graph.{IsGraph, has_id, is_stored, is_ready, stored_at}
use Rattle.fed_room_contract.specs.Room.{RoomState, Rules, event_id, is_of_id, without, with_stored, receipt_of, after_receipt, first_ready, with_ready, advanced, committed}
use Rattle.fed_room_contract.specs.Runs.{after_input, room_after, IsAdvanced}
use Rattle.fed_room_contract.proofs.Graphs.{ready_stays}

abbrev pub Grows : RoomState → RoomState → Type 0
Grows old new = (more : List Stored) × (new.stored ≡ old.stored ++ more)

same : (room : RoomState) → Grows room room
same room = ([], sym (append-nil room.stored))

stored_one : (room : RoomState) (event : CheckedEvent) (verdict : Verdict) → Grows room (with_stored room event verdict)
stored_one room event verdict = ((record { event = event; verdict = verdict }) ∷ [], refl)

after_receipt_grows : (room : RoomState) (event : CheckedEvent) (r : Receipt) → Grows room (after_receipt room event r)
after_receipt_grows room event (receipt.Stored verdict) = stored_one room event verdict
after_receipt_grows room event receipt.Known = same room
after_receipt_grows room event receipt.Waiting = same room
after_receipt_grows room event receipt.Dropped = same room

with_ready_grows : (rules : Rules) (room : RoomState) (o : Option CheckedEvent) → Grows room (with_ready rules room o)
with_ready_grows rules room None = same room
with_ready_grows rules room (Some event) = stored_one room event (rules.decide room.stored event)

committed_grows : (room : RoomState) (event : CheckedEvent) → Grows room (committed room event)
committed_grows room event = elim (is_stored room.stored (event_id event)) as (λ b. Grows room (if b then room else with_stored room event Accepted)) [ true ↦ same room | false ↦ stored_one room event Accepted ]

input_grows : (rules : Rules) (room : RoomState) (input : Input) → Grows room (after_input rules room input)
input_grows rules room (Receive event) = after_receipt_grows room event (receipt_of rules room event)
input_grows rules room Advance = with_ready_grows rules room (first_ready room)
input_grows rules room (Commit event) = committed_grows room event

pub room_grows : (rules : Rules) (room : RoomState) (inputs : List Input) → Grows room (room_after rules room inputs)
room_grows rules room [] = same room
room_grows rules room (input ∷ inputs) =
    let one = input_grows rules room input in
    let rest = room_grows rules (after_input rules room input) inputs in
    (one.0 ++ rest.0, rest.1 ∙ ap (λ xs. xs ++ rest.0) one.1 ∙ append_assoc room.stored one.0 rest.0)

pub room_after-++ : (rules : Rules) (room : RoomState) (inputs more : List Input) → room_after rules room (inputs ++ more) ≡ room_after rules (room_after rules room inputs) more
room_after-++ rules room [] more = refl
room_after-++ rules room (input ∷ inputs) more = room_after-++ rules (after_input rules room input) inputs more

-- ---- a stored event is ready among those that are stored

standing : (xs : List Stored) (id : List ℕ) (s : Stored) → stored_at xs id ≡ Some s → (before : List Stored) × ((after : List Stored) × (xs ≡ before ++ s ∷ after))
standing [] id s h = absurd (cc)
standing (x ∷ xs) id s h = by (has_id id x) h (standing xs id s)
  where
    by : (b : Bool) → cond b (Some x) (stored_at xs id) ≡ Some s → (stored_at xs id ≡ Some s → (before : List Stored) × ((after : List Stored) × (xs ≡ before ++ s ∷ after)))
        → (before : List Stored) × ((after : List Stored) × (x ∷ xs ≡ before ++ s ∷ after))
    by true t more = let same : x ≡ s = cc in ([], (xs, ap (λ y. y ∷ xs) same))
    by false t more = let rest = more t in (x ∷ rest.0, (rest.1.0, ap (λ ys. x ∷ ys) rest.1.1))

pub stored_is_ready : (xs : List Stored) (id : List ℕ) (s : Stored) → IsGraph xs → stored_at xs id ≡ Some s → is_ready xs s.event.event ≡ true
stored_is_ready xs id s graph h =
    let at = standing xs id s h in
    subst (λ (ys : List Stored). is_ready ys s.event.event ≡ true) (sym at.1.1) (ready_stays at.0 (s ∷ at.1.0) s.event.event (graph.each at.0 s at.1.0 at.1.1).ready)

-- ---- an event that is stored waits no longer

pub fewer : (id : List ℕ) (xs : List CheckedEvent) → length (without id xs) ≤ length xs
fewer id [] = omega arith
fewer id (x ∷ xs) = let rest = fewer id xs in elim (not (is_of_id id x)) as (λ b. length (cond b (x ∷ without id xs) (without id xs)) ≤ length (x ∷ xs)) [ true ↦ omega arith | false ↦ omega arith ]

one_fewer : (p : CheckedEvent → Bool) (xs : List CheckedEvent) (event : CheckedEvent) → find p xs ≡ Some event → length (without (event_id event) xs) < length xs
one_fewer p [] event h = absurd (cc)
one_fewer p (x ∷ xs) event h = by (p x) h (one_fewer p xs event)
  where
    gone : is_of_id (event_id x) x ≡ true
    gone = (bytes_eq-Decides (event_id x) (event_id x)).1 refl

    kept : (b : Bool) (n m : ℕ) → n < m → length (cond b (x ∷ without (event_id event) xs) (without (event_id event) xs)) ≤ suc (length (without (event_id event) xs))
    kept true n m h = omega arith
    kept false n m h = omega arith

    by : (b : Bool) → cond b (Some x) (find p xs) ≡ Some event → (find p xs ≡ Some event → length (without (event_id event) xs) < length xs)
        → length (without (event_id event) (x ∷ xs)) < length (x ∷ xs)
    by true t more =
        let same : x ≡ event = cc in
        let rest = fewer (event_id x) xs in
        let here : length (without (event_id x) (x ∷ xs)) < length (x ∷ xs) = subst (λ b. length (cond (not b) (x ∷ without (event_id x) xs) (without (event_id x) xs)) < length (x ∷ xs)) (sym gone) (omega arith) in
        subst (λ (e : CheckedEvent). length (without (event_id e) (x ∷ xs)) < length (x ∷ xs)) same here
    by false t more = let less = more t in let most = kept (not (is_of_id (event_id event) x)) 0 1 (omega arith) in omega arith

pub advanced_waits_less : (rules : Rules) (room : RoomState) (event : CheckedEvent) → first_ready room ≡ Some event → length (advanced rules room).waiting < length room.waiting
advanced_waits_less rules room event h =
    subst (λ (o : Option CheckedEvent). length (with_ready rules room o).waiting < length room.waiting) (sym h) (one_fewer (λ e. is_ready room.stored e.event) room.waiting event h)

-- ---- rooms that advance

-- a room that advanced some times
abbrev pub HasAdvanced : Rules → RoomState → RoomState → Type 0
HasAdvanced rules old new = (times : ℕ) × IsAdvanced rules times old new

pub not_advanced : (rules : Rules) (room : RoomState) → HasAdvanced rules room room
not_advanced rules room = (0, record { after = refl; stored = omega arith })

again : (rules : Rules) (n : ℕ) (room : RoomState) → advanced rules (room_after rules room (replicate n Advance)) ≡ room_after rules room (replicate (suc n) Advance)
again rules zero room = refl
again rules (suc n) room = again rules n (advanced rules room)

-- what is told of the event that is ready first tells that there is one
ready_one : {X : Type 0} (f : CheckedEvent → X) (told : X) (room : RoomState) → Some told ≡ option_map f (first_ready room) → (event : CheckedEvent) × (first_ready room ≡ Some event)
ready_one f told room h = by (first_ready room) refl h
  where
    by : (o : Option CheckedEvent) → first_ready room ≡ o → Some told ≡ option_map f o → (event : CheckedEvent) × (first_ready room ≡ Some event)
    by (Some event) e t = (event, e)
    by None e t = absurd (cc)

one_stored : (rules : Rules) (room : RoomState) (event : CheckedEvent) → first_ready room ≡ Some event → length (advanced rules room).stored ≡ length room.stored + 1
one_stored rules room event h =
    let last : Stored = record { event = event; verdict = rules.decide room.stored event } in
    ap (λ (o : Option CheckedEvent). length (with_ready rules room o).stored) h ∙ length-append room.stored (last ∷ [])

pub advances_on : {X : Type 0} (f : CheckedEvent → X) (told : X) (rules : Rules) (old now new : RoomState) → HasAdvanced rules old now → new ≡ advanced rules now
    → Some told ≡ option_map f (first_ready now) → HasAdvanced rules old new
advances_on f told rules old now new h e some =
    let one = ready_one f told now some in
    let more = one_stored rules now one.0 one.1 in
    let len : length new.stored ≡ length (advanced rules now).stored = ap (λ (r : RoomState). length r.stored) e in
    let before : length now.stored ≡ length old.stored + h.0 = h.1.stored in
    (suc h.0, record { after = e ∙ ap (advanced rules) h.1.after ∙ again rules h.0 old; stored = omega arith })

pub waits_less : {X : Type 0} (f : CheckedEvent → X) (told : X) (rules : Rules) (room new : RoomState) → new ≡ advanced rules room → Some told ≡ option_map f (first_ready room)
    → length new.waiting < length room.waiting
waits_less f told rules room new e some =
    let one = ready_one f told room some in
    subst (λ (r : RoomState). length r.waiting < length room.waiting) (sym e) (advanced_waits_less rules room one.0 one.1)

none_advances : (rules : Rules) (room : RoomState) → first_ready room ≡ None → (n : ℕ) → room_after rules room (replicate n Advance) ≡ room
none_advances rules room none zero = refl
none_advances rules room none (suc n) = ap (λ r. room_after rules r (replicate n Advance)) (ap (with_ready rules room) none) ∙ none_advances rules room none n

-- where none is ready none becomes ready
pub none_is_left : (rules : Rules) (times : ℕ) (old new : RoomState) → IsAdvanced rules times old new → first_ready old ≡ None → is_some (first_ready new) ≡ true → false ≡ true
none_is_left rules times old new h none left = sym (ap (λ r. is_some (first_ready r)) (h.after ∙ none_advances rules old none times) ∙ ap is_some none) ∙ left

-- ---- one more input

pub one_more_input : (rules : Rules) (room : RoomState) (inputs : List Input) (input : Input) → room_after rules room (inputs ++ input ∷ []) ≡ after_input rules (room_after rules room inputs) input
one_more_input rules room inputs input = room_after-++ rules room inputs (input ∷ [])
