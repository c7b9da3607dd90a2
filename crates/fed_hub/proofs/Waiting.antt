-- Ends of wires that are given to the threads of their destinations, one after another.
use Rattle.std.proofs.Common.{arith, ◌≡◌, ◌==◌, not, cond, true, false, Bool, ℕ, zero, suc, ◌+◌, List, [], ◌∷◌, ◌++◌, filter, map, Option, Some, None, length, length-append, refl, sym, ap, ◌∙◌, subst, append-nil}
use Rattle.std.specs.List.{slice_get, range_with_len}
use Rattle.std.specs.Option.{option_map}
use Rattle.std.proofs.lemmas.List.Elements.{filter-append}
use Rattle.std.proofs.lemmas.List.{map-append}
use Rattle.std.proofs.lemmas.Option.{slice_get-map}
use Rattle.fed_wires.specs.ReceiveEnd.{Receiver, new_receiver}
use Rattle.fed_wires.specs.WireId.{WireId}
use Rattle.fed_hub_state.proofs.Shuts.{one_number_more}
use Rattle.fed_hub.specs.Held.{held_new}
use Rattle.fed_hub_rooms.specs.RoomHeld as room
use Rattle.fed_hub.specs.Tokens.{rooms_new, senders_new}
use Rattle.fed_hub.specs.Wires.{new_receivers}

-- an end is a new one of the wire of this place
pub record IsNewOf {T : Type 0} (wires : List (WireId T)) (place : ℕ) (r : Receiver T) : Type 0 where
  pub wire : slice_get wires place ≡ Some r.wire
  pub new : r ≡ new_receiver r.wire

-- those that are left, the first of which is of this place
abbrev pub AreWaiting : {T : Type 0} → List (WireId T) → ℕ → List (Receiver T) → Type 0
AreWaiting {T} wires place ends = (k : ℕ) (r : Receiver T) → slice_get ends k ≡ Some r → IsNewOf wires (place + k) r

new_at : {T : Type 0} (wires : List (WireId T)) (k : ℕ) (r : Receiver T) → (o : Option (WireId T)) → slice_get wires k ≡ o → option_map (λ (w : WireId T). new_receiver w) o ≡ Some r → IsNewOf wires k r
new_at wires k r None at is = absurd (cc)
new_at {T} wires k r (Some w) at is =
    let same : new_receiver w ≡ r = cc in
    record { wire = at ∙ ap (λ (x : Receiver T). Some x.wire) same; new = sym same ∙ ap (λ (x : Receiver T). new_receiver x.wire) same }

pub all_waiting : {T : Type 0} (wires : List (WireId T)) → AreWaiting wires 0 (new_receivers wires)
all_waiting {T} wires k r at =
    let same : k ≡ 0 + k = omega arith in
    subst (λ n. IsNewOf wires n r) same (new_at wires k r (slice_get wires k) refl (sym (slice_get-map (λ (w : WireId T). new_receiver w) wires k) ∙ at))

pub first_waiting : {T : Type 0} (wires : List (WireId T)) (place : ℕ) (r : Receiver T) (ends : List (Receiver T)) → AreWaiting wires place (r ∷ ends) → IsNewOf wires place r
first_waiting wires place r ends are =
    let same : place + zero ≡ place = omega arith in
    subst (λ n. IsNewOf wires n r) same (are zero r refl)

pub others_waiting : {T : Type 0} (wires : List (WireId T)) (place : ℕ) (r : Receiver T) (ends : List (Receiver T)) → AreWaiting wires place (r ∷ ends) → AreWaiting wires (place + 1) ends
others_waiting wires place r ends are k t at =
    let same : place + suc k ≡ place + 1 + k = omega arith in
    subst (λ n. IsNewOf wires n t) same (are (suc k) t at)

-- a token for one server more, where it is not the own one
senders_more : (place own : ℕ) → senders_new (suc place) own ≡ senders_new place own ++ map (λ (dest : ℕ). held_new dest) (cond (not (place == own)) (place ∷ []) [])
senders_more place own =
    let same : 0 + place ≡ place = omega arith in
    ap (λ xs. map (λ (dest : ℕ). held_new dest) (filter (λ dest. not (dest == own)) xs)) (one_number_more 0 place ∙ ap (λ n. range_with_len 0 place ++ n ∷ []) same)
    ∙ ap (map (λ (dest : ℕ). held_new dest)) (filter-append (λ dest. not (dest == own)) (range_with_len 0 place) (place ∷ []))
    ∙ map-append (λ (dest : ℕ). held_new dest) (filter (λ dest. not (dest == own)) (range_with_len 0 place)) (cond (not (place == own)) (place ∷ []) [])

pub one_sender_more : (place own : ℕ) → not (place == own) ≡ true → senders_new (place + 1) own ≡ senders_new place own ++ held_new place ∷ []
one_sender_more place own is =
    let on : place + 1 ≡ suc place = omega arith in
    ap (λ n. senders_new n own) on ∙ senders_more place own ∙ ap (λ (b : Bool). senders_new place own ++ map (λ (dest : ℕ). held_new dest) (cond b (place ∷ []) [])) is

pub no_sender_more : (place own : ℕ) → not (place == own) ≡ false → senders_new (place + 1) own ≡ senders_new place own
no_sender_more place own is =
    let on : place + 1 ≡ suc place = omega arith in
    ap (λ n. senders_new n own) on ∙ senders_more place own ∙ ap (λ (b : Bool). senders_new place own ++ map (λ (dest : ℕ). held_new dest) (cond b (place ∷ []) [])) is ∙ append-nil (senders_new place own)

-- a token for one room more
pub one_room_more : (place : ℕ) → rooms_new (place + 1) ≡ rooms_new place ++ room.held_new place ∷ []
one_room_more place =
    let on : place + 1 ≡ suc place = omega arith in
    let same : 0 + place ≡ place = omega arith in
    ap rooms_new on ∙ ap (map (λ (n : ℕ). room.held_new n)) (one_number_more 0 place ∙ ap (λ n. range_with_len 0 place ++ n ∷ []) same)
    ∙ map-append (λ (n : ℕ). room.held_new n) (range_with_len 0 place) (place ∷ [])

pub one_longer : (tokens more : List room.RoomHeld) (token : room.RoomHeld) → more ≡ tokens ++ token ∷ [] → length more ≡ length tokens + 1
one_longer tokens more token is = ap length is ∙ length-append tokens (token ∷ [])

pub token_behind : (tokens more : List room.RoomHeld) (token : room.RoomHeld) (place : ℕ) → more ≡ tokens ++ token ∷ [] → token ≡ room.held_new place → place ≡ length tokens
    → tokens ≡ rooms_new (length tokens) → more ≡ rooms_new (length more)
token_behind tokens more token place is new at are =
    let longer = one_longer tokens more token is in
    is ∙ ap (λ (t : room.RoomHeld). tokens ++ t ∷ []) (new ∙ ap room.held_new at) ∙ ap (λ (ts : List room.RoomHeld). ts ++ room.held_new (length tokens) ∷ []) are
    ∙ sym (one_room_more (length tokens)) ∙ ap rooms_new (sym longer)
