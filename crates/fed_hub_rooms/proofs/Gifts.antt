-- An event comes over the wire of a room, and is given to the room.
use Rattle.std.proofs.Common.{arith, ◌≡◌, ◌++◌, ◌∷◌, [], ℕ, List, Option, Some, Ok, Err, refl, sym, ap, ◌∙◌, append-nil}
use Rattle.fed_event.specs.Checked.{CheckedEvent}
use Rattle.fed_room_contract.specs.declared.applying.Applied.{Applied}
use Rattle.fed_room_contract.specs.declared.applying.Stopped.TheVariants.{NotReceived, Received}
use Rattle.fed_hub_state.specs.Applying.{EventIsApplied}
use Rattle.fed_hub_state.specs.KeptRoom.{KeptState}
use Rattle.fed_wires.specs.ReceiveEnd.{Receiver, with_received}
use Rattle.fed_hub_rooms.specs.declared.ran.Ran.TheVariants.{TurnsSpent, Memory}
use Rattle.fed_hub_rooms.specs.Access.{WhereKnown}
use Rattle.fed_hub_rooms.specs.RoomHeld.{RoomHeld}
use Rattle.fed_hub_rooms.specs.Turns.{GoesOn, not_given, not_received, not_all_stored, Became, RoomRuns}
use Rattle.fed_hub_rooms.proofs.Runs.{known_still, known_as}

-- what is held of an end that receives
abbrev pub token_of : ℕ → Receiver CheckedEvent → Option CheckedEvent → List CheckedEvent → RoomHeld
token_of room end hand given = record { room = room; received = end.received; gone = end.gone; hand = hand; given = given }

-- an event came over the wire
pub came : (room : ℕ) (end after : Receiver CheckedEvent) (hand : Option CheckedEvent) (given : List CheckedEvent) (event : CheckedEvent) → after ≡ with_received end event
    → GoesOn [] (token_of room end hand given) (token_of room after (Some event) given)
came room end after hand given event is = record { room = refl; received = (event ∷ [], sym (ap (λ (e : Receiver CheckedEvent). e.received) is)); given = sym (append-nil given) }

module _ (room : ℕ) (end : Receiver CheckedEvent) (hand : Option CheckedEvent) (given : List CheckedEvent) (event : CheckedEvent) where
  -- memory ran out before the room was asked
  pub not_asked : (given' : List CheckedEvent) (state : Option KeptState) → given' ≡ given → RoomRuns 1 (token_of room end hand given) state Memory (token_of room end (Some event) given') state
  not_asked given' state same = record {
    given = [];
    goes_on = record { room = refl; received = ([], append-nil end.received); given = same ∙ sym (append-nil given) };
    became = known_still (Became Memory (Some event) []) (λ _. not_given event refl refl) state;
    most = omega arith;
    ends = tt;
  }

  module _ (given' : List CheckedEvent) (old new : Option KeptState) (same : given' ≡ given) where
    -- the room did not receive it
    pub came_back : (back : CheckedEvent) → WhereKnown (λ a b. EventIsApplied event a (Err (NotReceived back)) b) old new → RoomRuns 1 (token_of room end hand given) old Memory (token_of room end (Some back) given') new
    came_back back so = record {
      given = [];
      goes_on = record { room = refl; received = ([], append-nil end.received); given = same ∙ sym (append-nil given) };
      became =
          known_as (λ a b. EventIsApplied event a (Err (NotReceived back)) b) (Became Memory (Some back) []) (λ a b p. not_received back a refl refl (refl, p.1, p.2)) old new so;
      most = omega arith;
      ends = tt;
    }

    module _ (told : Applied) (copy : CheckedEvent) (left : Option CheckedEvent) (noted : List CheckedEvent) (equal : copy ≡ event) (is : noted ≡ given' ++ copy ∷ []) where
      -- the room received it, and all that was then ready is stored
      pub all_stored : WhereKnown (λ a b. EventIsApplied event a (Ok told) b) old new → RoomRuns 1 (token_of room end hand given) old TurnsSpent (token_of room end left noted) new
      all_stored so = record {
        given = event ∷ [];
        goes_on = record { room = refl; received = ([], append-nil end.received); given = is ∙ (λ i. same i ++ equal i ∷ []) };
        became = known_as (λ a b. EventIsApplied event a (Ok told) b) (Became TurnsSpent left (event ∷ [])) (λ a b p. (told, b, p, refl)) old new so;
        most = omega arith;
        ends = refl;
      }

      -- the room received it, and some of what was then ready waits yet
      pub some_stored : WhereKnown (λ a b. EventIsApplied event a (Err (Received told)) b) old new → RoomRuns 1 (token_of room end hand given) old Memory (token_of room end left noted) new
      some_stored so = record {
        given = event ∷ [];
        goes_on = record { room = refl; received = ([], append-nil end.received); given = is ∙ (λ i. same i ++ equal i ∷ []) };
        became = known_as (λ a b. EventIsApplied event a (Err (Received told)) b) (Became Memory left (event ∷ [])) (λ a b p. not_all_stored [] event told a refl refl p) old new so;
        most = omega arith;
        ends = tt;
      }
