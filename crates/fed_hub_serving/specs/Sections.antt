-- What the sections do, by the definitions of the steps of a server.
use Rattle.std.specs.Prelude.{◌≡◌, ◌≢◌, ◌⊎◌, ℕ, List, [], ◌∷◌, ◌++◌, Option, Some, None, length, slice_get}
use Rattle.fed_event.specs.Checked.{CheckedEvent}
use Rattle.fed_keys.specs.Keys.{Checks}
use Rattle.fed_http.specs.Message.{RequestValue, Answer}
use Rattle.fed_inbox.specs.History.{Point}
use Rattle.fed_inbox.specs.Inbox.{InboxState}
use Rattle.fed_inbox.specs.Queues.{queues_after}
use Rattle.fed_inbox.specs.TakeStep.{IsTake}
use Rattle.fed_hub_serving.specs.declared.end_place.EndPlace.{EndPlace}
use Rattle.fed_hub_serving.specs.Brought.{end_place}
use Rattle.fed_hub_serving.specs.Serving.{ServingState}
use Rattle.fed_hub_serving.specs.Spreading.{IsFor}

module _ (checks : Checks) (known : List (List ℕ)) (request : RequestValue) where
  -- the step of a server to which the request comes, whatever is in the queues of its rooms
  abbrev pub Takes : InboxState → Answer → InboxState → List CheckedEvent → Type 0
  Takes old reply new fresh = (queues : List (List CheckedEvent)) → IsTake checks known old queues request reply new (queues_after known fresh queues)

-- an event that was brought for the room at place k came back, and there its wire ended
pub record EndsAt (known : List (List ℕ)) (points : ℕ) (fresh : List CheckedEvent) (k : ℕ) (old new : Option EndPlace) : Type 0 where
  pub events : ℕ
  pub event : CheckedEvent
  pub ran : old ≡ None
  pub there : slice_get fresh events ≡ Some event
  pub room : IsFor known k event
  pub ended : new ≡ Some (end_place points events)

-- each wire is ended where it was, or runs as it did, or ends at an event that the request brought
pub record EndAmong (known : List (List ℕ)) (points : ℕ) (fresh : List CheckedEvent) (old new : List (Option EndPlace)) : Type 0 where
  pub count : length new ≡ length old
  pub each : (k : ℕ) (was is : Option EndPlace) → slice_get old k ≡ Some was → slice_get new k ≡ Some is → (is ≡ was) ⊎ EndsAt known points fresh k was is

-- The request was answered, and the history is longer by it. What it brought went over the wires, up to where they ended.
pub record IsServed (checks : Checks) (known : List (List ℕ)) (request : RequestValue) (old : ServingState) (reply : Answer) (new : ServingState) : Type 0 where
  pub fresh : List CheckedEvent
  pub takes : Takes checks known request old.inbox reply new.inbox fresh
  pub points : new.points ≡ old.points ++ (record { request = request; reply = reply; fresh = fresh }) ∷ []
  pub ended : EndAmong known (length old.points) fresh old.ended new.ended
  pub shut : new.is_shut ≡ old.is_shut
  pub found : reply.status ≢ 500

-- So it was, and its number is the length of the history with it; or memory ran out, nothing changed, and it has no number.
pub data RequestIsTaken (checks : Checks) (known : List (List ℕ)) (request : RequestValue) (old : ServingState) (reply : Answer) (number : Option ℕ) : ServingState → Type 0 where
  no_memory : reply.status ≡ 500 → number ≡ None → Takes checks known request old.inbox reply old.inbox []
      → RequestIsTaken checks known request old reply number old
  served : (new : ServingState) → IsServed checks known request old reply new → number ≡ Some (length new.points)
      → RequestIsTaken checks known request old reply number new
