-- The events that the rooms of a world begin with, and the rooms that begin with them.
use Rattle.std.specs.Prelude.{◌≡◌, ℕ, List, [], Some, None, Ok, slice_get}
use Rattle.fed_redaction.specs.declared.version.Version.TheVariants.{V10}
use Rattle.fed_event.specs.Checked.{CheckedEvent}
use Rattle.fed_room_contract.specs.Room.{empty_room}
use Rattle.fed_room.specs.Creation.{started_of}
use Rattle.fed_room.specs.Room.{room_of, room_rules}
use Rattle.fed_room.specs.Start.{after_all, start_fault_of}
use Rattle.fed_sim.specs.declared.setup.RoomSetup.{RoomSetup}
use Rattle.fed_sim.specs.declared.starting.Start.{Start}
use Rattle.fed_sim.specs.Hosted.{HostedState}
use Rattle.fed_sim.specs.Offering.{signer_named}
use Rattle.fed_sim.specs.Setup.{id_of, users_of}

-- these are the events that the users of each room make at the servers of these names
abbrev pub AreStarts : List (List ℕ) → List RoomSetup → List Start → Type 0
AreStarts names setups starts =
    (k : ℕ) (start : Start) → slice_get starts k ≡ Some start → (setup : RoomSetup) → slice_get setups k ≡ Some setup → started_of signer_named names V10 (id_of setup) (users_of setup) ≡ Ok start.events.items

-- a room at a server of this name begins with these events: each is accepted and stored, and nothing waits in front of it
pub record IsBegunWith (own : List ℕ) (events : List CheckedEvent) (h : HostedState) : Type 0 where
  pub accepted : start_fault_of room_rules events ≡ None
  pub own_is : h.room.own ≡ own
  pub room_is : room_of h.room ≡ after_all room_rules empty_room events
  pub queue_is : h.queue ≡ []

abbrev pub AreBegun : List ℕ → List Start → List HostedState → Type 0
AreBegun own starts hosted =
    (k : ℕ) (h : HostedState) → slice_get hosted k ≡ Some h → (start : Start) → slice_get starts k ≡ Some start → IsBegunWith own start.events.items h

-- not all events of one of the rooms are accepted
pub record IsNotAccepted (starts : List Start) : Type 0 where
  pub place : ℕ
  pub start : Start
  pub start_is : slice_get starts place ≡ Some start
  pub refused : ¬ (start_fault_of room_rules start.events.items ≡ None)
