-- What a world is after a list of steps.
use Rattle.std.specs.Prelude.{◌≡◌, ℕ, false, List, [], Some, None, Ok, length, map, slice_get, string_bytes}
use Rattle.std.specs.List.Sorted.{IsPermutation}
use Rattle.fed_redaction.specs.declared.version.Version.TheVariants.{V10}
use Rattle.fed_event.specs.Checked.{CheckedEvent}
use Rattle.fed_room_contract.specs.Room.{empty_room}
use Rattle.fed_room.specs.Creation.{started_of}
use Rattle.fed_room.specs.Room.{room_of, room_rules}
use Rattle.fed_room.specs.Start.{after_all, start_fault_of}
use Rattle.fed_dest.specs.ListParts.{AreInOrder}
use Rattle.fed_sim.specs.declared.outcome.Outcome.{Outcome}
use Rattle.fed_sim.specs.declared.setup.RoomSetup.{RoomSetup}
use Rattle.fed_sim.specs.declared.setup.Setup.{Setup}
use Rattle.fed_sim.specs.declared.step.Step.{Step}
use Rattle.fed_sim.specs.Hosted.{HostedState}
use Rattle.fed_sim.specs.NewServer.{IsNewServer}
use Rattle.fed_sim.specs.Offering.{signer_named}
use Rattle.fed_sim.specs.Server.{ServerState}
use Rattle.fed_sim.specs.Setup.{id_of, users_of, is_setup}
use Rattle.fed_sim.specs.Steps.{ReachedInPart, Makes, Ran}
use Rattle.fed_sim.specs.World.{WorldState}

-- a room starts with these events, which its users make at the servers of these names: each of them is accepted
pub record StartsWith (names : List (List ℕ)) (setup : RoomSetup) (events : List CheckedEvent) : Type 0 where
  pub made : started_of signer_named names V10 (id_of setup) (users_of setup) ≡ Ok events
  pub accepted : start_fault_of room_rules events ≡ None

-- a room as it begins at a server of this name: the events that it starts with are stored, and nothing waits in front of it
pub record IsBegun (names : List (List ℕ)) (own : List ℕ) (setup : RoomSetup) (h : HostedState) : Type 0 where
  pub events : List CheckedEvent
  pub starts : StartsWith names setup events
  pub own_is : h.room.own ≡ own
  pub room_is : room_of h.room ≡ after_all room_rules empty_room events
  pub queue_is : h.queue ≡ []

-- the server at a place as it begins, with each of the rooms
pub record IsBeginning (names known : List (List ℕ)) (setups : List RoomSetup) (place : ℕ) (s : ServerState) : Type 0 where
  pub hosted : List HostedState
  pub count : length hosted ≡ length setups
  pub new : IsNewServer names known place hosted s
  pub begun : (k : ℕ) (h : HostedState) → slice_get hosted k ≡ Some h → (setup : RoomSetup) → slice_get setups k ≡ Some setup → IsBegun names new.name setup h

-- a world that begins with a setup: the servers in the order of their names, and nothing was sent
pub record Begins (setup : Setup) (w : WorldState) : Type 0 where
  pub names : IsPermutation setup.servers.items w.names
  pub order : AreInOrder w.names
  pub known : w.known ≡ map (λ (r : RoomSetup). string_bytes r.id) setup.rooms.items
  pub epoch : w.epoch ≡ setup.epoch
  pub count : length w.servers ≡ length w.names
  pub servers : (k : ℕ) (s : ServerState) → slice_get w.servers k ≡ Some s → IsBeginning w.names w.known setup.rooms.items k s
  pub packets : w.packets ≡ []
  pub now : w.now ≡ 0

-- one of the rooms starts with no events
pub record HasNoStart (names : List (List ℕ)) (setups : List RoomSetup) : Type 0 where
  pub place : ℕ
  pub setup : RoomSetup
  pub setup_is : slice_get setups place ≡ Some setup
  pub none : (events : List CheckedEvent) → ¬ (StartsWith names setup events)

-- Why no world begins with a setup: the names make no list, or a room has a fault; or the names make one, and a room starts with no events.
pub data CannotBegin (setup : Setup) : Type 0 where
  no_setup : is_setup setup ≡ false → CannotBegin setup
  no_start : (names : List (List ℕ)) → IsPermutation setup.servers.items names → AreInOrder names → HasNoStart names setup.rooms.items → CannotBegin setup

-- the world after the steps, and what was told of each
pub record IsRun (setup : Setup) (steps : List Step) (replies : List Outcome) (new : WorldState) : Type 0 where
  pub begin : WorldState
  pub begins : Begins setup begin
  pub ran : Ran begin steps replies new

-- A world that comes of a run: by some steps, from the beginning of some setup, or by some of those that a round of calm is made of, as within one.
pub data ComesOfRun : WorldState → Type 0 where
  begins_run : (setup : Setup) (w : WorldState) → Begins setup w → ComesOfRun w
  by_step : (step : Step) (old : WorldState) (told : Outcome) (new : WorldState) → ComesOfRun old → Makes step old told new → ComesOfRun new
  within_round : (old new : WorldState) → ComesOfRun old → ReachedInPart old new → ComesOfRun new
