-- What clients were told, compared with the journal of their server: each event and each ephemeral data unit of the journal was told to one client,
-- with the number that it has there.
use Rattle.std.specs.Prelude.{◌≡◌, ℕ, List, length, map, flat_map, All, Option, Some, None, IsSomeAnd}
use Rattle.std.specs.List.{filter_map}
use Rattle.std.specs.List.Sorted.{IsStrictlyIncreasing}
use Rattle.serde_json.specs.Data.{Data}
use Rattle.fed_event.specs.Checked.{CheckedEvent}
use Rattle.fed_event.specs.EventId.{event_id_of}
use Rattle.fed_room_contract.specs.Draft.{Bears}
use Rattle.fed_journal.specs.declared.entry.Entry.{Entry}
use Rattle.fed_journal.specs.declared.entry.Entry.TheVariants.{Event, Edu, Close}
use Rattle.fed_journal.specs.Journal.{events_of}
use Rattle.fed_hub_told.specs.declared.told_event.ToldEvent.{ToldEvent}
use Rattle.fed_hub_told.specs.declared.told_edu.ToldEdu.{ToldEdu}
use Rattle.fed_hub_told.specs.Numbers.{AreEachOnce, numbered}
use Rattle.fed_hub_told.specs.Told.{ToldState}

-- the event has the id that was told, and the fields of the draft
pub record IsEventOf (told : ToldEvent) (event : CheckedEvent) : Type 0 where
  pub id : event_id_of event.event ≡ told.event_id
  pub bears : Bears told.draft event.event

-- an ephemeral data unit of a journal and its destinations, which are those that were told
pub record OfferedEdu : Type 0 where
  pub edu : Data
  pub dests : List ℕ

pub record IsEduOf (told : ToldEdu) (offered : OfferedEdu) : Type 0 where
  pub edu : offered.edu ≡ told.edu
  pub dests : offered.dests ≡ told.dests

abbrev pub offered_edu : Entry → Option OfferedEdu
offered_edu (Event event dests) = None
offered_edu (Edu edu dests) = Some (record { edu = edu; dests = dests })
offered_edu (Close dest cause) = None

abbrev pub offered_edus : List Entry → List OfferedEdu
offered_edus entries = filter_map offered_edu entries

-- Numbered things, as the events of a journal or its ephemeral data units, in order: what clients, or others, were told of them, with a number each.
module _ {T X : Type 0} (number : T → ℕ) (IsOf : T → X → Type 0) (things : List X) where
  -- the numbers that one client was told rise, and the thing of each number is the one that it was told of
  pub record IsClientAsTold (told : List T) : Type 0 where
    pub rising : IsStrictlyIncreasing (map number told)
    pub same : All (λ t. IsSomeAnd (numbered things (number t)) (IsOf t)) told

  -- that is so of each client, and over all clients the numbers are those of the things, each once
  pub record AreAsTold (clients : List (List T)) : Type 0 where
    pub each : All IsClientAsTold clients
    pub once : AreEachOnce (length things) (flat_map (map number) clients)

abbrev pub AreEventsAsTold : List ToldState → List Entry → Type 0
AreEventsAsTold told entries = AreAsTold (λ (t : ToldEvent). t.number) IsEventOf (events_of entries) (map (λ t. t.events) told)

abbrev pub AreEdusAsTold : List ToldState → List Entry → Type 0
AreEdusAsTold told entries = AreAsTold (λ (t : ToldEdu). t.number) IsEduOf (offered_edus entries) (map (λ t. t.edus) told)

-- of the events and of the ephemeral data units
pub record IsAsTold (told : List ToldState) (entries : List Entry) : Type 0 where
  pub events : AreEventsAsTold told entries
  pub edus : AreEdusAsTold told entries
