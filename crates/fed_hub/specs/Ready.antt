-- What is made ready for an event, or for an EDU, before the journal is locked.
use Rattle.std.specs.Prelude.{◌≡◌, ◌<◌, ℕ, List, Result, Ok}
use Rattle.std.specs.List.{All}
use Rattle.std.specs.List.Sorted.{IsStrictlyIncreasing}
use Rattle.std.specs.declared.alloc.AllocError.{AllocError}
use Rattle.serde_json.specs.Data.{Data}
use Rattle.fed_dest.specs.Joined.{AreDestinations}
use Rattle.fed_event.specs.EventId.{event_id_of}
use Rattle.fed_hub_state.specs.Spreading.{AreAll, dests_of}
use Rattle.fed_hub_told.specs.Told.{ToldState}
use Rattle.fed_journal.specs.declared.offered.Offered.TheVariants as offered
use Rattle.fed_journal.specs.Offered.{load_of}
use Rattle.fed_room_contract.specs.Draft.{DraftFields}
use Rattle.fed_room_contract.specs.declared.graph.Stored.{Stored}
use Rattle.fed_room_contract.specs.Prepared.{PreparedEvent}
use Rattle.fed_hub.specs.declared.ready.Ready.{Ready}
use Rattle.fed_hub.specs.declared.ready.ReadyEdu.{ReadyEdu}

-- the event that was prepared of the draft, equal ones, its id, and a load for each of these destinations
pub record IsReadyFor (prepared : PreparedEvent) (dests : List ℕ) (draft : DraftFields) (r : Ready) : Type 0 where
  pub same_draft : r.draft ≡ draft
  pub id : r.event_id ≡ event_id_of prepared.event.event
  pub other_id : r.same_id ≡ r.event_id
  pub event : r.outgoing.prepared ≡ prepared
  pub offered : r.outgoing.offered ≡ offered.Event prepared.event
  pub input : r.outgoing.input ≡ prepared.event
  pub reached : r.outgoing.dests ≡ dests
  pub rising : IsStrictlyIncreasing dests
  pub loads : dests_of r.outgoing.loads.items ≡ dests
  pub equal : AreAll (load_of r.outgoing.offered) r.outgoing.loads.items

-- it goes to the listed servers that it is to be sent to by the state before it, and the client has room for what it will be told
pub record IsReady (events : List Stored) (servers : List (List ℕ)) (own wires : ℕ) (prepared : PreparedEvent) (draft : Result DraftFields AllocError) (told : ToldState) (r : Ready) : Type 0 where
  pub same_draft : draft ≡ Ok r.draft
  pub destinations : AreDestinations events prepared.before servers own r.outgoing.dests
  pub within : All (λ d. d < wires) r.outgoing.dests
  pub made : IsReadyFor prepared r.outgoing.dests r.draft r
  pub room : 0 < told.free_events

-- the loads of an EDU for these destinations, and equal ones of both
pub record IsEduReady (edu : Data) (dests : List ℕ) (r : ReadyEdu) : Type 0 where
  pub loads : dests_of r.loads.items ≡ dests
  pub equal : AreAll (load_of (offered.Edu edu)) r.loads.items
  pub other : r.same_edu ≡ edu
  pub others : r.same_dests ≡ dests
