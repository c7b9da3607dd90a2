-- An outbox over a list of calls.
use Rattle.std.specs.Prelude.{ℕ, zero, suc, ◌+◌, Bool, false, ◌==◌, ◌&&◌, if◌then◌else◌, List, [], ◌∷◌, ◌++◌, Option, Some, None}
use Rattle.std.specs.Option.{option_to_list}
use Rattle.std.specs.List.{filter_map}
use Rattle.serde_json.specs.Data.{Data}
use Rattle.fed_event.specs.Checked.{CheckedEvent}
use Rattle.fed_journal.specs.Place.{PlaceValue}
use Rattle.fed_journal.specs.declared.parcel.Parcel.{Parcel}
use Rattle.fed_journal.specs.Loads.{event_in_load, edu_in_load}
use Rattle.fed_outbox.specs.Outbox.{OutboxState, fits, with_load, cut, failed, settle, has_number}

-- a parcel comes, and memory is found for it or not; a transaction is cut now; the sending of transaction n failed now; transaction n is
-- answered with a status now
pub data Call : Type 0 where
  Accept : Parcel → Bool → Call
  Cut : ℕ → Call
  Failed : ℕ → ℕ → Call
  Settle : ℕ → ℕ → ℕ → Call

abbrev pub after_call : OutboxState → Call → OutboxState
after_call o (Accept parcel has_memory) = if fits o parcel.place && has_memory then with_load o parcel.load else o
after_call o (Cut now) = cut o now
after_call o (Failed n now) = failed o n now
after_call o (Settle n status now) = settle o n status now

-- the outbox after the calls, one after another
abbrev pub after : OutboxState → List Call → OutboxState
after o [] = o
after o (call ∷ calls) = after (after_call o call) calls

-- ---- what is accepted

-- the parcel that a call makes the outbox accept: one that fits, with memory
abbrev pub accepted_by : OutboxState → Call → Option Parcel
accepted_by o (Accept parcel has_memory) = if fits o parcel.place && has_memory then Some parcel else None
accepted_by o (Cut now) = None
accepted_by o (Failed n now) = None
accepted_by o (Settle n status now) = None

-- the parcels that calls make it accept, in order
abbrev pub accepted_parcels : OutboxState → List Call → List Parcel
accepted_parcels o [] = []
accepted_parcels o (call ∷ calls) = option_to_list (accepted_by o call) ++ accepted_parcels (after_call o call) calls

-- the events, and the EDUs, of parcels, in order
abbrev pub events_of : List Parcel → List CheckedEvent
events_of parcels = filter_map (λ parcel. event_in_load parcel.load) parcels

abbrev pub edus_of : List Parcel → List Data
edus_of parcels = filter_map (λ parcel. edu_in_load parcel.load) parcels

-- so many places of destination d, in order and without a gap, from number n on
abbrev pub places_from : ℕ → ℕ → ℕ → List PlaceValue
places_from d n zero = []
places_from d n (suc count) = record { dest = d; number = n } ∷ places_from d (n + 1) count

-- ---- what is settled

-- the call settles the unanswered transaction: it answers that one with 200
abbrev pub settles : OutboxState → Call → Bool
settles o (Accept parcel has_memory) = false
settles o (Cut now) = false
settles o (Failed n now) = false
settles o (Settle n status now) = has_number o.unanswered n && (status == 200)
