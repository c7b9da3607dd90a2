-- How what a server offers goes over the wires to its destinations (Matrix, Server-Server API, "PDUs" and "EDUs"). The standard says nothing of
-- wires, over which parcels go from a journal to its outboxes.
use Rattle.std.specs.Prelude.{◌≡◌, ◌<◌, ℕ, true, List, [], ◌∷◌, ◌++◌, length, map, Some, None, slice_get, if◌then◌else◌}
use Rattle.std.specs.Option.{option_to_list}
use Rattle.fed_dest.specs.ServerSet.{is_among}
use Rattle.fed_journal.specs.declared.entry.Cause.TheVariants.{Lost}
use Rattle.fed_journal.specs.declared.entry.Entry.{Entry}
use Rattle.fed_journal.specs.declared.entry.Entry.TheVariants.{Close}
use Rattle.fed_journal.specs.declared.parcel.Load.{Load}
use Rattle.fed_journal.specs.declared.parcel.Parcel.{Parcel}
use Rattle.fed_journal.specs.Journal.{JournalState, is_closed, is_lost, next_place, parcels, with_entry}
use Rattle.fed_journal.specs.Place.{PlaceValue}
use Rattle.fed_journal.specs.Queues.{parcel_to}
use Rattle.fed_wires.specs.SendEnd.{Sender, with_sent, with_returned}
use Rattle.fed_wires.specs.WireId.{WireId}
use Rattle.fed_hub_state.specs.declared.unplaced.Unplaced.{Unplaced}

-- a load goes to a destination: not where its outbox is closed; else at the next place, or its parcel comes back and the outbox is lost
pub data PassesOn (d : ℕ) (load : Load) (journal : JournalState) (end : Sender Parcel) : JournalState → Sender Parcel → Type 0 where
  shut : is_closed journal.entries d ≡ true → PassesOn d load journal end journal end
  sent : (place : PlaceValue) → next_place journal.entries d ≡ Some place → PassesOn d load journal end journal (with_sent end (record { place = place; load = load }))
  back : (place : PlaceValue) → next_place journal.entries d ≡ Some place → PassesOn d load journal end (with_entry journal (Close d Lost)) (with_returned end)

-- over the wire to d went just these parcels; where the outbox of d is lost, one came back
pub record HasSent (wires : List (WireId Parcel)) (entries : List Entry) (d : ℕ) (parcels : List Parcel) (end : Sender Parcel) : Type 0 where
  pub wire : slice_get wires d ≡ Some end.wire
  pub sent : end.sent ≡ parcels
  pub returned : is_lost entries d ≡ true → 0 < end.returned

-- over each wire went just what the journal places for its destination
pub record AreSent (wires : List (WireId Parcel)) (entries : List Entry) (ends : List (Sender Parcel)) : Type 0 where
  pub count : length ends ≡ length wires
  pub each : (d : ℕ) (end : Sender Parcel) → slice_get ends d ≡ Some end → HasSent wires entries d (parcels entries d) end

-- the same, and a load went to some servers too, as far as their outboxes are open
pub record AreSentTo (wires : List (WireId Parcel)) (entries : List Entry) (load : Load) (given : List ℕ) (ends : List (Sender Parcel)) : Type 0 where
  pub count : length ends ≡ length wires
  pub each : (d : ℕ) (end : Sender Parcel) → slice_get ends d ≡ Some end
      → HasSent wires entries d (parcels entries d ++ option_to_list (if is_among given d then parcel_to entries load d else None)) end

-- where loads go
abbrev pub dests_of : List Unplaced → List ℕ
dests_of loads = map (λ (u : Unplaced). u.dest) loads

-- all are this load
abbrev pub AreAll : Load → List Unplaced → Type 0
AreAll load [] = Unit {0}
AreAll load (u ∷ loads) = (u.load ≡ load) × AreAll load loads

-- the wires of the ends that send, and that nothing went over them
abbrev pub wires_of : List (Sender Parcel) → List (WireId Parcel)
wires_of ends = map (λ (end : Sender Parcel). end.wire) ends

abbrev pub AreUnused : List (Sender Parcel) → Type 0
AreUnused ends = (d : ℕ) (end : Sender Parcel) → slice_get ends d ≡ Some end → end.sent ≡ []
