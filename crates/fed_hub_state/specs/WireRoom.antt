-- Room in the wires, by the credits in the hands of the ends that send.
use Rattle.std.specs.Prelude.{◌≡◌, ◌<◌, ◌≤◌, ℕ, List, length, Some, slice_get}
use Rattle.fed_journal.specs.declared.parcel.Parcel.{Parcel}
use Rattle.fed_wires.specs.SendEnd.{Sender, with_room}
use Rattle.fed_wires.specs.WireId.{WireId}
use Rattle.fed_hub_state.specs.declared.full_wire.FullWire.{FullWire}

-- an end took in credits, or none; nothing was sent
pub record HasTakenIn (was is : Sender Parcel) : Type 0 where
  pub same : is ≡ with_room was is.room
  pub more : was.room ≤ is.room

-- each of these ends did
pub record HaveTakenIn (old new : List (Sender Parcel)) : Type 0 where
  pub count : length new ≡ length old
  pub each : (d : ℕ) (is : Sender Parcel) → slice_get new d ≡ Some is → (was : Sender Parcel) × ((slice_get old d ≡ Some was) × HasTakenIn was is)

-- the wires to these destinations have room for a parcel
abbrev pub HaveRoom : (ℕ → Type 0) → List (Sender Parcel) → Type 0
HaveRoom To ends = (d : ℕ) (end : Sender Parcel) → To d → slice_get ends d ≡ Some end → 0 < end.room

-- the end of the wire to this destination has no credit in hand, and what shows it is of that wire and of one parcel
pub record WasFull (ends : List (Sender Parcel)) (full : FullWire) : Type 0 where
  pub end : Sender Parcel
  pub here : slice_get ends full.dest ≡ Some end
  pub none : end.room ≡ 0
  pub shown : full.no_room ≡ record { wire = end.wire; count = 1 }

-- the same, of the names of the wires
pub record IsFullOf (wires : List (WireId Parcel)) (full : FullWire) : Type 0 where
  pub within : full.dest < length wires
  pub wire : slice_get wires full.dest ≡ Some full.no_room.wire
  pub count : full.no_room.count ≡ 1
