-- An event beside the room with its id, where there is one.
use Rattle.std.proofs.Common.{◌≡◌, ◌↔◌, ℕ, List, Option, Some, None, refl, sym, ap, ◌∙◌, subst}
use Rattle.fed_event.specs.Checked.{CheckedEvent}
use Rattle.fed_event.specs.Fields.{room_id_of}
use Rattle.fed_journal.specs.declared.entry.Entry.{Entry}
use Rattle.fed_journal.specs.declared.entry.Entry.TheVariants.{Event, Edu, Close}
use Rattle.fed_room.specs.Room.{room_of, room_rules}
use Rattle.fed_hub_state.specs.KeptRoom.{KeptState}
use Rattle.fed_hub_kept.specs.Sent.{IsSentAsStored, IsSentInItsRoom, IsEntrySent, room_at}

module _ (rooms : List KeptState) (servers : List (List ℕ)) (own : ℕ) (event : CheckedEvent) (dests : List ℕ) where
  abbrev IsSentIn : KeptState → Type 0
  IsSentIn room = IsSentAsStored room_rules (room_of room.room).stored servers own event dests

  pub sent_in : (room : KeptState) → room_at rooms (room_id_of event.event) ≡ Some room → IsSentIn room ↔ IsSentInItsRoom rooms servers own event dests
  sent_in room found = (
    (λ sent. record { room = room; found = found; sent = sent }),
    (λ is. subst IsSentIn (ap (or_room room) (sym is.found ∙ found)) is.sent),
  )
    where
      or_room : KeptState → Option KeptState → KeptState
      or_room room None = room
      or_room room (Some other) = other

  pub not_sent : room_at rooms (room_id_of event.event) ≡ None → ¬ IsSentInItsRoom rooms servers own event dests
  not_sent none is = let never : None ≡ Some is.room = sym none ∙ is.found in cc

-- another entry belongs to no room
pub other_sent : (rooms : List KeptState) (servers : List (List ℕ)) (own : ℕ) (entry : Entry) → ((event : CheckedEvent) (dests : List ℕ) → entry ≡ Event event dests → ⊥) → IsEntrySent rooms servers own entry
other_sent rooms servers own (Event event dests) other = absurd (other event dests refl)
other_sent rooms servers own (Edu edu dests) other = tt
other_sent rooms servers own (Close dest cause) other = tt
