-- What a collect does to what its thread holds: at most one parcel comes over the wire, and none is lost. That is this project's own.
use Rattle.std.specs.Prelude.{◌≡◌, ◌+◌, ◌++◌, ◌∷◌, [], true, false, length, Option, Some, None}
use Rattle.fed_journal.specs.declared.parcel.Parcel.{Parcel}
use Rattle.fed_journal.specs.Loads.{is_end}
use Rattle.fed_outbox.specs.declared.fault.OutboxFault.{OutboxFault}
use Rattle.fed_outbox.specs.declared.fault.OutboxFault.TheVariants as fault
use Rattle.fed_outbox.specs.Outbox.{OutboxState}
use Rattle.fed_hub_state.specs.Sections.{IsCollected, IsRefused}
use Rattle.fed_hub.specs.declared.collected.Collected.{Collected}
use Rattle.fed_hub.specs.declared.collected.Collected.TheVariants.{Moved, Nothing, Closed, Memory}
use Rattle.fed_hub.specs.Held.{Held}

-- with a parcel that came in hand; with one that was there before; with the other end gone; and with the parcel in hand moved into the outbox
abbrev pub with_parcel : Held → Parcel → Held
with_parcel h parcel = record h { received = h.received ++ parcel ∷ []; hand = Some parcel }

abbrev pub with_hand : Held → Parcel → Held
with_hand h parcel = record h { hand = Some parcel }

abbrev pub with_gone : Held → Held
with_gone h = record h { gone = true }

abbrev pub with_moved : Held → Parcel → Held
with_moved h parcel = record h { hand = None; ended = is_end parcel.load }

-- a parcel is in hand: it was there before, or it came, as the next that was sent
pub data IsInHand (old : Held) (parcel : Parcel) : Held → Type 0 where
  stayed : old.hand ≡ Some parcel → IsInHand old parcel old
  came : old.hand ≡ None → old.ended ≡ false → parcel.place.number ≡ length old.received + 1 → IsInHand old parcel (with_parcel old parcel)

-- none is: the end was moved before, or the wire held none
pub data HasNone (old : Held) : Collected → Held → Type 0 where
  ended_before : old.hand ≡ None → old.ended ≡ true → HasNone old Closed old
  found_gone : old.hand ≡ None → old.ended ≡ false → HasNone old Closed (with_gone old)
  found_none : old.hand ≡ None → old.ended ≡ false → HasNone old Nothing old

-- what is told where no parcel is in hand
abbrev pub TakesOut : Held → Option Collected → Held → Type 0
TakesOut old None new = (parcel : Parcel) × IsInHand old parcel new
TakesOut old (Some told) new = HasNone old told new

-- The parcel in hand is moved into the outbox, or stays in hand: the outbox does not accept it, or memory ran out.
pub data Collects (old : Held) : Collected → Held → Type 0 where
  none : (told : Collected) (new : Held) → HasNone old told new → Collects old told new
  moved : (parcel : Parcel) (held : Held) → IsInHand old parcel held → Collects old Moved (with_moved held parcel)
  refused : (parcel : Parcel) (held : Held) → IsInHand old parcel held → Collects old Closed held
  no_memory : (parcel : Parcel) (held : Held) → IsInHand old parcel held → Collects old Memory held

-- what is told of a parcel that is not accepted for this reason
abbrev pub told_of : OutboxFault → Collected
told_of fault.Memory = Memory
told_of (fault.WrongPlace number) = Closed
told_of fault.Ended = Closed

-- What is in hand is moved into the outbox, by the definition of that step; or it stays there, and the outbox is as it was, for that reason.
pub data MovesIn (outbox : OutboxState) (old : Held) : Collected → OutboxState → Held → Type 0 where
  accepted : (parcel : Parcel) (new : OutboxState) → old.hand ≡ Some parcel → IsCollected parcel outbox new → MovesIn outbox old Moved new (with_moved old parcel)
  not_accepted : (parcel : Parcel) (why : OutboxFault) → old.hand ≡ Some parcel → IsRefused parcel outbox why → MovesIn outbox old (told_of why) outbox old
