-- What of what an outbox accepted is not found in the journal yet: events, EDUs and perhaps the end, each kind in order.
use Rattle.std.specs.Prelude.{List, ◌∷◌, Bool, true, false, not, ◌&&◌, Option, Some, None, drop}
use Rattle.serde_json.specs.Data.{Data}
use Rattle.fed_event.specs.Checked.{CheckedEvent}
use Rattle.fed_journal.specs.declared.parcel.Load.{Load}
use Rattle.fed_journal.specs.declared.parcel.Load.TheVariants.{Event, Edu, End}
use Rattle.fed_outbox.specs.Outbox.{OutboxState, accepted, accepted_edus, is_empty}
use Rattle.fed_hub_kept.specs.declared.left.Left.{Left}

pub record LeftState : Type 0 where
  pub events : List CheckedEvent
  pub edus : List Data
  pub has_end : Bool

abbrev pub left_in : Left → LeftState
left_in l = record { events = l.events.now; edus = l.edus.now; has_end = l.has_end }

-- all that an outbox accepted
abbrev pub all_of : OutboxState → LeftState
all_of o = record { events = accepted o; edus = accepted_edus o; has_end = o.has_end }

abbrev pub is_nothing : LeftState → Bool
is_nothing l = is_empty l.events && (is_empty l.edus && not l.has_end)

-- with this as the first of its kind
abbrev pub with_first : Option Load → LeftState → LeftState
with_first None l = l
with_first (Some (Event event)) l = record { events = event ∷ l.events; edus = l.edus; has_end = l.has_end }
with_first (Some (Edu edu)) l = record { events = l.events; edus = edu ∷ l.edus; has_end = l.has_end }
with_first (Some End) l = record { events = l.events; edus = l.edus; has_end = true }

-- without the first of its kind
abbrev pub without_first : Option Load → LeftState → LeftState
without_first None l = l
without_first (Some (Event event)) l = record { events = drop 1 l.events; edus = l.edus; has_end = l.has_end }
without_first (Some (Edu edu)) l = record { events = l.events; edus = drop 1 l.edus; has_end = l.has_end }
without_first (Some End) l = record { events = l.events; edus = l.edus; has_end = false }
