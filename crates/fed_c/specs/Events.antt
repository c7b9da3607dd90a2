-- What the calls on the tests of an event tell (Matrix, Server-Server API, "Checks performed on receipt of a PDU", check 1).
use Rattle.std.specs.Prelude.{◌≡◌, ◌≢◌, ℕ, List, [], Option, Some, None, option_map, unwrap_or, Result, Ok, Err}
use Rattle.serde_json.specs.Data.{Data}
use Rattle.fed_event.specs.declared.field.Field.{Field}
use Rattle.fed_event.specs.declared.field.Field.TheVariants.{Event, AuthEvents, Content, Depth, Hashes, OriginServerTs, PrevEvents, RoomId, Sender, Signatures, StateKey, «Type»}
use Rattle.fed_event.specs.declared.fault.PduFault.{PduFault}
use Rattle.fed_event.specs.declared.fault.PduFault.TheVariants as fault
use Rattle.fed_event.specs.Verdict.{verdict_of}
use Rattle.fed_c.specs.declared.status.Status.{Status}
use Rattle.fed_c.specs.declared.status.Status.TheVariants.{Done, Memory, NotJson, NotCanonical, TooDeep, MissingField, WrongKind, EventTooLarge, FieldTooLong, TooManyIds}
use Rattle.fed_c.specs.Status.{number_of}

-- the numbers that C sees (c/wikzord.h, `enum wikzord_field`)
abbrev pub field_number : Field → ℕ
field_number Event = 0
field_number AuthEvents = 1
field_number Content = 2
field_number Depth = 3
field_number Hashes = 4
field_number OriginServerTs = 5
field_number PrevEvents = 6
field_number RoomId = 7
field_number Sender = 8
field_number Signatures = 9
field_number StateKey = 10
field_number «Type» = 11

abbrev pub fault_status : PduFault → Status
fault_status fault.Memory = Memory
fault_status fault.NotJson = NotJson
fault_status fault.NotCanonical = NotCanonical
fault_status (fault.Missing field) = MissingField
fault_status (fault.WrongKind field) = WrongKind
fault_status fault.TooLarge = EventTooLarge
fault_status (fault.TooLong field) = FieldTooLong
fault_status (fault.TooMany field) = TooManyIds
fault_status fault.TooDeep = TooDeep

abbrev pub field_of : PduFault → Option Field
field_of fault.Memory = None
field_of fault.NotJson = None
field_of fault.NotCanonical = None
field_of (fault.Missing field) = Some field
field_of (fault.WrongKind field) = Some field
field_of fault.TooLarge = None
field_of (fault.TooLong field) = Some field
field_of (fault.TooMany field) = Some field
field_of fault.TooDeep = None

abbrev pub fault_in : Result Data PduFault → Option PduFault
fault_in (Ok event) = None
fault_in (Err fault) = Some fault

abbrev pub event_status : Option PduFault → Status
event_status None = Done
event_status (Some fault) = fault_status fault

-- the number that was there, unless the fault is one of a field
abbrev pub field_told : Option PduFault → ℕ → ℕ
field_told None before = before
field_told (Some fault) before = unwrap_or (option_map field_number (field_of fault)) before

-- the status of an event or of its first fault and, where that is one of a field, the field; or that memory ran out, and nothing is told
pub record TellsField (fault : Option PduFault) (status : ℕ) (field : ℕ × ℕ) : Type 0 where
  pub answered : status ≢ number_of Memory → status ≡ number_of (event_status fault)
  pub told : status ≢ number_of Memory → field.1 ≡ field_told fault field.0
  pub short_of_memory : status ≡ number_of Memory → field.1 ≡ field.0

-- the event, or the status of its fault
abbrev pub read_or_status : Result Data PduFault → Result Data Status
read_or_status (Ok event) = Ok event
read_or_status (Err fault) = Err (fault_status fault)

-- the text of the fault, where there is one
abbrev pub event_error : Result Data PduFault → List ℕ
event_error (Ok event) = []
event_error (Err fault) = verdict_of fault
