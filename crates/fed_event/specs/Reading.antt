-- Which event a value is, and bytes are (Matrix, Server-Server API, "Checks performed on receipt of a PDU", check 1; appendix
-- "Canonical JSON").
use Rattle.std.specs.Prelude.{ℕ, List, if◌then◌else◌, None, Result, Ok, Err, unwrap_or, option_map}
use Rattle.std.specs.Str.{is_utf8}
use Rattle.serde_json.specs.Data.{Data}
use Rattle.serde_json.specs.Read.{read as json_value}
use Rattle.fed_json.specs.Profile.{all_whole}
use Rattle.fed_event.specs.declared.fault.PduFault.{PduFault}
use Rattle.fed_event.specs.declared.fault.PduFault.TheVariants.{NotJson, NotCanonical}
use Rattle.fed_event.specs.Tests.{first_fault_of}

-- the value, where it passes every test, and else the fault of the first that it fails
abbrev pub event_of : Data → Result Data PduFault
event_of value = unwrap_or (option_map Err (first_fault_of value)) (Ok value)

-- a value whose numbers are all whole and in the range that a double holds exactly
abbrev pub canonical_event : Data → Result Data PduFault
canonical_event value = if all_whole value then event_of value else Err NotCanonical

-- the event of bytes that are UTF-8, JSON and canonical, and else the first fault
abbrev pub read_of : List ℕ → Result Data PduFault
read_of bytes = unwrap_or (option_map canonical_event (if is_utf8 bytes then json_value bytes else None)) (Err NotJson)
