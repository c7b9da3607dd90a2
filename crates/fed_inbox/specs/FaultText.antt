-- Why an event is not handed on to its room, and the text of each verdict.
use Rattle.std.specs.Prelude.{ℕ, List, codes}
use Rattle.fed_event.specs.Verdict.{verdict_of}
use Rattle.fed_inbox.specs.declared.verdict.Fault.{Fault}
use Rattle.fed_inbox.specs.declared.verdict.Fault.TheVariants.{Event, BadSignature, UnknownRoom}

abbrev pub fault_text : Fault → List ℕ
fault_text (Event fault) = verdict_of fault
fault_text BadSignature = codes "bad signature"
fault_text UnknownRoom = codes "unknown room"
