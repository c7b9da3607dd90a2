-- What the clauses of private functions say of a value that was written, and of an event that was.
use Rattle.std.specs.Prelude.{◌≡◌, None, IsUtf8}
use Rattle.serde_json.specs.Data.{Data}
use Rattle.fed_json.specs.Profile.{IsProfile}
use Rattle.fed_json.specs.CanonicalText.{canonical_text}
use Rattle.fed_event.specs.Checked.{CheckedEvent}
use Rattle.fed_event.specs.Tests.{first_fault_of}

pub record IsWritten (d : Data) : Type 0 where
  pub profile : IsProfile d
  pub text : IsUtf8 (canonical_text d)

pub record IsWrittenEvent (c : CheckedEvent) : Type 0 where
  pub written : IsWritten c.event.value
  pub passes : first_fault_of c.event.value ≡ None
