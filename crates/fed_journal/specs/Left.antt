-- What the iterators over a journal have left.
use Rattle.std.specs.Prelude.{List}
use Rattle.serde_json.specs.Data.{Data}
use Rattle.fed_event.specs.Checked.{CheckedEvent}
use Rattle.fed_journal.specs.declared.left.Addressed.{Addressed}
use Rattle.fed_journal.specs.declared.left.AddressedEdus.{AddressedEdus}
use Rattle.fed_journal.specs.declared.left.Events.{Events}
use Rattle.fed_journal.specs.Journal.{event_in, edu_in, events_of}
use Rattle.fed_journal.specs.Standing.{what_stands}

-- the events that stand at the places that are left
abbrev pub addressed_left : Addressed → List CheckedEvent
addressed_left a = what_stands event_in a.entries.now a.places.now

abbrev pub addressed_edus_left : AddressedEdus → List Data
addressed_edus_left a = what_stands edu_in a.entries.now a.places.now

abbrev pub events_left : Events → List CheckedEvent
events_left e = events_of e.entries.now
