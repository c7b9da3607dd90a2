-- The ids that an `EventIds` has left.
use Rattle.std.specs.Prelude.{ℕ, List, map}
use Rattle.fed_json.specs.Items.{left}
use Rattle.fed_event.specs.declared.event_ids.EventIds.{EventIds}
use Rattle.fed_event.specs.Fields.{text_in}

abbrev pub ids_left : EventIds → List (List ℕ)
ids_left ids = map text_in (left ids.items)
