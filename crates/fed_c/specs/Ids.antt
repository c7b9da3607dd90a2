-- The ids of events as a JSON array gives them.
use Rattle.std.specs.Prelude.{List, Bool, is_some, if◌then◌else◌, Result, Ok, Err}
use Rattle.std.specs.List.{list_all}
use Rattle.serde_json.specs.Data.{Data}
use Rattle.serde_json.specs.Find.{as_str}
use Rattle.fed_json.specs.JsonRef.{as_items}
use Rattle.fed_event.specs.Tests.{holds}
use Rattle.fed_c.specs.declared.status.Status.{Status}
use Rattle.fed_c.specs.declared.status.Status.TheVariants.{BadIds}

-- each is a text
abbrev pub are_texts : List Data → Bool
are_texts items = list_all (λ item. is_some (as_str item)) items

-- the value is an array of texts
abbrev pub is_id_list : Data → Bool
is_id_list value = holds are_texts (as_items value)

abbrev pub ids_in : Data → Result Data Status
ids_in value = if is_id_list value then Ok value else Err BadIds
