-- What a `Received` stands for, and what one more element makes of it.
use Rattle.std.specs.Prelude.{ℕ, List, [], ◌∷◌, ◌++◌, ◌&&◌, not, is_some, is_none, if◌then◌else◌}
use Rattle.std.specs.FinMap as finite
use Rattle.serde_json.specs.Data.{Data}
use Rattle.serde_json.specs.Find.{as_object}
use Rattle.fed_inbox.specs.Elements.{read_as, element_id}
use Rattle.fed_event.specs.Keys.{Checks}
use Rattle.fed_event.specs.Checked.{CheckedEvent, checked_of}
use Rattle.fed_txn.specs.Verdicts.{VerdictMap}
use Rattle.fed_inbox.specs.declared.received.Received.{Received}
use Rattle.fed_inbox.specs.Taking.{verdict_on}

abbrev pub Entered : Type 0
Entered = VerdictMap × List CheckedEvent

abbrev pub received : Received → Entered
received r = (r.verdicts, r.fresh.items)

module _ (checks : Checks) (rooms : List (List ℕ)) where
  abbrev pub with_event : Entered → Data → Entered
  with_event so_far event = (
    finite.insert so_far.0 (element_id event) (verdict_on checks rooms event),
    if is_none (verdict_on checks rooms event) then so_far.1 ++ checked_of checks (read_as event) ∷ [] else so_far.1,
  )

  -- an object whose id has no verdict yet is entered
  abbrev pub after_element : Entered → Data → Entered
  after_element so_far element =
      if is_some (as_object element) && not (finite.contains_key so_far.0 (element_id element))
      then with_event so_far element
      else so_far
