use Rattle.std.proofs.Common.{◌≡◌, ◌++◌, All, map, take, drop}
use Rattle.serde_json.specs.View.{items_of}
use Rattle.fed_txn.specs.ArrayText.{completed}
use Rattle.fed_txn.specs.Writing.{pdus_text, event_of}
use Rattle.fed_txn.specs.WritingParts.{IsWrittenEvent}
use Rattle.fed_txn.proofs.writing.with_pdus.Given as goal

-- what is left completes the text
abbrev pub invariant-loop-event : goal.invariant-loop-event
invariant-loop-event l = record {
  text : completed l.array (items_of (map event_of (drop l.event-index l.pdus))) ≡ l.fn.text.items ++ pdus_text (map event_of l.pdus);
  each : All IsWrittenEvent (take l.event-index l.pdus);
}
