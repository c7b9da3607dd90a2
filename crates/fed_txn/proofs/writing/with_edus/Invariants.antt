use Rattle.std.proofs.Common.{◌≡◌, ◌++◌, All, take, drop, codes}
use Rattle.serde_json.specs.View.{items_of}
use Rattle.fed_json.specs.CanonicalText.{canonical_text}
use Rattle.fed_txn.specs.ArrayText.{completed}
use Rattle.fed_txn.specs.Writing.{list_value}
use Rattle.fed_txn.specs.WritingParts.{IsWritten}
use Rattle.fed_txn.proofs.writing.with_edus.Given as goal

-- what is left completes the text
abbrev pub invariant-loop-edu : goal.invariant-loop-edu
invariant-loop-edu l = record {
  text : completed l.array (items_of (drop l.edu-index l.edus)) ≡ l.fn.text.items ++ (codes "\"edus\":" ++ canonical_text (list_value l.edus));
  each : All IsWritten (take l.edu-index l.edus);
}
