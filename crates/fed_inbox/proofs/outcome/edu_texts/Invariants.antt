use Rattle.std.proofs.Common.{◌≡◌, ◌++◌, map, filter, drop}
use Rattle.fed_json.specs.CanonicalText.{canonical_text}
use Rattle.fed_journal.specs.Edu.{is_edu}
use Rattle.fed_inbox.proofs.outcome.edu_texts.Given as goal

-- what is written, and the texts of what is left
abbrev pub invariant-loop-element : goal.invariant-loop-element
invariant-loop-element l = l.texts ++ map canonical_text (filter is_edu (drop l.element-index l.element-items)) ≡ map canonical_text (filter is_edu l.element-items)
