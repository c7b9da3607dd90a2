-- What the content hash covers of an event.
use Rattle.std.proofs.Common.{◌≡◌, ℕ, List, Bool, true, false, ◌&&◌, not, refl, sym, ap, ◌∙◌}
use Rattle.serde_json.specs.Data.{Data, null, boolean, number, string, array, object}
use Rattle.serde_json.specs.Find.{as_object}
use Rattle.std.specs.Prelude.{is_some}
use Rattle.fed_redaction.specs.Names.{is_one_of, leave_out}
use Rattle.fed_redaction.specs.declared.version.Version.{Version}
use Rattle.fed_redaction.specs.Redaction.{redacted_in}
use Rattle.fed_redaction.specs.ContentHash.{uncovered_keys, covered_part}
use Rattle.fed_redaction.specs.Laws.{AreUncovered}
use Rattle.fed_redaction.proofs.Selecting.{select-same, select-select}

both : (a b : Bool) → (a ≡ true → b ≡ true) → (not a && not b) ≡ not b
both true b h = ap not (sym (h refl))
both false b h = refl

pub covered_part-leave_out : (names : List (List ℕ)) (d : Data) → AreUncovered names → covered_part (leave_out names d) ≡ covered_part d
covered_part-leave_out names null h = refl
covered_part-leave_out names (boolean b) h = refl
covered_part-leave_out names (number n) h = refl
covered_part-leave_out names (string s) h = refl
covered_part-leave_out names (array ds) h = refl
covered_part-leave_out names (object ms) h =
    ap object (select-select (λ k. not (is_one_of uncovered_keys k)) (λ k. not (is_one_of names k)) ms
    ∙ select-same (λ k. not (is_one_of names k) && not (is_one_of uncovered_keys k)) (λ k. not (is_one_of uncovered_keys k)) (λ k. both (is_one_of names k) (is_one_of uncovered_keys k) (h k)) ms)

pub object-redacted : (version : Version) (d : Data) → is_some (as_object (redacted_in version d)) ≡ is_some (as_object d)
object-redacted version null = refl
object-redacted version (boolean b) = refl
object-redacted version (number n) = refl
object-redacted version (string s) = refl
object-redacted version (array ds) = refl
object-redacted version (object ms) = refl
