use Rattle.std.proofs.Common.{ℕ, List, sym, ap, ◌∙◌}
use Rattle.base64.specs.Engines.{standard_no_pad}
use Rattle.base64.specs.GeneralPurpose.{encode_of}
use Rattle.sha2.specs.Sha256.{sha256}
use Rattle.serde_json.specs.Data.{Data}
use Rattle.serde_json.specs.Find.{get}
use Rattle.fed_json.specs.CanonicalText.{canonical_text}
use Rattle.fed_redaction.specs.ContentHash.{uncovered_keys}
use Rattle.fed_redaction.proofs.Covering.{covered_part-leave_out}
use Rattle.fed_redaction.proofs.Redacting.{get-leave_out}
use Rattle.fed_redaction.proofs.laws.what_the_hash_covers.Goals as goal

abbrev hash_from : Data → List ℕ
hash_from part = encode_of standard_no_pad (sha256 (canonical_text part))

pub returns-clause-hash : goal.returns-clause-hash
returns-clause-hash c names d h = ap hash_from (covered_part-leave_out names d h)

pub returns-clause-same : goal.returns-clause-same
returns-clause-same c d e same = ap hash_from same

pub returns-clause-left : goal.returns-clause-left
returns-clause-left c d e k same out = sym (get-leave_out uncovered_keys k d out) ∙ ap (get k) same ∙ get-leave_out uncovered_keys k e out
