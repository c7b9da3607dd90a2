use Rattle.std.proofs.Common.{◌≡◌, ℕ, List, [], ◌∷◌, Bool, true, false, ◌&&◌, ◌||◌, not, codes, bytes_eq, refl, sym, ap, ◌∙◌, subst}
use Rattle.std.proofs.lemmas.Slice.Eq.{bytes_eq-Decides}
use Rattle.base64.specs.Engines.{url_safe_no_pad}
use Rattle.base64.specs.GeneralPurpose.{encode_of}
use Rattle.sha2.specs.Sha256.{sha256}
use Rattle.serde_json.specs.Data.{Data}
use Rattle.fed_json.specs.CanonicalText.{canonical_text}
use Rattle.fed_redaction.specs.Names.{is_one_of}
use Rattle.fed_redaction.specs.declared.version.Version.{Version}
use Rattle.fed_redaction.specs.declared.version.Version.TheVariants.{V10, V11}
use Rattle.fed_redaction.specs.Version.{event_keys}
use Rattle.fed_redaction.specs.Event.{event_in}
use Rattle.fed_redaction.specs.EventId.{unsigned_keys, signed_part}
use Rattle.fed_redaction.specs.Laws.{AreUnsigned}
use Rattle.fed_redaction.proofs.Redacting.{signed_part-leave_out}
use Rattle.fed_redaction.proofs.laws.unsigned_changes.Goals as goal

abbrev id_from : Data → List ℕ
id_from part = 36 ∷ encode_of url_safe_no_pad (sha256 (canonical_text part))

pub returns-clause-signed : goal.returns-clause-signed
returns-clause-signed c = signed_part-leave_out

pub returns-clause-id : goal.returns-clause-id
returns-clause-id c version names d e h same =
    ap id_from (sym (signed_part-leave_out version names d h) ∙ ap (λ left. signed_part (event_in version left)) same ∙ signed_part-leave_out version names e h)

or_false : (b : Bool) → (b || false) ≡ true → b ≡ true
or_false true h = refl
or_false false h = h

alone : (version : Version) (name : List ℕ) → (is_one_of (event_keys version) name && not (is_one_of unsigned_keys name)) ≡ false → AreUnsigned version (name ∷ [])
alone version name h k is =
    let P : List ℕ → Type 0 = λ x. (is_one_of (event_keys version) x && not (is_one_of unsigned_keys x)) ≡ false in
    subst P (sym ((bytes_eq-Decides k name).0 (or_false (bytes_eq k name) is))) h

unsigned_apart : (version : Version) → (is_one_of (event_keys version) (codes "unsigned") && not (is_one_of unsigned_keys (codes "unsigned"))) ≡ false
unsigned_apart V10 = refl
unsigned_apart V11 = refl

signatures_apart : (version : Version) → (is_one_of (event_keys version) (codes "signatures") && not (is_one_of unsigned_keys (codes "signatures"))) ≡ false
signatures_apart V10 = refl
signatures_apart V11 = refl

pub returns-clause-unsigned : goal.returns-clause-unsigned
returns-clause-unsigned c version d = ap id_from (signed_part-leave_out version (codes "unsigned" ∷ []) d (alone version (codes "unsigned") (unsigned_apart version)))

pub returns-clause-signatures : goal.returns-clause-signatures
returns-clause-signatures c version d = ap id_from (signed_part-leave_out version (codes "signatures" ∷ []) d (alone version (codes "signatures") (signatures_apart version)))
