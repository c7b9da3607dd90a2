-- What the calls on texts answer.
use Rattle.std.specs.Prelude.{ℕ, List, if◌then◌else◌, Result, Ok, Err}
use Rattle.serde_json.specs.Data.{Data}
use Rattle.fed_json.specs.CanonicalText.{canonical_text}
use Rattle.fed_redaction.specs.declared.version.Version.{Version}
use Rattle.fed_redaction.specs.Event.{event_in}
use Rattle.fed_redaction.specs.ContentHash.{hash_fits_of}
use Rattle.fed_redaction.specs.Redaction.{redacted_in}
use Rattle.fed_redaction.specs.EventId.{signed_text_of, event_id_of}
use Rattle.fed_c.specs.declared.status.Status.{Status}
use Rattle.fed_c.specs.declared.status.Status.TheVariants.{Done, HashDiffers}

-- f of the value, or the fault where there is none
abbrev pub of_value : (Data → List ℕ) → Result Data Status → Result (List ℕ) Status
of_value f (Ok value) = Ok (f value)
of_value f (Err fault) = Err fault

-- of a value as an event in a room of this version: its redaction, what is signed of it, and its id
abbrev pub redaction_text : Version → Data → List ℕ
redaction_text version value = canonical_text (redacted_in version value)

abbrev pub signed_text_in : Version → Data → List ℕ
signed_text_in version value = signed_text_of (event_in version value)

abbrev pub event_id_in : Version → Data → List ℕ
event_id_in version value = event_id_of (event_in version value)

-- whether the content hash of an event fits, or the fault of what is no value
abbrev pub hash_status : Result Data Status → Status
hash_status (Ok event) = if hash_fits_of event then Done else HashDiffers
hash_status (Err fault) = fault
