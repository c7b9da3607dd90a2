-- What an event that has passed the checks on receipt has of the event that came, redacted or not.
use Rattle.std.proofs.Common.{◌≡◌, ◌≢◌, ℕ, List, [], true, false, codes, bytes_eq, option_and_then, unwrap_or, refl, sym, ap, ◌∙◌, if◌then◌else◌}
use Rattle.std.proofs.lemmas.Bool.{false≢true}
use Rattle.std.proofs.lemmas.Slice.Eq.{bytes_eq-Decides}
use Rattle.serde_json.specs.Find.{as_str}
use Rattle.fed_redaction.specs.declared.version.Version.{Version}
use Rattle.fed_redaction.specs.declared.version.Version.TheVariants.{V10, V11}
use Rattle.fed_redaction.specs.Names.{is_one_of}
use Rattle.fed_redaction.specs.Version.{event_keys}
use Rattle.fed_redaction.specs.Event.{Event}
use Rattle.fed_redaction.specs.Redaction.{redacted}
use Rattle.fed_redaction.specs.EventId.{event_id_of}
use Rattle.fed_redaction.specs.ContentHash.{hash_fits_of}
use Rattle.fed_redaction.proofs.Redacting.{event_id_of-redacted, redacted-kept}
use Rattle.fed_keys.specs.Keys.{Checks}
use Rattle.fed_event.specs.Fields.{room_id_of}
use Rattle.fed_event.specs.Checked.{checked_of}

other_name : (k l : List ℕ) → bytes_eq k l ≡ false → k ≢ l
other_name k l h is = false≢true (sym h ∙ (bytes_eq-Decides k l).1 is)

room_stays : (version : Version) → is_one_of (event_keys version) (codes "room_id") ≡ true
room_stays V10 = refl
room_stays V11 = refl

pub id_kept : (checks : Checks) (event : Event) → event_id_of (checked_of checks event).event ≡ event_id_of event
id_kept checks event = elim (hash_fits_of event.value) as (λ b. event_id_of (if b then event else redacted event) ≡ event_id_of event) [ true ↦ refl | false ↦ event_id_of-redacted event ]

pub room_kept : (checks : Checks) (event : Event) → room_id_of (checked_of checks event).event ≡ room_id_of event
room_kept checks event =
    elim (hash_fits_of event.value) as (λ b. room_id_of (if b then event else redacted event) ≡ room_id_of event) [
      | true ↦ refl
      | false ↦ ap (λ part. unwrap_or (option_and_then as_str part) []) (redacted-kept event.version event.value (codes "room_id") (room_stays event.version) (other_name (codes "room_id") (codes "content") refl))
    ]
