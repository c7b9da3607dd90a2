-- An event that has passed the checks on receipt that need no room (Matrix, Server-Server API, "Checks performed on receipt of a
-- PDU", checks 1 to 3).
use Rattle.std.specs.Prelude.{◌≡◌, ℕ, List, ◌∷◌, Bool, true, Option, None, refl, codes, if◌then◌else◌, option_and_then}
use Rattle.std.specs.Coded.{Coded, code_by, coded×, coded_bool}
use Rattle.serde_json.specs.Data.{Data}
use Rattle.serde_json.specs.Find.{as_str, get}
use Rattle.fed_json.specs.CanonicalText.{canonical_text}
use Rattle.fed_event.specs.Tests.{holds, first_fault_of}
use Rattle.fed_event.specs.Ids.{domain_of}
use Rattle.fed_event.specs.Fields.{content_of}
use Rattle.fed_redaction.specs.Version.{is_newer}
use Rattle.fed_redaction.specs.Event.{Event, coded_event}
use Rattle.fed_redaction.specs.Redaction.{redacted}
use Rattle.fed_redaction.specs.ContentHash.{hash_fits_of}
use Rattle.fed_keys.specs.Keys.{Checks}
use Rattle.fed_event.specs.Signatures.{is_signed_by, is_signed}

-- the event, and whether the server of the user that authorises its join has signed it
pub record CheckedEvent : Type 0 where
  pub event : Event
  pub authorised : Bool

-- a text that tells an event from every other: its version, and the canonical text of its value
abbrev pub event_text : Event → List ℕ
event_text event = (if is_newer event.version then 1 else 0) ∷ canonical_text event.value

-- the same of an event that has passed: whether it is authorised, and the text of the event
abbrev pub checked_text : CheckedEvent → List ℕ
checked_text checked = (if checked.authorised then 1 else 0) ∷ event_text checked.event

abbrev pub checked_code : Coded CheckedEvent
checked_code = code_by (Event × Bool) (coded× coded_event coded_bool) (λ c. (c.event, c.authorised)) (λ p. record { event = p.0; authorised = p.1 }) (λ _. refl)

-- the user that authorises a join to a restricted room, by the content of the event (room version 8, "Authorization rules")
abbrev pub authorising_user_in : Data → Option (List ℕ)
authorising_user_in content = option_and_then as_str (get (codes "join_authorised_via_users_server") content)

abbrev pub authorising_user_of : Event → Option (List ℕ)
authorising_user_of event = authorising_user_in (content_of event)

abbrev pub is_authorised : Checks → Event → Bool
is_authorised checks event = holds (λ user. is_signed_by checks (domain_of user) event) (authorising_user_of event)

-- what is kept of an event whose sender's server has signed: the event, or its redaction where the content hash does not fit
abbrev pub checked_of : Checks → Event → CheckedEvent
checked_of checks event = record {
  event = if hash_fits_of event.value then event else redacted event;
  authorised = is_authorised checks event;
}

-- it is what these keys leave of an event that passes its tests and that its sender's server has signed
abbrev pub IsCheckedUnder : Checks → CheckedEvent → Type 0
IsCheckedUnder checks checked = (event : Event) × (first_fault_of event.value ≡ None) × (is_signed checks event ≡ true) × (checked ≡ checked_of checks event)

-- some keys leave it
abbrev pub IsChecked : CheckedEvent → Type 0
IsChecked checked = ∥ ((checks : Checks) × IsCheckedUnder checks checked) ∥₁
