-- Signatures that a caller has checked, and the event that it says has them.
use Rattle.std.specs.Prelude.{◌≡◌, ◌||◌, ℕ, List, Bool, true, false, refl, bytes_eq, if◌then◌else◌, Result, Ok, Err}
use Rattle.std.proofs.lemmas.Slice.Eq.{bytes_eq-Decides}
use Rattle.serde_json.specs.Data.{Data}
use Rattle.fed_redaction.specs.declared.version.Version.{Version}
use Rattle.fed_keys.specs.Keys.{Checks}
use Rattle.fed_event.specs.Event.{event_in}
use Rattle.fed_event.specs.Ids.{domain_of}
use Rattle.fed_event.specs.Fields.{sender_of}
use Rattle.fed_event.specs.Signatures.{is_signed}
use Rattle.fed_event.specs.Checked.{CheckedEvent, checked_of}
use Rattle.fed_c.specs.declared.status.Status.{Status}
use Rattle.fed_c.specs.declared.status.Status.TheVariants.{NotSigned}

-- those of this server have checked, and where others have too, those of all servers
abbrev pub checks_of : List ℕ → Bool → Checks
checks_of own others server key message signature = others || bytes_eq server own

-- what the own server signs checks
pub own-checks : (own : List ℕ) (others : Bool) → others || bytes_eq own own ≡ true
own-checks own true = refl
own-checks own false = (bytes_eq-Decides own own).1 refl

-- the event, where its sender's server has signed it; whether the others have is given
abbrev pub checked_as : Version → Bool → Data → Result CheckedEvent Status
checked_as version others value =
    let event = event_in version value in
    let checks = checks_of (domain_of (sender_of event)) others in
    if is_signed checks event then Ok (checked_of checks event) else Err NotSigned
