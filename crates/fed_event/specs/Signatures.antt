-- The signatures of an event (Matrix, Server-Server API, "Signing Events"; appendix "Checking for a Signature"): at `signatures`, by
-- the name of a server and the name of a key, the unpadded standard base64 of 64 bytes. What signs and checks them is given.
use Rattle.std.specs.Prelude.{ℕ, List, [], Bool, Option, Some, None, ◌==◌, length, if◌then◌else◌, unwrap_or, option_and_then}
use Rattle.std.specs.List.{list_any}
use Rattle.base64.specs.Engines.{standard_no_pad}
use Rattle.base64.specs.GeneralPurpose.{decoded_of}
use Rattle.serde_json.specs.Data.{Data}
use Rattle.serde_json.specs.Find.{as_str, get}
use Rattle.fed_json.specs.JsonRef.{as_members}
use Rattle.fed_keys.specs.Keys.{Checks}
use Rattle.fed_event.specs.Tests.{holds}
use Rattle.fed_event.specs.Ids.{domain_of}
use Rattle.fed_event.specs.declared.field.Field.TheVariants.{Signatures}
use Rattle.fed_redaction.specs.Event.{Event}
use Rattle.fed_event.specs.Fields.{value_at, sender_of}
use Rattle.fed_redaction.specs.EventId.{signed_text_of}

-- the 64 bytes of a signature, where it decodes to so many
abbrev pub signature_in : Data → Option (List ℕ)
signature_in value = option_and_then (λ bytes. if length bytes == 64 then Some bytes else None) (option_and_then (decoded_of standard_no_pad) (as_str value))

-- the signatures of a server on an event: the name of a key, and what stands there
abbrev pub signatures_by : List ℕ → Data → List (List ℕ × Data)
signatures_by server value = unwrap_or (option_and_then as_members (get server (value_at Signatures value))) []

-- some key of the server has a signature of this text there that decodes and checks
abbrev pub has_signature : Checks → List ℕ → List ℕ → Data → Bool
has_signature checks server text value =
    list_any (λ entry. holds (checks server entry.0 text) (signature_in entry.1)) (signatures_by server value)

-- some key of the server has signed the event
abbrev pub is_signed_by : Checks → List ℕ → Event → Bool
is_signed_by checks server event = has_signature checks server (signed_text_of event) event.value

-- the server of the sender has signed (Server-Server API, "Checks performed on receipt of a PDU", check 2)
abbrev pub is_signed : Checks → Event → Bool
is_signed checks event = is_signed_by checks (domain_of (sender_of event)) event
