-- An event that a server makes: with its content hash, then with the server's signature (Matrix, Server-Server API, "Signing Events",
-- "Adding hashes and signatures to outgoing events").
use Rattle.std.specs.Prelude.{◌≡◌, ℕ, List, Option, IfSome, option_and_then, codes}
use Rattle.base64.specs.Engines.{standard_no_pad}
use Rattle.base64.specs.GeneralPurpose.{encode_of}
use Rattle.serde_json.specs.Data.{Data, string, object, no_members, member}
use Rattle.serde_json.specs.Find.{as_str, get}
use Rattle.fed_json.specs.Editing.{with_member}
use Rattle.fed_redaction.specs.declared.version.Version.{Version}
use Rattle.fed_redaction.specs.Event.{Event, event_in}
use Rattle.fed_event.specs.Ids.{domain_of}
use Rattle.fed_redaction.specs.ContentHash.{content_hash_of}
use Rattle.fed_redaction.specs.EventId.{signed_text_of}

-- the sender, where there is one that is a text
abbrev pub sender_text : Data → Option (List ℕ)
sender_text event = option_and_then as_str (get (codes "sender") event)

-- that sender, where there is one, is a user of this server
abbrev pub IsSentBy : List ℕ → Data → Type 0
IsSentBy server event = IfSome (sender_text event) (λ sender. domain_of sender ≡ server)

-- an object with this value under the name, and nothing else
abbrev pub holding : List ℕ → Data → Data
holding name value = object (member name value no_members)

-- the event with its content hash at `hashes.sha256`; what stood at `hashes` is gone
abbrev pub hashed_of : Data → Data
hashed_of parts = with_member (codes "hashes") (holding (codes "sha256") (string (content_hash_of parts))) parts

-- the signature of the event as a text
abbrev pub signature_text_of : (List ℕ → List ℕ) → Event → List ℕ
signature_text_of sign event = encode_of standard_no_pad (sign (signed_text_of event))

-- the event with the signature of the server's key at `signatures`; what stood there is gone
abbrev pub signed_of : List ℕ → List ℕ → (List ℕ → List ℕ) → Event → Event
signed_of server key sign event =
    event_in event.version (with_member (codes "signatures") (holding server (holding key (string (signature_text_of sign event)))) event.value)

-- hashed, then signed as an event in a room of this version
abbrev pub sealed_of : List ℕ → List ℕ → (List ℕ → List ℕ) → Version → Data → Event
sealed_of server key sign version parts = signed_of server key sign (event_in version (hashed_of parts))
