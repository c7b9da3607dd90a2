-- What is signed of an event (Matrix, Server-Server API, "Signing Events"), and its id (room version 4, "Event IDs", and "Calculating
-- the reference hash for an event" of the Server-Server API).
use Rattle.std.specs.Prelude.{◌≡◌, ℕ, List, [], ◌∷◌, ◌++◌, ◌==◌, Bool, true, codes, length, slice_index, drop}
use Rattle.std.specs.List.{list_any, list_all}
use Rattle.sha2.specs.Sha256.{sha256}
use Rattle.base64.specs.Engines.{url_safe_no_pad}
use Rattle.base64.specs.GeneralPurpose.{encode_of}
use Rattle.serde_json.specs.Data.{Data}
use Rattle.fed_json.specs.CanonicalText.{canonical_text}
use Rattle.fed_redaction.specs.Names.{leave_out}
use Rattle.fed_redaction.specs.Event.{Event}
use Rattle.fed_redaction.specs.Redaction.{redacted_in}

-- the top-level keys that no signature covers
abbrev pub unsigned_keys : List (List ℕ)
unsigned_keys = codes "signatures" ∷ codes "unsigned" ∷ []

-- what is signed: the redaction without them
abbrev pub signed_part : Event → Data
signed_part event = leave_out unsigned_keys (redacted_in event.version event.value)

-- its bytes
abbrev pub signed_text_of : Event → List ℕ
signed_text_of event = canonical_text (signed_part event)

-- the id of an event with this signed text: `$` and the reference hash, in the URL-safe alphabet of base64, without padding
abbrev pub id_of_signed : List ℕ → List ℕ
id_of_signed text = codes "$" ++ encode_of url_safe_no_pad (sha256 text)

-- the id as a text
abbrev pub event_id_of : Event → List ℕ
event_id_of event = id_of_signed (signed_text_of event)

-- the characters of the URL-safe alphabet of base64 (RFC 4648, section 5)
abbrev pub is_url_safe : ℕ → Bool
is_url_safe x = list_any (λ c. x == c) (codes "ABCDEFGHIJKLMNOPQRSTUVWXYZabcdefghijklmnopqrstuvwxyz0123456789-_")

-- the form of an id: `$`, which is 36, and 43 characters of that alphabet
pub record IsIdText (text : List ℕ) : Type 0 where
  pub sigil : slice_index text 0 ≡ 36
  pub size : length text ≡ 44
  pub url_safe : list_all is_url_safe (drop 1 text) ≡ true
