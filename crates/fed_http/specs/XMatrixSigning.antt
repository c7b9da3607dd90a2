-- What is signed for a request (Matrix, Server-Server API, "Request Authentication"), and the request with its signature.
use Rattle.std.specs.Prelude.{◌<◌, ◌≤◌, IsUtf8, ℕ, List, [], ◌∷◌, ◌++◌, Option, Some, option_and_then, codes, decimal, length}
use Rattle.serde_json.specs.Data.{Data, string, object, no_members, member}
use Rattle.fed_json.specs.CanonicalText.{canonical_text}
use Rattle.httparse.specs.Grammar.{IsToken, AllPass, is_uri_byte}
use Rattle.fed_http.specs.Framing.{values_of, only_of, if_text}
use Rattle.fed_http.specs.Limits.{max_body, max_head}
use Rattle.fed_http.specs.Writing.{request_bytes, IsWritableField}
use Rattle.fed_http.specs.Message.{RequestValue}
use Rattle.fed_http.specs.XMatrix.{XMatrixValue}
use Rattle.fed_http.specs.XMatrixWriting.{header_text}

-- what is signed of a request whose body is JSON: its method, its target as it is written, who sends it to whom, and the value of its body
pub record SignableJson : Type 0 where
  pub method : List ℕ
  pub target : List ℕ
  pub origin : List ℕ
  pub destination : List ℕ
  pub content : Data

-- `{"content":..,"destination":..,"method":..,"origin":..,"uri":..}`
abbrev pub signed_value : SignableJson → Data
signed_value asked =
    object (member (codes "content") asked.content
    (member (codes "destination") (string asked.destination)
    (member (codes "method") (string asked.method)
    (member (codes "origin") (string asked.origin)
    (member (codes "uri") (string asked.target) no_members)))))

abbrev pub signed_text : SignableJson → List ℕ
signed_text asked = canonical_text (signed_value asked)

-- the same of a request with any body, by its bytes
pub record Signable : Type 0 where
  pub method : List ℕ
  pub target : List ℕ
  pub origin : List ℕ
  pub destination : List ℕ
  pub content : List ℕ

-- the member of the body, whose bytes stand as they are; none where it is empty
abbrev pub content_member : List ℕ → List ℕ
content_member [] = []
content_member (b ∷ bytes) = codes "\"content\":" ++ ((b ∷ bytes) ++ codes ",")

-- a key and a text as its value
abbrev pub text_member : List ℕ → List ℕ → List ℕ
text_member key value = key ++ canonical_text (string value)

-- The bytes that are signed, for every body: `{"content":..,"destination":..,"method":..,"origin":..,"uri":..}`, without `content` where the
-- body is empty. Where the body is a canonical text they are the canonical text of `signed_value`; else they are no JSON text.
abbrev pub signed_bytes : Signable → List ℕ
signed_bytes s =
    codes "{" ++ (content_member s.content ++ (text_member (codes "\"destination\":") s.destination ++ (text_member (codes ",\"method\":") s.method
    ++ (text_member (codes ",\"origin\":") s.origin ++ (text_member (codes ",\"uri\":") s.target ++ codes "}")))))

-- the server that a request is for: what its one field Host says (RFC 9110, section 7.2)
abbrev pub host_of : RequestValue → Option (List ℕ)
host_of request = option_and_then if_text (only_of (values_of (codes "host") request.fields))

-- the header of a request that is signed by the sender's key of this name
abbrev pub header_of : SignableJson → List ℕ → (List ℕ → List ℕ) → XMatrixValue
header_of asked key sign = record { origin = asked.origin; destination = Some asked.destination; key = key; signature = sign (signed_text asked) }

-- the same for a request with these bytes as its body
abbrev pub header_for : Signable → List ℕ → (List ℕ → List ℕ) → XMatrixValue
header_for s key sign = record { origin = s.origin; destination = Some s.destination; key = key; signature = sign (signed_bytes s) }

-- the fields of a request with a body of so many bytes
abbrev pub sent_fields : List ℕ → List ℕ → ℕ → List (List ℕ × List ℕ)
sent_fields host authorization count =
    (codes "Host", host)
    ∷ (codes "Authorization", authorization)
    ∷ (codes "Content-Type", codes "application/json")
    ∷ (codes "Content-Length", decimal count)
    ∷ (codes "Connection", codes "close")
    ∷ []

-- the request as it is sent
abbrev pub request_of : SignableJson → List ℕ → (List ℕ → List ℕ) → RequestValue
request_of asked key sign = record {
  method = asked.method;
  target = asked.target;
  fields = sent_fields asked.destination (header_text (header_of asked key sign)) (length (canonical_text asked.content));
  body = canonical_text asked.content;
}

-- the same for these bytes as its body
abbrev pub request_for : Signable → List ℕ → (List ℕ → List ℕ) → RequestValue
request_for s key sign = record {
  method = s.method;
  target = s.target;
  fields = sent_fields s.destination (header_text (header_for s key sign)) (length s.content);
  body = s.content;
}

-- the request is of the grammar (RFC 9112, section 3) and within the limits
pub record IsSendable (asked : SignableJson) (key : List ℕ) (sign : List ℕ → List ℕ) : Type 0 where
  pub method : IsToken asked.method
  pub target : (0 < length asked.target) × AllPass is_uri_byte asked.target
  pub target_text : IsUtf8 asked.target
  pub host : IsWritableField (codes "Host", asked.destination)
  pub authorization : IsWritableField (codes "Authorization", header_text (header_of asked key sign))
  pub head_fits : length (request_bytes (record (request_of asked key sign) { body = [] })) ≤ max_head
  pub body_fits : length (canonical_text asked.content) ≤ max_body
