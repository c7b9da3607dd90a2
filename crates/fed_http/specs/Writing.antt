-- The bytes of messages as this server writes them (RFC 9112, sections 2.1, 3 and 4).
use Rattle.std.specs.Prelude.{◌≡◌, ◌<◌, ◌≤◌, ◌&&◌, ℕ, List, [], ◌∷◌, ◌++◌, Some, All, IsUtf8, bytes_eq, codes, decimal, length, nat_le, nat_lt, unwrap_or, if◌then◌else◌}
use Rattle.std.specs.List.{flat_map}
use Rattle.http.specs.StatusCode.{reason_phrase}
use Rattle.httparse.specs.Grammar.{IsToken, AllPass, is_uri_byte, is_value_byte, trim_ows}
use Rattle.fed_http.specs.declared.framing.Framing.TheVariants.{Fixed}
use Rattle.fed_http.specs.Framing.{framing_of}
use Rattle.fed_http.specs.Limits.{max_body, max_fields, max_head}
use Rattle.fed_http.specs.Message.{RequestValue, Answer}

-- CR LF
abbrev pub line_end : List ℕ
line_end = 13 ∷ 10 ∷ []

-- `name: value`
abbrev pub field_line : List ℕ × List ℕ → List ℕ
field_line field = field.0 ++ (codes ": " ++ (field.1 ++ line_end))

-- the field lines, the empty line and the body
abbrev pub behind_start : List (List ℕ × List ℕ) → List ℕ → List ℕ
behind_start fields body = flat_map field_line fields ++ (line_end ++ body)

-- `METHOD target HTTP/1.1`
abbrev pub request_line : RequestValue → List ℕ
request_line m = m.method ++ (codes " " ++ (m.target ++ (codes " HTTP/1.1" ++ line_end)))

abbrev pub request_bytes : RequestValue → List ℕ
request_bytes m = request_line m ++ behind_start m.fields m.body

-- the fields of a reply
abbrev pub reply_fields : List ℕ → List (List ℕ × List ℕ)
reply_fields body =
    (codes "Content-Type", codes "application/json")
    ∷ (codes "Content-Length", decimal (length body))
    ∷ (codes "Connection", codes "close")
    ∷ []

-- the phrase of a status from 100 to 999 (RFC 9110, section 15), empty where it has none
unfoldable pub phrase_of : ℕ → List ℕ
phrase_of status = if nat_le 100 status && nat_lt status 1000 then unwrap_or (reason_phrase status) [] else []

-- `HTTP/1.1 status phrase`
abbrev pub status_line : ℕ → List ℕ → List ℕ
status_line status phrase = codes "HTTP/1.1 " ++ (decimal status ++ (codes " " ++ (phrase ++ line_end)))

abbrev pub reply_bytes : Answer → List ℕ
reply_bytes m = status_line m.status (phrase_of m.status) ++ behind_start (reply_fields m.body) m.body

-- up to its body
abbrev pub reply_head : Answer → List ℕ
reply_head m = status_line m.status (phrase_of m.status) ++ behind_start (reply_fields m.body) []

-- as the reply to a request of this method: to a HEAD goes the head alone, which gives the length of the body (RFC 9110, section 9.3.2)
abbrev pub reply_bytes_to : List ℕ → Answer → List ℕ
reply_bytes_to method m = if bytes_eq method (codes "HEAD") then reply_head m else reply_bytes m

-- ---- what is read back

-- the name is a token, and the value is of the grammar and has no white space around it (RFC 9110, sections 5.1 and 5.5)
pub record IsWritableField (field : List ℕ × List ℕ) : Type 0 where
  pub name : IsToken field.0
  pub value : AllPass is_value_byte field.1
  pub trimmed : trim_ows (32 ∷ field.1) ≡ field.1

-- the request is of the grammar (RFC 9112, section 3), within the limits, and says the length of its body
pub record IsWritable (m : RequestValue) : Type 0 where
  pub method : IsToken m.method
  pub target : (0 < length m.target) × AllPass is_uri_byte m.target
  pub target_text : IsUtf8 m.target
  pub fields : All IsWritableField m.fields
  pub few : length m.fields ≤ max_fields
  pub framed : framing_of m.fields ≡ Some (Fixed (length m.body))
  pub head_fits : length (request_bytes (record m { body = [] })) ≤ max_head
  pub body_fits : length m.body ≤ max_body

-- the reply is no interim one (RFC 9110, section 15.2), and its body is within the limit
pub record IsWritableReply (m : Answer) : Type 0 where
  pub final : 200 ≤ m.status
  pub status : m.status < 1000
  pub body_fits : length m.body ≤ max_body
