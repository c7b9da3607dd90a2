-- The head of a message (RFC 9112, section 2.1): that of a request or of a reply.
use Rattle.std.specs.Prelude.{◌≡◌, ℕ, ◌≤◌, List, ◌++◌, length, map, Option, Some, None, ⊤}
use Rattle.httparse.specs.Grammar.{RequestHead, IsRequestHead, print_request, MayBecomeRequest, ResponseHead, IsResponseHead, print_response, MayBecomeResponse, status_code, Field}
use Rattle.httparse.specs.Spans.{name_and_value}
use Rattle.fed_http.specs.Limits.{max_head, max_fields}
use Rattle.fed_http.specs.Framing.{framing_of}
use Rattle.fed_http.specs.declared.framing.Framing.{Framing}
use Rattle.fed_http.specs.declared.framing.Framing.TheVariants.{NoBody, Fixed, Chunked}
use Rattle.fed_http.specs.declared.message.Kind.{Kind}
use Rattle.fed_http.specs.declared.message.Kind.TheVariants.{Requests, Replies}
use Rattle.fed_http.specs.declared.message.Message.{Message}
use Rattle.fed_http.specs.declared.message.Message.TheVariants.{Request, Reply}

pub data Head : Type 0 where
  request : RequestHead → Head
  reply : ResponseHead → Head

-- its bytes
abbrev pub print_head : Head → List ℕ
print_head (request h) = print_request h
print_head (reply h) = print_response h

-- it is a head of that kind (RFC 9112, sections 3 and 4)
abbrev pub IsHeadOf : Kind → Head → Type 0
IsHeadOf Requests (request h) = IsRequestHead h
IsHeadOf Requests (reply h) = ⊥
IsHeadOf Replies (request h) = ⊥
IsHeadOf Replies (reply h) = IsResponseHead h

-- its field lines
abbrev pub field_lines : Head → List Field
field_lines (request h) = h.fields
field_lines (reply h) = h.fields

-- the names and values of its fields
abbrev pub head_fields : Head → List (List ℕ × List ℕ)
head_fields h = map name_and_value (field_lines h)

-- bytes are that head and then rest
pub record ReadsHead (kind : Kind) (bytes : List ℕ) (h : Head) (rest : List ℕ) : Type 0 where
  pub valid : IsHeadOf kind h
  pub whole : bytes ≡ print_head h ++ rest

-- no prefix of the bytes is a head
abbrev pub HasNoHead : Kind → List ℕ → Type 0
HasNoHead kind bytes = (h : Head) (rest : List ℕ) → ¬ (ReadsHead kind bytes h rest)

-- the bytes may be the beginning of a head
abbrev pub MayBecomeHead : Kind → List ℕ → Type 0
MayBecomeHead Requests bytes = MayBecomeRequest bytes
MayBecomeHead Replies bytes = MayBecomeResponse bytes

-- it is no larger than a head may be
pub record IsWithinLimits (h : Head) : Type 0 where
  pub few : length (field_lines h) ≤ max_fields
  pub short : length (print_head h) ≤ max_head

-- a reply's status is no interim one (RFC 9110, section 15.2)
abbrev pub IsFinal : Head → Type 0
IsFinal (request h) = ⊤
IsFinal (reply h) = 200 ≤ status_code h

-- the framing that a reply's fields give: it has to have one (RFC 9112, section 6.3: else it would end with the connection)
abbrev pub reply_framing : Option Framing → Option Framing
reply_framing (Some NoBody) = None
reply_framing (Some (Fixed n)) = Some (Fixed n)
reply_framing (Some Chunked) = Some Chunked
reply_framing None = None

-- how the end of the body is found
abbrev pub head_framing : Head → Option Framing
head_framing (request h) = framing_of (map name_and_value h.fields)
head_framing (reply h) = reply_framing (framing_of (map name_and_value h.fields))

-- the message of this head and this body
abbrev pub message_of : Head → List ℕ → Message
message_of (request h) body = Request (record { method = h.method; target = h.target; fields = map name_and_value h.fields; body = body })
message_of (reply h) body = Reply (record { status = status_code h; body = body })
