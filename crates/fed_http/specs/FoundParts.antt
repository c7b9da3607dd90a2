-- What is found of a message without memory.
use Rattle.std.specs.Prelude.{◌≡◌, ℕ, ◌<◌, ◌≤◌, List, length, take, drop, Option, Some, None, Result, Ok, Err}
use Rattle.httparse.specs.declared.spans.HeaderSpan.{HeaderSpan}
use Rattle.fed_http.specs.Limits.{max_head, max_body}
use Rattle.fed_http.specs.Head.{Head, IsFinal, head_framing, reply_framing}
use Rattle.fed_http.specs.HeadParts.{IsHeadAt}
use Rattle.fed_http.specs.ChunkParts.{IsChunkedAt, IsChunkedFault}
use Rattle.fed_http.specs.Waiting.{LacksChunks}
use Rattle.fed_http.specs.declared.chunks.Extent.{Extent}
use Rattle.fed_http.specs.declared.fault.HttpFault.{HttpFault}
use Rattle.fed_http.specs.declared.fault.HttpFault.TheVariants.{BadHead, TooLarge, BadLength}
use Rattle.fed_http.specs.declared.finding.MessageSpans.{MessageSpans}
use Rattle.fed_http.specs.declared.framing.Framing.{Framing}
use Rattle.fed_http.specs.declared.framing.Framing.TheVariants.{NoBody, Fixed, Chunked}
use Rattle.fed_http.specs.declared.head.StartSpans.{StartSpans}
use Rattle.fed_http.specs.declared.head.StartSpans.TheVariants.{Request, Reply}
use Rattle.fed_http.specs.declared.message.Kind.{Kind}

-- ---- the framing

-- the framing where the fields give one, and else a refusal
abbrev pub framed_or_refused : Option Framing → Result Framing HttpFault
framed_or_refused (Some framing) = Ok framing
framed_or_refused None = Err BadLength

-- what is answered for a head whose fields give this framing
abbrev pub IsFramedAs : StartSpans → Option Framing → Result Framing HttpFault → Type 0
IsFramedAs (Request method target) given result = result ≡ framed_or_refused given
IsFramedAs (Reply status) given result = (status < 200 → result ≡ Err BadHead) × (200 ≤ status → result ≡ framed_or_refused (reply_framing given))

-- ---- the body

abbrev pub IsBodyAt : Framing → List ℕ → Extent → Type 0
IsBodyAt NoBody bytes found = (found.body ≡ 0) × (found.text ≡ 0)
IsBodyAt (Fixed n) bytes found = (found.body ≡ n) × (found.text ≡ n) × (n ≤ length bytes) × (n ≤ max_body)
IsBodyAt Chunked bytes found = IsChunkedAt bytes found

abbrev pub LacksBody : Framing → List ℕ → Type 0
LacksBody NoBody bytes = ⊥
LacksBody (Fixed n) bytes = (length bytes < n) × (n ≤ max_body)
LacksBody Chunked bytes = LacksChunks bytes

abbrev pub IsBodyFault : Framing → List ℕ → HttpFault → Type 0
IsBodyFault NoBody bytes fault = ⊥
IsBodyFault (Fixed n) bytes fault = (fault ≡ TooLarge) × (max_body < n)
IsBodyFault Chunked bytes fault = IsChunkedFault bytes fault

-- ---- the message

-- the parts of a message are there, behind one another
pub record IsFoundAt (kind : Kind) (bytes : List ℕ) (headers : List HeaderSpan) (found : MessageSpans) (h : Head) : Type 0 where
  pub at : IsHeadAt kind (take max_head bytes) headers found.head h
  pub final : IsFinal h
  pub framed : head_framing h ≡ Some found.framing
  pub body : IsBodyAt found.framing (drop found.head.len bytes) found.body
  pub fits : found.head.len ≤ length bytes

abbrev pub IsSomeFoundAt : Kind → List ℕ → List HeaderSpan → MessageSpans → Type 0
IsSomeFoundAt kind bytes headers found = (h : Head) × IsFoundAt kind bytes headers found h
