-- What the offsets of a head say of its bytes.
use Rattle.std.specs.Prelude.{◌≡◌, ℕ, ◌<◌, ◌≤◌, List, length, take, drop, All}
use Rattle.httparse.specs.Spans.{span_bytes, IsWithin, IsHeaderWithin, AreFieldsAt}
use Rattle.httparse.specs.Grammar.{status_code}
use Rattle.httparse.specs.declared.spans.HeaderSpan.{HeaderSpan}
use Rattle.fed_http.specs.Head.{Head, request, reply, ReadsHead, IsWithinLimits, print_head, field_lines}
use Rattle.fed_http.specs.declared.head.HeadSpans.{HeadSpans}
use Rattle.fed_http.specs.declared.head.StartSpans.{StartSpans}
use Rattle.fed_http.specs.declared.head.StartSpans.TheVariants.{Request, Reply}
use Rattle.fed_http.specs.declared.message.Kind.{Kind}

-- the first line's parts are those of the head
abbrev pub IsStartOf : List ℕ → StartSpans → Head → Type 0
IsStartOf bytes (Request method target) (request h) = (span_bytes bytes method ≡ h.method) × (span_bytes bytes target ≡ h.target)
IsStartOf bytes (Request method target) (reply h) = ⊥
IsStartOf bytes (Reply status) (request h) = ⊥
IsStartOf bytes (Reply status) (reply h) = status ≡ status_code h

-- they lie in the first n bytes
abbrev pub IsStartWithin : ℕ → StartSpans → Type 0
IsStartWithin n (Request method target) = IsWithin n method × IsWithin n target
IsStartWithin n (Reply status) = status < 1000

-- the first bytes are the head h, and the spans cover its parts
pub record IsHeadAt (kind : Kind) (bytes : List ℕ) (headers : List HeaderSpan) (spans : HeadSpans) (h : Head) : Type 0 where
  pub reads : ReadsHead kind bytes h (drop spans.len bytes)
  pub within : IsWithinLimits h
  pub len : spans.len ≡ length (print_head h)
  pub start : IsStartOf bytes spans.start h
  pub fields_are : AreFieldsAt bytes headers spans.fields (field_lines h)
  pub len_fits : spans.len ≤ length bytes
  pub count_fits : spans.fields ≤ length headers
  pub start_fits : IsStartWithin spans.len spans.start
  pub fields_fit : All (IsHeaderWithin spans.len) (take spans.fields headers)

abbrev pub IsSomeHeadAt : Kind → List ℕ → List HeaderSpan → HeadSpans → Type 0
IsSomeHeadAt kind bytes headers spans = (h : Head) × IsHeadAt kind bytes headers spans h
