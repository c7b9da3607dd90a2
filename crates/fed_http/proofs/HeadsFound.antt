-- The heads that the parser finds.
use Rattle.std.proofs.Common.{arith, ◌≡◌, ℕ, ◌≤◌, List, length, drop}
use Rattle.httparse.specs.Grammar.{RequestHead, ResponseHead, print_request, print_response}
use Rattle.httparse.specs.Spans.{IsRequestWithin, IsRequestAt, IsRequestOf, IsResponseWithin, IsResponseAt, IsResponseOf}
use Rattle.httparse.specs.declared.spans.HeaderSpan.{HeaderSpan}
use Rattle.httparse.specs.declared.spans.RequestSpans.{RequestSpans}
use Rattle.httparse.specs.declared.spans.ResponseSpans.{ResponseSpans}
use Rattle.fed_http.specs.Limits.{max_head, max_fields}
use Rattle.fed_http.specs.Head.{request, reply}
use Rattle.fed_http.specs.HeadParts.{IsHeadAt, IsSomeHeadAt}
use Rattle.fed_http.specs.declared.head.HeadSpans.{HeadSpans}
use Rattle.fed_http.specs.declared.head.StartSpans.TheVariants.{Request, Reply}
use Rattle.fed_http.specs.declared.message.Kind.TheVariants.{Requests, Replies}
use Rattle.fed_http.proofs.Counted.{few_fields}
use Rattle.fed_http.proofs.Windows.{fits_in}

abbrev pub request_spans : RequestSpans → HeadSpans
request_spans s = record { start = Request s.method s.path; fields = s.headers; len = s.len }

abbrev pub reply_spans : ResponseSpans → HeadSpans
reply_spans s = record { start = Reply s.code; fields = s.headers; len = s.len }

pub request_at : (bytes : List ℕ) (headers : List HeaderSpan) (s : RequestSpans) (h : RequestHead) → length bytes ≤ max_head → length headers ≡ max_fields
    → IsRequestWithin bytes headers s → IsRequestAt bytes headers s h → IsHeadAt Requests bytes headers (request_spans s) (request h)
request_at bytes headers s h few room within at = record {
  reads = record { valid = at.reads.0; whole = at.reads.1 };
  within = record {
    few = few_fields bytes headers s.headers h.fields (omega (arith, within.section.count_fits, room)) at.fields;
    short = omega (arith, few, fits_in bytes (print_request h) (drop s.len bytes) at.reads.1);
  };
  len = at.len;
  start = (at.method, at.path);
  fields_are = at.fields;
  len_fits = within.section.len_fits;
  count_fits = within.section.count_fits;
  start_fits = (within.method, within.path);
  fields_fit = within.section.headers_fit;
}

pub some_request : (bytes : List ℕ) (headers : List HeaderSpan) (s : RequestSpans) → length bytes ≤ max_head → length headers ≡ max_fields
    → IsRequestWithin bytes headers s → IsRequestOf bytes headers s → IsSomeHeadAt Requests bytes headers (request_spans s)
some_request bytes headers s few room within at = (request at.0, request_at bytes headers s at.0 few room within at.1)

pub reply_at : (bytes : List ℕ) (headers : List HeaderSpan) (s : ResponseSpans) (h : ResponseHead) → length bytes ≤ max_head → length headers ≡ max_fields
    → IsResponseWithin bytes headers s → IsResponseAt bytes headers s h → IsHeadAt Replies bytes headers (reply_spans s) (reply h)
reply_at bytes headers s h few room within at = record {
  reads = record { valid = at.reads.0; whole = at.reads.1 };
  within = record {
    few = few_fields bytes headers s.headers h.fields (omega (arith, within.section.count_fits, room)) at.fields;
    short = omega (arith, few, fits_in bytes (print_response h) (drop s.len bytes) at.reads.1);
  };
  len = at.len;
  start = at.code;
  fields_are = at.fields;
  len_fits = within.section.len_fits;
  count_fits = within.section.count_fits;
  start_fits = within.code;
  fields_fit = within.section.headers_fit;
}

pub some_reply : (bytes : List ℕ) (headers : List HeaderSpan) (s : ResponseSpans) → length bytes ≤ max_head → length headers ≡ max_fields
    → IsResponseWithin bytes headers s → IsResponseOf bytes headers s → IsSomeHeadAt Replies bytes headers (reply_spans s)
some_reply bytes headers s few room within at = (reply at.0, reply_at bytes headers s at.0 few room within at.1)
