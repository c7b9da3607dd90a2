-- A message whose parts were copied, and the texts that are in it.
use Rattle.std.proofs.Common.{arith, ◌≡◌, ℕ, ◌+◌, ◌-◌, ◌<◌, ◌≤◌, List, [], ◌∷◌, ◌++◌, length, take, drop, map, All, IsUtf8, refl, sym, ap, subst, ◌∙◌, length-append, length-take-le}
use Rattle.std.specs.Prelude.{IsTrue}
use Rattle.std.proofs.lemmas.Bool.Decides.{nat_tests}
use Rattle.std.proofs.lemmas.List.{length-drop}
use Rattle.std.proofs.lemmas.List.Elements.{All-nil, All-cons, All-head, All-tail, All-weaker}
use Rattle.std.proofs.lemmas.Str.{IsUtf8-from_ascii}
use Rattle.std.proofs.lemmas.Str.Ascii.{IsAscii-from_all}
use Rattle.std.proofs.Math.Seq.{take-append-add}
use Rattle.httparse.specs.Grammar.{is_token_byte, IsToken, Field, IsField}
use Rattle.httparse.specs.Spans.{span_bytes, header_bytes, name_and_value}
use Rattle.httparse.specs.declared.spans.Span.{Span}
use Rattle.httparse.specs.declared.spans.HeaderSpan.{HeaderSpan}
use Rattle.fed_http.specs.Limits.{max_head, max_body}
use Rattle.fed_http.specs.Head.{Head, request, reply, print_head, message_of, IsHeadOf, field_lines}
use Rattle.fed_http.specs.HeadParts.{IsHeadAt, IsStartOf}
use Rattle.fed_http.specs.FoundParts.{IsBodyAt, IsFoundAt}
use Rattle.fed_http.specs.CopyParts.{IsMessageAt, AreNamed, HasBody}
use Rattle.fed_http.specs.ChunkParts.{IsChunkedAt, BeginsChunked}
use Rattle.fed_http.specs.Body.{IsBodyText, print_chunked, chunk_data}
use Rattle.fed_http.specs.declared.chunks.Extent.{Extent}
use Rattle.fed_http.specs.declared.finding.MessageSpans.{MessageSpans}
use Rattle.fed_http.specs.declared.framing.Framing.{Framing}
use Rattle.fed_http.specs.declared.head.HeadSpans.{HeadSpans}
use Rattle.fed_http.specs.declared.framing.Framing.TheVariants.{NoBody, Fixed, Chunked}
use Rattle.fed_http.specs.declared.head.StartSpans.{StartSpans}
use Rattle.fed_http.specs.declared.head.StartSpans.TheVariants.{Request, Reply}
use Rattle.fed_http.specs.declared.message.Kind.{Kind}
use Rattle.fed_http.specs.declared.message.Kind.TheVariants.{Requests, Replies}
use Rattle.fed_http.specs.declared.message.Message.{Message}
use Rattle.fed_http.specs.declared.message.Message.TheVariants as messages
use Rattle.fed_http.proofs.Windows.{front_of, to_end}
use Rattle.fed_http.proofs.ChunkLemmas.{chunked_unique}
use Rattle.fed_http.proofs.Finds.{reads_all}

-- ---- texts

token_byte_small : (b : ℕ) → IsTrue (is_token_byte b) → b < 128
unfolding is_token_byte
token_byte_small b h = grind (arith, nat_tests)

pub token_text : (bytes : List ℕ) → IsToken bytes → IsUtf8 bytes
token_text bytes h = IsUtf8-from_ascii bytes (IsAscii-from_all bytes (All-weaker (λ b. IsTrue (is_token_byte b)) (λ b. b < 128) token_byte_small bytes h.1))

named_all : (window : List ℕ) (hs : List HeaderSpan) (fs : List Field) → map (header_bytes window) hs ≡ map name_and_value fs → All IsField fs → AreNamed window hs
named_all window [] fs e all = All-nil (λ (f : HeaderSpan). IsUtf8 (span_bytes window f.name))
named_all window (h ∷ hs) [] e all = cc
named_all window (h ∷ hs) (f ∷ fs) e all =
    let first : header_bytes window h ≡ name_and_value f = cc in
    let rest : map (header_bytes window) hs ≡ map name_and_value fs = cc in
    All-cons (λ (k : HeaderSpan). IsUtf8 (span_bytes window k.name)) h hs (subst IsUtf8 (sym (ap (λ (p : List ℕ × List ℕ). p.0) first)) (token_text f.name (All-head IsField f fs all).name)) (named_all window hs fs rest (All-tail IsField f fs all))

-- the names, the method and the target of a request that was found
pub record HasTexts (window : List ℕ) (method target : Span) (fields : List HeaderSpan) : Type 0 where
  pub method_text : IsUtf8 (span_bytes window method)
  pub target_text : IsUtf8 (span_bytes window target)
  pub names : AreNamed window fields

pub request_texts : (kind : Kind) (bytes window : List ℕ) (headers : List HeaderSpan) (method target : Span) (found : HeadSpans) (h : Head) → window ≡ take max_head bytes → found.start ≡ Request method target → IsHeadAt kind (take max_head bytes) headers found h
    → HasTexts window method target (take found.fields headers)
request_texts kind bytes window headers method target found h is starts at =
    let S : StartSpans → Type 0 = λ s. IsStartOf window s h in
    let P : List ℕ → Type 0 = λ w. IsHeadAt kind w headers found h in
    let here = subst P (sym is) at in
    by_kind kind h here.reads.valid (subst S starts here.start) here.fields_are
  where
    by_kind : (k : Kind) (h : Head) → IsHeadOf k h → IsStartOf window (Request method target) h → map (header_bytes window) (take found.fields headers) ≡ map name_and_value (field_lines h) → HasTexts window method target (take found.fields headers)
    by_kind Requests (request h) valid start fields = record {
      method_text = subst IsUtf8 (sym start.0) (token_text h.method valid.method);
      target_text = subst IsUtf8 (sym start.1) valid.target_text;
      names = named_all window (take found.fields headers) h.fields fields valid.fields;
    }
    by_kind Requests (reply h) valid start fields = absurd start
    by_kind Replies (request h) valid start fields = absurd valid
    by_kind Replies (reply h) valid start fields = absurd start

-- ---- bodies

abbrev pub chunked_begins : (bytes : List ℕ) (found : Extent) → IsChunkedAt bytes found → BeginsChunked bytes
chunked_begins bytes found at = record { body = at.body; rest = drop found.text bytes; valid = at.valid; fits = omega (arith, at.body_is, at.body_fits); whole = at.whole }

record BodyText (f : Framing) (bytes : List ℕ) (len : ℕ) (body : List ℕ) : Type 0 where
  is_body : IsBodyText f body (take len bytes)
  fits : length body ≤ max_body
  enough : len ≤ length bytes

take_none : (bytes : List ℕ) (n : ℕ) → n ≡ 0 → take n bytes ≡ []
take_none bytes n e = ap (λ k. take k bytes) e

body_text : (f : Framing) (bytes : List ℕ) (found : Extent) (body : List ℕ) → IsBodyAt f bytes found → HasBody f bytes found.text body → BodyText f bytes found.text body
body_text NoBody bytes found body at has = record { is_body = (has, take_none bytes found.text at.1); fits = omega (arith, ap length has); enough = omega (arith, at.1) }
body_text (Fixed n) bytes found body (size, text, enough, small) has =
    let len : length (take found.text bytes) ≡ found.text = length-take-le found.text bytes (omega (arith, text, enough)) in
    record {
      is_body = (ap length has ∙ len ∙ text, sym has);
      fits = omega (arith, ap length has, len, text, small);
      enough = omega (arith, text, enough);
    }
body_text Chunked bytes found body at has =
    let b = has.begins in
    let same = chunked_unique b.body at.body bytes b.rest (drop found.text bytes) b.valid at.valid b.fits b.whole at.whole in
    let data_is : body ≡ chunk_data at.body.chunks = has.data_is ∙ same.0 in
    let len : found.text ≡ length (print_chunked at.body) = omega (arith, ap length at.whole, length-append (print_chunked at.body) (drop found.text bytes), length-drop found.text bytes, at.text_fits) in
    record {
      is_body = (at.body, at.valid, data_is, ap (λ n. take n bytes) len ∙ front_of bytes (print_chunked at.body) (drop found.text bytes) at.whole);
      fits = omega (arith, ap length data_is, at.body_is, at.body_fits);
      enough = at.text_fits;
    }

-- ---- messages

pub message_at : (kind : Kind) (bytes : List ℕ) (headers : List HeaderSpan) (found : MessageSpans) (h : Head) (body : List ℕ) (m : Message) → IsFoundAt kind bytes headers found h → HasBody found.framing (drop found.head.len bytes) found.body.text body
    → m ≡ message_of h body → IsMessageAt kind bytes m (found.head.len + found.body.text)
message_at kind bytes headers found h body m at has is =
    let rest = drop found.head.len bytes in
    let t = body_text found.framing rest found.body body at.body has in
    let reads = reads_all kind bytes (take max_head bytes) headers found.head h refl at.at in
    let text_is : take (found.head.len + found.body.text) bytes ≡ print_head h ++ take found.body.text rest =
    ap (take (found.head.len + found.body.text)) reads.whole ∙ ap (λ n. take (n + found.body.text) (print_head h ++ rest)) at.at.len ∙ take-append-add (print_head h) rest found.body.text in
    record {
      fits = omega (arith, at.fits, t.enough, length-drop found.head.len bytes);
      text = record {
        head = h;
        framing = found.framing;
        body = body;
        body_text = take found.body.text rest;
        valid = reads.valid;
        within = at.at.within;
        final = at.final;
        framed = at.framed;
        is_body = t.is_body;
        body_fits = t.fits;
        message_is = is;
        text_is = text_is;
      };
    }

-- the message of the spans
pub request_is : (kind : Kind) (bytes window : List ℕ) (headers : List HeaderSpan) (method target : Span) (found : HeadSpans) (h : Head) (body : List ℕ) → window ≡ take max_head bytes → found.start ≡ Request method target → IsHeadAt kind (take max_head bytes) headers found h
    → messages.Request (record { method = span_bytes window method; target = span_bytes window target; fields = map (header_bytes window) (take found.fields headers); body = body }) ≡ message_of h body
request_is kind bytes window headers method target found h body is starts at =
    let S : StartSpans → Type 0 = λ s. IsStartOf window s h in
    let P : List ℕ → Type 0 = λ w. IsHeadAt kind w headers found h in
    let here = subst P (sym is) at in
    by_kind h (subst S starts here.start) here.fields_are
  where
    by_kind : (h : Head) → IsStartOf window (Request method target) h → map (header_bytes window) (take found.fields headers) ≡ map name_and_value (field_lines h)
        → messages.Request (record { method = span_bytes window method; target = span_bytes window target; fields = map (header_bytes window) (take found.fields headers); body = body }) ≡ message_of h body
    by_kind (request h) start fields = λ i. messages.Request (record { method = start.0 i; target = start.1 i; fields = fields i; body = body })
    by_kind (reply h) start fields = absurd start

pub reply_is : (kind : Kind) (bytes : List ℕ) (headers : List HeaderSpan) (status : ℕ) (found : HeadSpans) (h : Head) (body : List ℕ) → found.start ≡ Reply status → IsHeadAt kind (take max_head bytes) headers found h
    → messages.Reply (record { status = status; body = body }) ≡ message_of h body
reply_is kind bytes headers status found h body starts at =
    let S : StartSpans → Type 0 = λ s. IsStartOf (take max_head bytes) s h in
    by_kind h (subst S starts at.start)
  where
    by_kind : (h : Head) → IsStartOf (take max_head bytes) (Reply status) h → messages.Reply (record { status = status; body = body }) ≡ message_of h body
    by_kind (reply h) start = λ i. messages.Reply (record { status = start i; body = body })
    by_kind (request h) start = absurd start

-- the body, in the slice behind the head
pub body_behind : (f : Framing) (bytes : List ℕ) (n len : ℕ) (body : List ℕ) → HasBody f (take (length bytes - n) (drop n bytes)) len body → HasBody f (drop n bytes) len body
body_behind f bytes n len body has = let P : List ℕ → Type 0 = λ v. HasBody f v len body in subst P (to_end bytes n) has
