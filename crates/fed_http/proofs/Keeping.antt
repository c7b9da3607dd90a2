-- What is kept of bytes, and what it says of them.
use Rattle.std.proofs.Common.{arith, ◌≡◌, ℕ, ◌+◌, ◌-◌, ◌<◌, ◌≤◌, List, [], ◌∷◌, ◌++◌, length, take, drop, replicate, refl, sym, ap, ◌∙◌, append_assoc, append-nil, length-append, None}
use Rattle.std.proofs.lemmas.List.{take-append-drop, take-append-le, length-replicate}
use Rattle.std.proofs.lemmas.List.Elements.{All-nil, All-cons}
use Rattle.std.specs.Prelude.{IsTrue}
use Rattle.std.specs.Char.{is_ascii_hexdigit}
use Rattle.httparse.specs.Ascii.{crlf_bytes}
use Rattle.httparse.specs.Grammar.{ChunkLine, IsChunkLine, print_chunk_line, print_extension, IsField, lf, print_section, HasNoSection, is_ows}
use Rattle.httparse.proofs.PieceLemmas.{front-append}
use Rattle.fed_http.specs.Limits.{max_body}
use Rattle.fed_http.specs.Head.{print_head}
use Rattle.fed_http.specs.Body.{Chunk, IsChunk, IsLastLine, print_chunk, chunk_data}
use Rattle.fed_http.specs.Faults.{ReachesBody, ReachesTrailer}
use Rattle.fed_http.specs.ChunkParts.{LacksLine, LacksTrailer}
use Rattle.fed_http.specs.Waiting.{IsWaiting}
use Rattle.fed_http.specs.Waiting as waiting
use Rattle.fed_http.specs.Keeping.{Kept, KeepsHead, IsInBody, KeepsChunks, IsInChunk}
use Rattle.fed_http.specs.declared.framing.Framing.{Framing}
use Rattle.fed_http.specs.declared.framing.Framing.TheVariants.{Fixed, Chunked}
use Rattle.fed_http.specs.declared.message.Kind.{Kind}
use Rattle.fed_http.proofs.Windows.{split_same, front_of}
use Rattle.fed_http.proofs.LineCounts.{front_in, section_front, section_is}
use Rattle.fed_http.proofs.Stays.{chunks_on, chunks_is}

-- ---- lists

pub spread : (a b c d : List ℕ) → (a ++ (b ++ c)) ++ d ≡ a ++ (b ++ (c ++ d))
spread a b c d = simp append_assoc

-- the first of the first bytes
pub take_first : (n m : ℕ) (bytes : List ℕ) → n ≤ length (take m bytes) → take n (take m bytes) ≡ take n bytes
take_first n m bytes short = sym (take-append-le n (take m bytes) (drop m bytes) short) ∙ ap (take n) (take-append-drop m bytes)

-- what a longer front has behind a shorter one
pub split_front : (line more a r : List ℕ) → line ++ more ≡ a ++ r → length line ≤ length a → a ≡ line ++ take (length a - length line) more
split_front line more a r e short =
    let x = front_in a r line more (sym e) short in
    let tail : more ≡ x.0 ++ r = (split_same line line more (x.0 ++ r) refl (e ∙ ap (λ v. v ++ r) x.1 ∙ append_assoc line x.0 r)).1 in
    let len : length x.0 ≡ length a - length line = omega (arith, ap length x.1, length-append line x.0) in
    x.1 ∙ ap (λ v. line ++ v) (sym (front_of more x.0 r tail) ∙ ap (λ n. take n more) len)

-- ---- the head

pub keeps_reaches : (kind : Kind) (k : Kept) (bytes : List ℕ) (f : Framing) (line rest : List ℕ) → KeepsHead kind k bytes f line rest → ReachesBody kind bytes f rest
keeps_reaches kind k bytes f line rest x = record { head = x.head; reads = record { valid = x.valid; whole = x.whole }; within = x.within; final = x.final; framed = x.framed }

-- more bytes, and another line
abbrev pub keeps_on : (kind : Kind) (k j : Kept) (bytes more : List ℕ) (f : Framing) (line other rest : List ℕ) (x : KeepsHead kind k bytes f line rest) → j.start ≡ k.start → j.head ≡ k.head → j.text ≡ other
    → KeepsHead kind j (bytes ++ more) f other (rest ++ more)
keeps_on kind k j bytes more f line other rest x start head text = record {
  head = x.head;
  valid = x.valid;
  within = x.within;
  final = x.final;
  framed = x.framed;
  start = start ∙ x.start;
  len = head ∙ x.len;
  text = text;
  whole = front-append bytes (print_head x.head) rest more x.whole;
}

-- the text with more bytes behind the line
pub text_more : (kind : Kind) (k : Kept) (bytes more : List ℕ) (f : Framing) (line rest all : List ℕ) (x : KeepsHead kind k bytes f line rest) → all ≡ k.text ++ more → all ≡ line ++ more
text_more kind k bytes more f line rest all x is = is ∙ ap (λ v. v ++ more) x.text

-- ---- chunks

abbrev pub chunks_more : (kind : Kind) (k j : Kept) (bytes more line mid other : List ℕ) (x : KeepsChunks kind k bytes line mid) → j.start ≡ k.start → j.head ≡ k.head → j.text ≡ other
    → KeepsChunks kind j (bytes ++ more) other (mid ++ more)
chunks_more kind k j bytes more line mid other x start head text = record {
  rest = x.rest ++ more;
  keeps = keeps_on kind k j bytes more Chunked line other x.rest x.keeps start head text;
  chunks = x.chunks;
  reads = chunks_on x.rest x.chunks mid more x.reads;
}

abbrev pub chunks_as : (kind : Kind) (k : Kept) (bytes line mid other : List ℕ) (x : KeepsChunks kind k bytes line mid) → mid ≡ other → KeepsChunks kind k bytes line other
chunks_as kind k bytes line mid other x is = record { rest = x.rest; keeps = x.keeps; chunks = x.chunks; reads = chunks_is x.rest x.chunks mid other is x.reads }

pub chunks_reach : (kind : Kind) (k : Kept) (bytes line mid : List ℕ) (x : KeepsChunks kind k bytes line mid) → ReachesBody kind bytes Chunked x.rest
chunks_reach kind k bytes line mid x = keeps_reaches kind k bytes Chunked line x.rest x.keeps

-- ---- what is waited for

pub body_waits : (kind : Kind) (k : Kept) (bytes : List ℕ) (left : ℕ) → IsInBody kind k bytes left → IsWaiting kind bytes
body_waits kind k bytes left x = waiting.body x.size k.body (keeps_reaches kind k bytes (Fixed x.size) [] k.body x.keeps) x.fits (omega (arith, x.missing, x.some))

pub line_waits : (kind : Kind) (k : Kept) (bytes line : List ℕ) → KeepsChunks kind k bytes line line → LacksLine line → IsWaiting kind bytes
line_waits kind k bytes line x lacks = waiting.chunks x.rest (chunks_reach kind k bytes line line x) (waiting.line x.chunks line x.reads lacks.few lacks.none lacks.may)

-- a chunk of which the line and some data is there, with any other data
pub chunk_waits : (kind : Kind) (k : Kept) (bytes : List ℕ) (left : ℕ) (end tail : List ℕ) → IsInChunk kind k bytes left end → end ++ tail ≡ replicate left 0 ++ crlf_bytes → 0 < length tail → IsWaiting kind bytes
chunk_waits kind k bytes left end tail x ends some =
    let cs = x.keeps.chunks in
    let zeros : List ℕ = replicate left 0 in
    let c : Chunk = record { line = x.line; bytes = x.content ++ zeros } in
    let line = print_chunk_line x.line in
    let len : length (x.content ++ zeros) ≡ length x.content + left = omega (arith, length-append x.content zeros, length-replicate {A = ℕ} left 0) in
    let valid : IsChunk c = record { line = x.short; size = x.size ∙ sym len; some = omega (arith, len, x.size, x.some) } in
    let fits : length (chunk_data cs) + length c.bytes ≤ max_body = omega (arith, len, ap length x.body, length-append (chunk_data cs) x.content, x.fits) in
    let whole : (line ++ (x.content ++ end)) ++ tail ≡ print_chunk c =
    spread line x.content end tail ∙ ap (λ v. line ++ (x.content ++ v)) ends ∙ sym (joined line x.content zeros crlf_bytes) in
    waiting.chunks x.keeps.rest (chunks_reach kind k bytes line (line ++ (x.content ++ end)) x.keeps) (waiting.part cs (line ++ (x.content ++ end)) tail c x.keeps.reads valid fits whole some)
  where
    joined : (a b c d : List ℕ) → (a ++ (b ++ c)) ++ d ≡ a ++ (b ++ (c ++ d))
    joined a b c d = simp append_assoc

-- behind the line of the last chunk
pub reaches_trailer : (kind : Kind) (k : Kept) (bytes line rest : List ℕ) (last : ChunkLine) (x : KeepsChunks kind k bytes line (print_chunk_line last ++ rest)) → IsLastLine last → ReachesTrailer x.rest rest
reaches_trailer kind k bytes line rest last x is_last = record { chunks = x.chunks; last = last; reads = x.reads; is_last = is_last }

pub trailer_waits : (kind : Kind) (k : Kept) (bytes line : List ℕ) (last : ChunkLine) → KeepsChunks kind k bytes line (print_chunk_line last ++ line) → IsLastLine last → LacksTrailer line → IsWaiting kind bytes
trailer_waits kind k bytes line last x is_last lacks =
    waiting.chunks x.rest (chunks_reach kind k bytes line (print_chunk_line last ++ line) x) (waiting.trailer line (reaches_trailer kind k bytes line line last x is_last) lacks.few lacks.unended)

-- ---- nothing yet

line_some : (l : ChunkLine) → 0 < length (print_chunk_line l)
unfolding print_chunk_line
line_some l = omega (arith, length-append (l.digits ++ l.pad ++ print_extension l.extension) crlf_bytes)

-- the line of the last chunk
abbrev zero_line : ChunkLine
zero_line = record { digits = 48 ∷ []; pad = []; extension = None }

pub empty_lacks_line : LacksLine []
empty_lacks_line = record {
  few = omega arith;
  none = λ l rest reads. omega (arith, line_some l, ap length reads.1, length-append (print_chunk_line l) rest);
  may = (print_chunk_line zero_line, zero_line, (zero_valid, sym (append-nil (print_chunk_line zero_line))));
}
  where
    zero_valid : IsChunkLine zero_line
    zero_valid = record {
      digits = (omega arith, omega arith, All-cons (λ b. IsTrue (is_ascii_hexdigit b)) 48 [] refl (All-nil (λ b. IsTrue (is_ascii_hexdigit b))));
      pad = All-nil (λ b. IsTrue (is_ows b));
      extension = tt;
    }

empty_has_no_section : HasNoSection []
empty_has_no_section fields end rest reads =
    omega (arith, ap length reads.1, length-append (print_section fields end) rest, ap length (section_is fields end), length-append (section_front fields end) (10 ∷ []))

pub empty_lacks_trailer : LacksTrailer []
empty_lacks_trailer = record {
  few = omega arith;
  unended = record {
    none = empty_has_no_section;
    may = (10 ∷ [], [], lf, (All-nil IsField, refl));
    few = omega arith;
  };
}
