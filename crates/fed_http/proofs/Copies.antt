-- The data of the chunks that were copied, and what is left behind them.
use Rattle.std.proofs.Common.{arith, ◌≡◌, ◌≢◌, ℕ, ◌+◌, ◌-◌, ◌^◌, ◌<◌, ◌≤◌, List, [], ◌∷◌, ◌++◌, length, take, drop, refl, sym, ap, subst, ◌∙◌, length-append, append-nil}
use Rattle.std.specs.List.{AllByRecursion}
use Rattle.httparse.specs.Ascii.{crlf_bytes}
use Rattle.httparse.specs.Grammar.{print_chunk_line, chunk_size}
use Rattle.fed_http.specs.Limits.{max_body}
use Rattle.fed_http.specs.Body.{Chunk, IsChunk, print_chunk, print_chunks, chunk_data, ChunkedBody, IsChunkedBody, print_chunked}
use Rattle.fed_http.specs.Faults.{ReadsChunks, HasBadLine}
use Rattle.fed_http.specs.ChunkParts.{IsLineAt, LacksLine, BeginsChunked, HasChunkedBody}
use Rattle.fed_http.specs.declared.chunks.Line.{Line}
use Rattle.fed_http.proofs.Windows.{fits_in, behind, front_of, to_end}
use Rattle.fed_http.proofs.ChunkLemmas.{bad_line_excludes, some_line, next_line, NextLine, the_last, a_chunk, section_and, chunked_parts, chunked_from_parts, chunk_from_line}
use Rattle.fed_http.proofs.Walks.{pushed, data_pushed}

-- what is left is the rest of a chunked body whose chunks so far have this data
pub record Copied (bytes copied rest : List ℕ) : Type 0 where
  pub done : List Chunk
  pub left : ChunkedBody
  pub after : List ℕ
  pub reads : ReadsChunks bytes done rest
  pub copied_is : copied ≡ chunk_data done
  pub valid : IsChunkedBody left
  pub fits : length (chunk_data done) + length (chunk_data left.chunks) ≤ max_body
  pub whole : rest ≡ print_chunked left ++ after

pub copy_starts : (bytes : List ℕ) → BeginsChunked bytes → Copied bytes [] bytes
copy_starts bytes b = record {
  done = [];
  left = b.body;
  after = b.rest;
  reads = record { valid = tt; fits = omega arith; whole = refl };
  copied_is = refl;
  valid = b.valid;
  fits = omega (arith, b.fits);
  whole = b.whole;
}

left_parts : (bytes copied rest : List ℕ) (k : Copied bytes copied rest) → rest ≡ print_chunks k.left.chunks ++ (print_chunk_line k.left.last ++ section_and k.left k.after)
left_parts bytes copied rest k = chunked_parts k.left rest k.after k.whole

-- a line is there
pub has_line : (bytes copied rest : List ℕ) → Copied bytes copied rest → LacksLine rest → ⊥
has_line bytes copied rest k lacks =
    let (l, tail, short, is) = some_line k.left.chunks k.left.last rest (section_and k.left k.after) k.valid.chunks k.valid.last (left_parts bytes copied rest k) in
    lacks.none l tail (short.valid, is)

pub has_short_line : (bytes copied rest : List ℕ) → Copied bytes copied rest → HasBadLine rest → ⊥
has_short_line bytes copied rest k never =
    let (l, tail, short, is) = some_line k.left.chunks k.left.last rest (section_and k.left k.after) k.valid.chunks k.valid.last (left_parts bytes copied rest k) in
    bad_line_excludes rest [] l tail never short (append-nil rest ∙ is)

next_of : (bytes copied rest : List ℕ) (found : Line) (k : Copied bytes copied rest) (at : IsLineAt rest found) → NextLine k.left.chunks k.left.last at.line (drop found.len rest) (section_and k.left k.after)
next_of bytes copied rest found k at =
    next_line k.left.chunks k.left.last at.line rest (drop found.len rest) (section_and k.left k.after) k.valid.chunks k.valid.last at.short at.whole (left_parts bytes copied rest k)

-- the last line: all is copied
pub copy_ends : (bytes copied rest : List ℕ) (found : Line) → Copied bytes copied rest → IsLineAt rest found → found.size ≡ 0 → HasChunkedBody bytes copied
copy_ends bytes copied rest found k at zero =
    elim (next_of bytes copied rest found k at) [
      | the_last none same is ↦
          let body : ChunkedBody = record { chunks = k.done; last = k.left.last; trailers = k.left.trailers; end = k.left.end } in
          let tail : rest ≡ print_chunk_line k.left.last ++ section_and k.left k.after = left_parts bytes copied rest k ∙ ap (λ v. print_chunks v ++ (print_chunk_line k.left.last ++ section_and k.left k.after)) none in
          record {
            begins = record {
              body = body;
              rest = k.after;
              valid = record { chunks = k.reads.valid; last = k.valid.last; trailer = k.valid.trailer };
              fits = k.reads.fits;
              whole = chunked_from_parts body bytes k.after (k.reads.whole ∙ ap (λ v. print_chunks k.done ++ v) tail);
            };
            data_is = k.copied_is;
          }
      | a_chunk c others has vc same is ↦
          absurd (omega (arith, vc.some, sym vc.size ∙ ap chunk_size same ∙ sym at.size ∙ zero))
    ]

-- the chunk of a line whose size is not 0
pub record NextChunk (bytes copied rest : List ℕ) (found : Line) : Type 0 where
  pub enough : found.len + found.size + 2 ≤ length rest
  pub small : found.len + found.size + 2 < 2 ^ 32
  pub goes_on : (more : List ℕ) → more ≡ take found.size (drop found.len rest) → Copied bytes (copied ++ more) (drop (found.len + found.size + 2) rest)

pub copy_on : (bytes copied rest : List ℕ) (found : Line) → Copied bytes copied rest → IsLineAt rest found → found.size ≢ 0 → NextChunk bytes copied rest found
copy_on bytes copied rest found k at some =
    elim (next_of bytes copied rest found k at) [
      | the_last none same is ↦ absurd (some (at.size ∙ ap chunk_size (sym same) ∙ k.valid.last.size))
      | a_chunk c others has vc same is ↦ chunk_on c others has vc same is
    ]
  where
    chunk_on : (c : Chunk) (others : List Chunk) → k.left.chunks ≡ c ∷ others → IsChunk c → c.line ≡ at.line
        → drop found.len rest ≡ c.bytes ++ (crlf_bytes ++ (print_chunks others ++ (print_chunk_line k.left.last ++ section_and k.left k.after))) → NextChunk bytes copied rest found
    chunk_on c others has vc same is =
        let x = print_chunks others ++ (print_chunk_line k.left.last ++ section_and k.left k.after) in
        let size : found.size ≡ length c.bytes = at.size ∙ ap chunk_size (sym same) ∙ vc.size in
        let line_len : found.len ≡ length (print_chunk_line c.line) = at.len ∙ ap (λ l. length (print_chunk_line l)) (sym same) in
        let whole : rest ≡ print_chunk c ++ x = chunk_from_line c rest x (at.whole ∙ ap (λ l. print_chunk_line l ++ drop found.len rest) (sym same) ∙ ap (λ v. print_chunk_line c.line ++ v) is) in
        let len : found.len + found.size + 2 ≡ length (print_chunk c) = omega (arith, line_len, size, length-append (print_chunk_line c.line ++ c.bytes) crlf_bytes, length-append (print_chunk_line c.line) c.bytes) in
        let rest_is : drop (found.len + found.size + 2) rest ≡ x = ap (λ n. drop n rest) len ∙ behind rest (print_chunk c) x whole in
        let left_data : length (chunk_data k.left.chunks) ≡ length c.bytes + length (chunk_data others) = ap (λ v. length (chunk_data v)) has ∙ length-append c.bytes (chunk_data others) in
        let fits : length (chunk_data k.done) + length c.bytes ≤ max_body = omega (arith, k.fits, left_data) in
        let P : List Chunk → Type 0 = AllByRecursion IsChunk in
        let all = subst P has k.valid.chunks in
        let left : ChunkedBody = record { chunks = others; last = k.left.last; trailers = k.left.trailers; end = k.left.end } in
        record {
          enough = omega (arith, len, fits_in rest (print_chunk c) x whole);
          small = omega (arith, size, fits, at.len, at.short.short);
          goes_on = λ more taken. record {
            done = k.done ++ c ∷ [];
            left = left;
            after = k.after;
            reads = pushed bytes rest k.done c (drop (found.len + found.size + 2) rest) k.reads.valid vc fits k.reads.whole (whole ∙ ap (λ v. print_chunk c ++ v) (sym rest_is));
            copied_is = ap (λ v. v ++ more) k.copied_is ∙ ap (λ v. chunk_data k.done ++ v) (taken ∙ ap (λ n. take n (drop found.len rest)) size ∙ front_of (drop found.len rest) c.bytes (crlf_bytes ++ x) is) ∙ sym (data_pushed k.done c);
            valid = record { chunks = all.1; last = k.valid.last; trailer = k.valid.trailer };
            fits = omega (arith, k.fits, left_data, ap length (data_pushed k.done c), length-append (chunk_data k.done) c.bytes);
            whole = chunked_from_parts left (drop (found.len + found.size + 2) rest) k.after rest_is;
          };
        }

-- as the slices of the loop have it
pub copied_on : (bytes copied rest all : List ℕ) (found : Line) → NextChunk bytes copied rest found → all ≡ copied ++ take (found.len + found.size - found.len) (drop found.len rest)
    → Copied bytes all (take (length rest - (found.len + found.size + 2)) (drop (found.len + found.size + 2) rest))
copied_on bytes copied rest all found next is =
    let more = take (found.len + found.size - found.len) (drop found.len rest) in
    let count : found.len + found.size - found.len ≡ found.size = omega arith in
    let k = next.goes_on more (ap (λ n. take n (drop found.len rest)) count) in
    let P : List ℕ → Type 0 = λ v. Copied bytes v (drop (found.len + found.size + 2) rest) in
    subst (Copied bytes all) (sym (to_end rest (found.len + found.size + 2))) (subst P (sym is) k)
