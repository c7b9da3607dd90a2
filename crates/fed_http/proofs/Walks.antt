-- A walk over chunks, and what is left behind those that were walked over.
use Rattle.std.proofs.Common.{arith, ◌≡◌, ℕ, ◌+◌, ◌-◌, ◌<◌, ◌≤◌, List, [], ◌∷◌, ◌++◌, length, drop, refl, sym, ap, ◌∙◌, append_assoc, length-append, append-nil}
use Rattle.std.specs.List.{AllByRecursion}
use Rattle.std.proofs.lemmas.Grind.{flat_map-append}
use Rattle.httparse.specs.Grammar.{print_chunk_line}
use Rattle.fed_http.specs.Limits.{max_body}
use Rattle.fed_http.specs.Body.{Chunk, IsChunk, print_chunk, print_chunks, chunk_data}
use Rattle.fed_http.specs.Faults.{ReadsChunks, HasBadChunk, no_line, no_line_end, HasLargeChunks}
use Rattle.fed_http.specs.Waiting.{LacksChunks}
use Rattle.fed_http.specs.Waiting as waiting
use Rattle.fed_http.specs.ChunkParts.{IsChunkAt, IsLastAt, LacksPart, HasBadPart, HasLargePart, IsPartFault, IsWalkFault, IsChunksEnd}
use Rattle.fed_http.specs.declared.fault.HttpFault.{HttpFault}
use Rattle.fed_http.specs.declared.fault.HttpFault.TheVariants.{Memory, BadHead, TooLarge, BadLength, BadChunk, HasFailed}
use Rattle.fed_http.specs.ChunkParts as parts
use Rattle.fed_http.proofs.Windows.{fits_in, at_len}

-- the first text bytes are chunks of so many bytes of data
pub record Walked (bytes : List ℕ) (body text : ℕ) : Type 0 where
  pub chunks : List Chunk
  pub reads : ReadsChunks bytes chunks (drop text bytes)
  pub body_is : body ≡ length (chunk_data chunks)
  pub body_fits : body ≤ max_body
  pub text_fits : text ≤ length bytes
  pub text_is : text ≡ length (print_chunks chunks)

pub walk_starts : (bytes : List ℕ) → Walked bytes 0 0
walk_starts bytes = record {
  chunks = [];
  reads = record { valid = tt; fits = omega arith; whole = refl };
  body_is = refl;
  body_fits = omega arith;
  text_fits = omega arith;
  text_is = refl;
}

all_push : (cs : List Chunk) (c : Chunk) → AllByRecursion IsChunk cs → IsChunk c → AllByRecursion IsChunk (cs ++ c ∷ [])
all_push [] c all is = (is, tt)
all_push (d ∷ cs) c all is = (all.0, all_push cs c all.1 is)

chunks_pushed : (cs : List Chunk) (c : Chunk) → print_chunks (cs ++ c ∷ []) ≡ print_chunks cs ++ print_chunk c
chunks_pushed cs c = flat_map-append print_chunk cs (c ∷ []) ∙ ap (λ v. print_chunks cs ++ v) (append-nil (print_chunk c))

pub data_pushed : (cs : List Chunk) (c : Chunk) → chunk_data (cs ++ c ∷ []) ≡ chunk_data cs ++ c.bytes
data_pushed cs c = flat_map-append (λ (k : Chunk). k.bytes) cs (c ∷ []) ∙ ap (λ v. chunk_data cs ++ v) (append-nil c.bytes)

-- one chunk further
pub pushed : (bytes rest : List ℕ) (cs : List Chunk) (c : Chunk) (x : List ℕ) → AllByRecursion IsChunk cs → IsChunk c → length (chunk_data cs) + length c.bytes ≤ max_body
    → bytes ≡ print_chunks cs ++ rest → rest ≡ print_chunk c ++ x → ReadsChunks bytes (cs ++ c ∷ []) x
pushed bytes rest cs c x all is fits e f = record {
  valid = all_push cs c all is;
  fits = omega (arith, ap length (data_pushed cs c), length-append (chunk_data cs) c.bytes);
  whole = e ∙ ap (λ v. print_chunks cs ++ v) f ∙ sym (append_assoc (print_chunks cs) (print_chunk c) x) ∙ ap (λ v. v ++ x) (sym (chunks_pushed cs c));
}

pub walk_on : (bytes rest : List ℕ) (body text size len : ℕ) → Walked bytes body text → rest ≡ drop text bytes → IsChunkAt rest (max_body - body) size len → Walked bytes (body + size) (text + len)
walk_on bytes rest body text size len w is at =
    let cs = w.chunks in
    let c = at.chunk in
    let fits : length (chunk_data cs) + length c.bytes ≤ max_body = omega (arith, w.body_is, w.body_fits, at.size_is, at.fits) in
    let next = pushed bytes rest cs c (drop len rest) w.reads.valid at.valid fits (w.reads.whole ∙ ap (λ v. print_chunks cs ++ v) (sym is)) at.whole in
    let text_is : text + len ≡ length (print_chunks (cs ++ c ∷ [])) = omega (arith, w.text_is, at.len_is, ap length (chunks_pushed cs c), length-append (print_chunks cs) (print_chunk c)) in
    record {
      chunks = cs ++ c ∷ [];
      reads = record { valid = next.valid; fits = next.fits; whole = at_len bytes (print_chunks (cs ++ c ∷ [])) (drop len rest) (text + len) next.whole text_is };
      body_is = omega (arith, w.body_is, at.size_is, ap length (data_pushed cs c), length-append (chunk_data cs) c.bytes);
      body_fits = omega (arith, w.body_is, at.size_is, fits);
      text_fits = omega (arith, text_is, fits_in bytes (print_chunks (cs ++ c ∷ [])) (drop len rest) next.whole);
      text_is = text_is;
    }

-- the chunk is not empty
pub chunk_some : (rest : List ℕ) (room size len : ℕ) → IsChunkAt rest room size len → (0 < len) × (len ≤ length rest)
chunk_some rest room size len at =
    (omega (arith, at.len_is, length-append (print_chunk_line at.chunk.line ++ at.chunk.bytes) (13 ∷ 10 ∷ [])), omega (arith, at.len_is, fits_in rest (print_chunk at.chunk) (drop len rest) at.whole))

-- what the part that comes says of all
rest_reads : (bytes rest : List ℕ) (body text : ℕ) (w : Walked bytes body text) → rest ≡ drop text bytes → ReadsChunks bytes w.chunks rest
rest_reads bytes rest body text w is = record { valid = w.reads.valid; fits = w.reads.fits; whole = w.reads.whole ∙ ap (λ v. print_chunks w.chunks ++ v) (sym is) }

pub walk_ends : (bytes rest : List ℕ) (body text len : ℕ) → Walked bytes body text → rest ≡ drop text bytes → IsLastAt rest len → IsChunksEnd bytes (record { body = body; text = text + len })
walk_ends bytes rest body text len w is at =
    let reads = rest_reads bytes rest body text w is in
    let whole : bytes ≡ (print_chunks w.chunks ++ print_chunk_line at.line) ++ drop len rest =
    reads.whole ∙ ap (λ v. print_chunks w.chunks ++ v) at.whole ∙ sym (append_assoc (print_chunks w.chunks) (print_chunk_line at.line) (drop len rest)) in
    let text_is : text + len ≡ length (print_chunks w.chunks ++ print_chunk_line at.line) = omega (arith, w.text_is, at.len_is, length-append (print_chunks w.chunks) (print_chunk_line at.line)) in
    let all = at_len bytes (print_chunks w.chunks ++ print_chunk_line at.line) (drop len rest) (text + len) whole text_is in
    record {
      reaches = record {
        chunks = w.chunks;
        last = at.line;
        reads = record { valid = reads.valid; fits = reads.fits; whole = all ∙ append_assoc (print_chunks w.chunks) (print_chunk_line at.line) (drop (text + len) bytes) };
        is_last = at.last;
      };
      body_is = w.body_is;
      text_fits = omega (arith, text_is, fits_in bytes (print_chunks w.chunks ++ print_chunk_line at.line) (drop len rest) whole);
    }

pub walk_lacks : (bytes rest : List ℕ) (body text : ℕ) → Walked bytes body text → rest ≡ drop text bytes → LacksPart rest (max_body - body) → LacksChunks bytes
walk_lacks bytes rest body text w is (parts.line lacks) = waiting.line w.chunks rest (rest_reads bytes rest body text w is) lacks.few lacks.none lacks.may
walk_lacks bytes rest body text w is (parts.rest more c valid fits whole some) =
    waiting.part w.chunks rest more c (rest_reads bytes rest body text w is) valid (omega (arith, w.body_is, w.body_fits, fits)) whole some

pub walk_bad : (bytes rest : List ℕ) (body text : ℕ) → Walked bytes body text → rest ≡ drop text bytes → HasBadPart rest (max_body - body) → HasBadChunk bytes
walk_bad bytes rest body text w is (parts.no_line never) = no_line w.chunks rest (rest_reads bytes rest body text w is) never
walk_bad bytes rest body text w is (parts.no_line_end l content tail whole short size some fits never) =
    let at = rest_reads bytes rest body text w is in
    no_line_end w.chunks l content tail (record { valid = at.valid; fits = at.fits; whole = at.whole ∙ ap (λ v. print_chunks w.chunks ++ v) whole }) short size some (omega (arith, w.body_is, w.body_fits, fits)) never

pub walk_large : (bytes rest : List ℕ) (body text : ℕ) → Walked bytes body text → rest ≡ drop text bytes → HasLargePart rest (max_body - body) → HasLargeChunks bytes
walk_large bytes rest body text w is large =
    let at = rest_reads bytes rest body text w is in
    record {
      chunks = w.chunks;
      line = large.line;
      rest = large.rest;
      reads = record { valid = at.valid; fits = at.fits; whole = at.whole ∙ ap (λ v. print_chunks w.chunks ++ v) large.whole };
      short = large.short;
      large = omega (arith, w.body_is, w.body_fits, large.large);
    }

pub walk_fault : (bytes rest : List ℕ) (body text : ℕ) (fault : HttpFault) → Walked bytes body text → rest ≡ drop text bytes → IsPartFault rest (max_body - body) fault → IsWalkFault bytes fault
walk_fault bytes rest body text Memory w is fact = fact
walk_fault bytes rest body text BadHead w is fact = fact
walk_fault bytes rest body text TooLarge w is fact = walk_large bytes rest body text w is fact
walk_fault bytes rest body text BadLength w is fact = fact
walk_fault bytes rest body text BadChunk w is fact = walk_bad bytes rest body text w is fact
walk_fault bytes rest body text HasFailed w is fact = fact
