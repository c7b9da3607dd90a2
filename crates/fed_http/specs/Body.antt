-- The bytes that a body is sent as (RFC 9112, sections 6 and 7.1).
use Rattle.std.specs.Prelude.{◌≡◌, ℕ, ◌<◌, ◌≤◌, List, [], ◌++◌, length, All}
use Rattle.std.specs.List.{flat_map, AllByRecursion}
use Rattle.httparse.specs.Ascii.{crlf_bytes}
use Rattle.httparse.specs.Grammar.{ChunkLine, IsChunkLine, print_chunk_line, chunk_size, Field, IsField, LineEnd, print_section}
use Rattle.fed_http.specs.Limits.{max_head, max_fields}
use Rattle.fed_http.specs.declared.framing.Framing.{Framing}
use Rattle.fed_http.specs.declared.framing.Framing.TheVariants.{NoBody, Fixed, Chunked}

-- a chunk: the line that tells its size, and its data
pub record Chunk : Type 0 where
  pub line : ChunkLine
  pub bytes : List ℕ

-- chunk = line data CR LF
abbrev pub print_chunk : Chunk → List ℕ
print_chunk c = print_chunk_line c.line ++ c.bytes ++ crlf_bytes

-- a chunk line, with its extension, that is not too long
pub record IsShortLine (l : ChunkLine) : Type 0 where
  pub valid : IsChunkLine l
  pub short : length (print_chunk_line l) ≤ max_head

-- its line tells its size, which is not 0
pub record IsChunk (c : Chunk) : Type 0 where
  pub line : IsShortLine c.line
  pub size : chunk_size c.line ≡ length c.bytes
  pub some : 0 < length c.bytes

-- last-chunk: its size is 0
pub record IsLastLine (l : ChunkLine) : Type 0 where
  pub line : IsShortLine l
  pub size : chunk_size l ≡ 0

-- a trailer section that is not too large
pub record IsTrailer (fields : List Field) (end : LineEnd) : Type 0 where
  pub valid : All IsField fields
  pub few : length fields ≤ max_fields
  pub short : length (print_section fields end) ≤ max_head

abbrev pub print_chunks : List Chunk → List ℕ
print_chunks chunks = flat_map print_chunk chunks

-- the data of the chunks, one after another
abbrev pub chunk_data : List Chunk → List ℕ
chunk_data chunks = flat_map (λ c. c.bytes) chunks

-- chunked-body = *chunk last-chunk trailer-section
pub record ChunkedBody : Type 0 where
  pub chunks : List Chunk
  pub last : ChunkLine
  pub trailers : List Field
  pub end : LineEnd

abbrev pub print_chunked : ChunkedBody → List ℕ
print_chunked b = print_chunks b.chunks ++ print_chunk_line b.last ++ print_section b.trailers b.end

pub record IsChunkedBody (b : ChunkedBody) : Type 0 where
  pub chunks : AllByRecursion IsChunk b.chunks
  pub last : IsLastLine b.last
  pub trailer : IsTrailer b.trailers b.end

-- the body is sent as this text
abbrev pub IsBodyText : Framing → List ℕ → List ℕ → Type 0
IsBodyText NoBody body text = (body ≡ []) × (text ≡ [])
IsBodyText (Fixed n) body text = (length body ≡ n) × (text ≡ body)
IsBodyText Chunked body text = (b : ChunkedBody) × IsChunkedBody b × (body ≡ chunk_data b.chunks) × (text ≡ print_chunked b)
