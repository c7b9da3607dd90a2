-- What the parts of a chunked body are found to be.
use Rattle.std.specs.Prelude.{◌≡◌, ℕ, ◌<◌, ◌≤◌, ◌⊎◌, List, ◌++◌, length, drop}
use Rattle.httparse.specs.Ascii.{crlf_bytes}
use Rattle.httparse.specs.Grammar.{ChunkLine, print_chunk_line, chunk_size, Field, print_section, HasNoChunkLine, MayBecomeChunkLine, NeverHasSection}
use Rattle.httparse.specs.Grammar.{LineEnd as SectionEnd}
use Rattle.fed_http.specs.Limits.{max_head, max_body}
use Rattle.fed_http.specs.Unfinished.{IsUnfinishedTrailer, IsFullTrailer, trailer_front}
use Rattle.fed_http.specs.Body.{Chunk, IsChunk, IsShortLine, IsLastLine, IsTrailer, print_chunk, chunk_data, ChunkedBody, IsChunkedBody, print_chunked}
use Rattle.fed_http.specs.Faults.{ReachesTrailer, HasBadLine, NeverHasLineEnd, HasBadChunk, HasLargeChunks, HasLargeTrailer, HasManyTrailers}
use Rattle.fed_http.specs.declared.chunks.Line.{Line}
use Rattle.fed_http.specs.declared.chunks.Part.{Part}
use Rattle.fed_http.specs.declared.chunks.Part.TheVariants as parts
use Rattle.fed_http.specs.declared.chunks.Extent.{Extent}
use Rattle.fed_http.specs.declared.chunks.LineEnd.{LineEnd}
use Rattle.fed_http.specs.declared.chunks.LineEnd.TheVariants as ends
use Rattle.fed_http.specs.declared.fault.HttpFault.{HttpFault}
use Rattle.fed_http.specs.declared.fault.HttpFault.TheVariants.{Memory, BadHead, TooLarge, BadLength, BadChunk, HasFailed}

-- ---- lines

-- the first bytes are a chunk line
pub record IsLineAt (bytes : List ℕ) (found : Line) : Type 0 where
  pub line : ChunkLine
  pub short : IsShortLine line
  pub len : found.len ≡ length (print_chunk_line line)
  pub size : found.size ≡ chunk_size line
  pub whole : bytes ≡ print_chunk_line line ++ drop found.len bytes

-- no line is there, and one may be yet
pub record LacksLine (bytes : List ℕ) : Type 0 where
  pub few : length bytes < max_head
  pub none : HasNoChunkLine bytes
  pub may : MayBecomeChunkLine bytes

abbrev pub LineEndOf : List ℕ → LineEnd → Type 0
LineEndOf bytes ends.There = bytes ≡ crlf_bytes ++ drop 2 bytes
LineEndOf bytes ends.Unfinished = (more : List ℕ) × (bytes ++ more ≡ crlf_bytes) × (0 < length more)
LineEndOf bytes ends.Never = NeverHasLineEnd bytes

-- ---- chunks

-- the first bytes are a chunk, of so many bytes of data
pub record IsChunkAt (bytes : List ℕ) (room size len : ℕ) : Type 0 where
  pub chunk : Chunk
  pub valid : IsChunk chunk
  pub size_is : size ≡ length chunk.bytes
  pub fits : size ≤ room
  pub len_is : len ≡ length (print_chunk chunk)
  pub whole : bytes ≡ print_chunk chunk ++ drop len bytes

-- the first bytes are the line of the last chunk
pub record IsLastAt (bytes : List ℕ) (len : ℕ) : Type 0 where
  pub line : ChunkLine
  pub last : IsLastLine line
  pub len_is : len ≡ length (print_chunk_line line)
  pub whole : bytes ≡ print_chunk_line line ++ drop len bytes

-- the bytes are the beginning of a line, or of a chunk
pub data LacksPart (bytes : List ℕ) (room : ℕ) : Type 0 where
  line : LacksLine bytes → LacksPart bytes room
  rest : (more : List ℕ) (c : Chunk) → IsChunk c → length c.bytes ≤ room → bytes ++ more ≡ print_chunk c → 0 < length more → LacksPart bytes room

abbrev pub IsPartAt : List ℕ → ℕ → Part → Type 0
IsPartAt bytes room (parts.Chunk size len) = IsChunkAt bytes room size len
IsPartAt bytes room (parts.Last len) = IsLastAt bytes len
IsPartAt bytes room parts.Unfinished = LacksPart bytes room

pub data HasBadPart (bytes : List ℕ) (room : ℕ) : Type 0 where
  no_line : HasBadLine bytes → HasBadPart bytes room
  no_line_end : (l : ChunkLine) (content rest : List ℕ) → bytes ≡ print_chunk_line l ++ content ++ rest
      → IsShortLine l → chunk_size l ≡ length content → 0 < length content → length content ≤ room → NeverHasLineEnd rest → HasBadPart bytes room

-- the line of a chunk that is larger than the room
pub record HasLargePart (bytes : List ℕ) (room : ℕ) : Type 0 where
  pub line : ChunkLine
  pub rest : List ℕ
  pub whole : bytes ≡ print_chunk_line line ++ rest
  pub short : IsShortLine line
  pub large : room < chunk_size line

abbrev pub IsPartFault : List ℕ → ℕ → HttpFault → Type 0
IsPartFault bytes room Memory = ⊥
IsPartFault bytes room BadHead = ⊥
IsPartFault bytes room TooLarge = HasLargePart bytes room
IsPartFault bytes room BadLength = ⊥
IsPartFault bytes room BadChunk = HasBadPart bytes room
IsPartFault bytes room HasFailed = ⊥

-- ---- all chunks

-- the first bytes are chunks of so many bytes of data, and the line of the last one
pub record IsChunksEnd (bytes : List ℕ) (found : Extent) : Type 0 where
  pub reaches : ReachesTrailer bytes (drop found.text bytes)
  pub body_is : found.body ≡ length (chunk_data reaches.chunks)
  pub text_fits : found.text ≤ length bytes

abbrev pub IsWalkFault : List ℕ → HttpFault → Type 0
IsWalkFault bytes Memory = ⊥
IsWalkFault bytes BadHead = ⊥
IsWalkFault bytes TooLarge = HasLargeChunks bytes
IsWalkFault bytes BadLength = ⊥
IsWalkFault bytes BadChunk = HasBadChunk bytes
IsWalkFault bytes HasFailed = ⊥

-- ---- trailers

pub record IsTrailerAt (bytes : List ℕ) (len : ℕ) : Type 0 where
  pub fields : List Field
  pub end : SectionEnd
  pub trailer : IsTrailer fields end
  pub whole : bytes ≡ print_section fields end ++ drop len bytes
  pub fits : len ≤ length bytes

pub record LacksTrailer (bytes : List ℕ) : Type 0 where
  pub few : length bytes < max_head
  pub unended : IsUnfinishedTrailer (trailer_front bytes)

abbrev pub IsTrailerFault : List ℕ → HttpFault → Type 0
IsTrailerFault bytes Memory = ⊥
IsTrailerFault bytes BadHead = IsFullTrailer (trailer_front bytes)
IsTrailerFault bytes TooLarge = (max_head ≤ length bytes) × IsUnfinishedTrailer (trailer_front bytes)
IsTrailerFault bytes BadLength = ⊥
IsTrailerFault bytes BadChunk = NeverHasSection (trailer_front bytes)
IsTrailerFault bytes HasFailed = ⊥

-- ---- the body

-- the first bytes are a chunked body, of so many bytes
pub record IsChunkedAt (bytes : List ℕ) (found : Extent) : Type 0 where
  pub body : ChunkedBody
  pub valid : IsChunkedBody body
  pub body_is : found.body ≡ length (chunk_data body.chunks)
  pub body_fits : found.body ≤ max_body
  pub whole : bytes ≡ print_chunked body ++ drop found.text bytes
  pub text_fits : found.text ≤ length bytes

-- a chunked body is at the front
pub record BeginsChunked (bytes : List ℕ) : Type 0 where
  pub body : ChunkedBody
  pub rest : List ℕ
  pub valid : IsChunkedBody body
  pub fits : length (chunk_data body.chunks) ≤ max_body
  pub whole : bytes ≡ print_chunked body ++ rest

-- a chunked body with this data is at the front
pub record HasChunkedBody (bytes data_bytes : List ℕ) : Type 0 where
  pub begins : BeginsChunked bytes
  pub data_is : data_bytes ≡ chunk_data begins.body.chunks

abbrev pub IsChunkedFault : List ℕ → HttpFault → Type 0
IsChunkedFault bytes Memory = ⊥
IsChunkedFault bytes BadHead = HasManyTrailers bytes
IsChunkedFault bytes TooLarge = HasLargeChunks bytes ⊎ HasLargeTrailer bytes
IsChunkedFault bytes BadLength = ⊥
IsChunkedFault bytes BadChunk = HasBadChunk bytes
IsChunkedFault bytes HasFailed = ⊥
