-- Why bytes begin no message: one fact for each fault, of which at most one holds of any bytes. Bytes past a limit are not looked at.
use Rattle.std.specs.Prelude.{◌≡◌, ℕ, ◌+◌, ◌<◌, ◌≤◌, ◌⊎◌, List, ◌++◌, length, Some, None, ⊤}
use Rattle.std.specs.List.{AllByRecursion}
use Rattle.httparse.specs.Ascii.{crlf_bytes}
use Rattle.httparse.specs.Grammar.{ChunkLine, print_chunk_line, chunk_size, HasNoChunkLine, NeverHasChunkLine, ResponseHead, status_code, NeverHasSection}
use Rattle.fed_http.specs.Limits.{max_head, max_fields, max_body, window}
use Rattle.fed_http.specs.Unfinished.{IsUnfinishedHead, IsUnfinishedTrailer, IsFullTrailer, trailer_front}
use Rattle.fed_http.specs.Head.{Head, reply, ReadsHead, field_lines, IsWithinLimits, IsFinal, head_framing}
use Rattle.fed_http.specs.Body.{Chunk, IsChunk, IsShortLine, IsLastLine, print_chunks, chunk_data}
use Rattle.fed_http.specs.declared.fault.HttpFault.{HttpFault}
use Rattle.fed_http.specs.declared.fault.HttpFault.TheVariants.{Memory, BadHead, TooLarge, BadLength, BadChunk, HasFailed}
use Rattle.fed_http.specs.declared.framing.Framing.{Framing}
use Rattle.fed_http.specs.declared.framing.Framing.TheVariants.{Fixed, Chunked}
use Rattle.fed_http.specs.declared.message.Kind.{Kind}

-- ---- how far a message was read

-- the bytes are a head, whose body is framed so, and then rest
pub record ReachesBody (kind : Kind) (bytes : List ℕ) (framing : Framing) (rest : List ℕ) : Type 0 where
  pub head : Head
  pub reads : ReadsHead kind bytes head rest
  pub within : IsWithinLimits head
  pub final : IsFinal head
  pub framed : head_framing head ≡ Some framing

-- the bytes are these chunks and then rest
pub record ReadsChunks (bytes : List ℕ) (chunks : List Chunk) (rest : List ℕ) : Type 0 where
  pub valid : AllByRecursion IsChunk chunks
  pub fits : length (chunk_data chunks) ≤ max_body
  pub whole : bytes ≡ print_chunks chunks ++ rest

-- the bytes are some chunks, the last one, and then rest
pub record ReachesTrailer (bytes rest : List ℕ) : Type 0 where
  pub chunks : List Chunk
  pub last : ChunkLine
  pub reads : ReadsChunks bytes chunks (print_chunk_line last ++ rest)
  pub is_last : IsLastLine last

-- ---- the bytes of a chunked body

-- the first bytes are no chunk line, whatever follows, or they are all that one may have and none is there
abbrev pub HasBadLine : List ℕ → Type 0
HasBadLine bytes = NeverHasChunkLine (window bytes) ⊎ ((max_head ≤ length bytes) × HasNoChunkLine (window bytes))

-- whatever bytes follow, the front is not CR LF
abbrev pub NeverHasLineEnd : List ℕ → Type 0
NeverHasLineEnd bytes = (more rest : List ℕ) → ¬ (bytes ++ more ≡ crlf_bytes ++ rest)

-- After some chunks comes no chunk line, or data within the limit that CR LF does not follow, or what is no trailer section, whatever
-- follows (RFC 9112, section 7.1).
pub data HasBadChunk (bytes : List ℕ) : Type 0 where
  no_line : (chunks : List Chunk) (rest : List ℕ) → ReadsChunks bytes chunks rest → HasBadLine rest → HasBadChunk bytes
  no_line_end : (chunks : List Chunk) (l : ChunkLine) (content rest : List ℕ) → ReadsChunks bytes chunks (print_chunk_line l ++ content ++ rest)
      → IsShortLine l → chunk_size l ≡ length content → 0 < length content → length (chunk_data chunks) + length content ≤ max_body → NeverHasLineEnd rest → HasBadChunk bytes
  no_trailer : (rest : List ℕ) → ReachesTrailer bytes rest → NeverHasSection (trailer_front rest) → HasBadChunk bytes

-- some chunks and the one whose line comes then are over the limit together
pub record HasLargeChunks (bytes : List ℕ) : Type 0 where
  pub chunks : List Chunk
  pub line : ChunkLine
  pub rest : List ℕ
  pub reads : ReadsChunks bytes chunks (print_chunk_line line ++ rest)
  pub short : IsShortLine line
  pub large : max_body < length (chunk_data chunks) + chunk_size line

-- as many bytes of a trailer are there as it may have, and it may end yet
pub record HasLargeTrailer (bytes : List ℕ) : Type 0 where
  pub rest : List ℕ
  pub reaches : ReachesTrailer bytes rest
  pub full : max_head ≤ length rest
  pub unended : IsUnfinishedTrailer (trailer_front rest)

-- as many lines of a trailer are there as it may have, each of them one of a field
pub record HasManyTrailers (bytes : List ℕ) : Type 0 where
  pub rest : List ℕ
  pub reaches : ReachesTrailer bytes rest
  pub full : IsFullTrailer (trailer_front rest)

-- ---- the faults

-- whatever bytes follow, a head has too many fields
abbrev pub HasTooManyFields : Kind → List ℕ → Type 0
HasTooManyFields kind bytes = (more : List ℕ) (h : Head) (rest : List ℕ) → ReadsHead kind (bytes ++ more) h rest → max_fields < length (field_lines h)

-- The first bytes are no head and no beginning of one, but of such with too many fields; or the head is that of an interim reply; or the
-- trailer has too many fields.
pub data IsBadHead (kind : Kind) (bytes : List ℕ) : Type 0 where
  no_head : HasTooManyFields kind (window bytes) → ¬ (IsUnfinishedHead kind (window bytes)) → IsBadHead kind bytes
  interim : (h : ResponseHead) (rest : List ℕ) → ReadsHead kind bytes (reply h) rest → IsWithinLimits (reply h) → status_code h < 200 → IsBadHead kind bytes
  trailers : (rest : List ℕ) → ReachesBody kind bytes Chunked rest → HasManyTrailers rest → IsBadHead kind bytes

-- As many bytes are there as a head may have, and it may end yet; or the length that the head gives is too large; or the chunks or the
-- trailer are.
pub data IsTooLarge (kind : Kind) (bytes : List ℕ) : Type 0 where
  large_head : max_head ≤ length bytes → IsUnfinishedHead kind (window bytes) → IsTooLarge kind bytes
  large_length : (n : ℕ) (rest : List ℕ) → ReachesBody kind bytes (Fixed n) rest → max_body < n → IsTooLarge kind bytes
  large_chunks : (rest : List ℕ) → ReachesBody kind bytes Chunked rest → HasLargeChunks rest → IsTooLarge kind bytes
  large_trailer : (rest : List ℕ) → ReachesBody kind bytes Chunked rest → HasLargeTrailer rest → IsTooLarge kind bytes

-- the head does not say in one way how long the body is
pub record IsBadLength (kind : Kind) (bytes : List ℕ) : Type 0 where
  pub head : Head
  pub rest : List ℕ
  pub reads : ReadsHead kind bytes head rest
  pub within : IsWithinLimits head
  pub final : IsFinal head
  pub refused : head_framing head ≡ None

-- the head gives a length that is too large
pub record HasLargeLength (kind : Kind) (bytes : List ℕ) : Type 0 where
  pub size : ℕ
  pub rest : List ℕ
  pub reaches : ReachesBody kind bytes (Fixed size) rest
  pub large : max_body < size

-- the body comes in chunks, and one is not as it has to be
pub record IsBadChunk (kind : Kind) (bytes : List ℕ) : Type 0 where
  pub rest : List ℕ
  pub reaches : ReachesBody kind bytes Chunked rest
  pub bad : HasBadChunk rest

-- what a fault says of the bytes: of any bytes one says it at most, and it stays whatever follows
abbrev pub IsFault : Kind → List ℕ → HttpFault → Type 0
IsFault kind bytes Memory = ⊤
IsFault kind bytes BadHead = IsBadHead kind bytes
IsFault kind bytes TooLarge = IsTooLarge kind bytes
IsFault kind bytes BadLength = IsBadLength kind bytes
IsFault kind bytes BadChunk = IsBadChunk kind bytes
IsFault kind bytes HasFailed = ⊥
