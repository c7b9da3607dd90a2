-- What a reader keeps of the bytes of a message that is not whole, and which bytes it keeps it of.
use Rattle.std.specs.Prelude.{◌≡◌, ℕ, ◌+◌, ◌<◌, ◌≤◌, List, [], ◌∷◌, ◌++◌, length, Option, Some}
use Rattle.httparse.specs.Grammar.{ChunkLine, print_chunk_line, chunk_size, HasNoChunkLine, HasNoSection}
use Rattle.fed_http.specs.Limits.{max_head, max_body}
use Rattle.fed_http.specs.Head.{Head, IsHeadOf, print_head, IsWithinLimits, IsFinal, head_framing, message_of, HasNoHead}
use Rattle.fed_http.specs.Body.{Chunk, IsShortLine, IsLastLine, chunk_data}
use Rattle.fed_http.specs.Faults.{ReadsChunks}
use Rattle.fed_http.specs.Unfinished.{trailer_front}
use Rattle.fed_http.specs.Text.{IsText}
use Rattle.fed_http.specs.TextPlaces.{IsHeadPlace, IsLinePlace, IsTrailerPlace}
use Rattle.fed_http.specs.declared.framing.Framing.{Framing}
use Rattle.fed_http.specs.declared.framing.Framing.TheVariants as framings
use Rattle.fed_http.specs.declared.message.Kind.{Kind}
use Rattle.fed_http.specs.declared.message.Message.{Message}
use Rattle.fed_http.specs.declared.message.Message.TheVariants.{Request, Reply}
use Rattle.fed_http.specs.declared.place.Place.{Place}
use Rattle.fed_http.specs.declared.text_place.TextPlace.{TextPlace}
use Rattle.fed_http.specs.declared.place.Place.TheVariants.{InHead, InBody, InLine, InData, BehindData, BehindReturn, InTrailer, Ended}

-- where in the message the bytes end, and where in its head, a chunk line or the trailer; how many bytes its head has, once it is whole; the head,
-- the line of a chunk or the trailer, as far as it came; the message of the head, without its body; the body so far
pub record Kept : Type 0 where
  pub place : Place
  pub at : TextPlace
  pub head : ℕ
  pub text : List ℕ
  pub start : Option Message
  pub body : List ℕ

-- a message with this body
abbrev pub with_body : Message → List ℕ → Message
with_body (Request r) body = Request (record { method = r.method; target = r.target; fields = r.fields; body = body })
with_body (Reply r) body = Reply (record { status = r.status; body = body })

-- the bytes are a head, whose body is framed so, and then rest; of them the message of the head is kept, and line behind it
pub record KeepsHead (kind : Kind) (k : Kept) (bytes : List ℕ) (framing : Framing) (line rest : List ℕ) : Type 0 where
  pub head : Head
  pub valid : IsHeadOf kind head
  pub within : IsWithinLimits head
  pub final : IsFinal head
  pub framed : head_framing head ≡ Some framing
  pub start : k.start ≡ Some (message_of head [])
  pub len : k.head ≡ length (print_head head)
  pub text : k.text ≡ line
  pub whole : bytes ≡ print_head head ++ rest

-- the head is not whole
pub record IsInHead (kind : Kind) (k : Kept) (bytes : List ℕ) : Type 0 where
  pub len : k.head ≡ 0
  pub text : k.text ≡ bytes
  pub body : k.body ≡ []
  pub few : length bytes < max_head
  pub none : HasNoHead kind bytes
  pub at : IsHeadPlace kind bytes k.at

-- of a body of a known length so many bytes are missing
pub record IsInBody (kind : Kind) (k : Kept) (bytes : List ℕ) (left : ℕ) : Type 0 where
  pub size : ℕ
  pub keeps : KeepsHead kind k bytes (framings.Fixed size) [] k.body
  pub missing : length k.body + left ≡ size
  pub fits : size ≤ max_body
  pub some : 0 < left

-- the bytes are a head, some chunks, and then mid
pub record KeepsChunks (kind : Kind) (k : Kept) (bytes line mid : List ℕ) : Type 0 where
  pub rest : List ℕ
  pub keeps : KeepsHead kind k bytes framings.Chunked line rest
  pub chunks : List Chunk
  pub reads : ReadsChunks rest chunks mid

-- behind some chunks, the line of the next is not whole
pub record IsInLine (kind : Kind) (k : Kept) (bytes : List ℕ) : Type 0 where
  pub line : List ℕ
  pub keeps : KeepsChunks kind k bytes line line
  pub body : k.body ≡ chunk_data keeps.chunks
  pub few : length line < max_head
  pub none : HasNoChunkLine line
  pub at : IsLinePlace line k.at

-- behind the line of a chunk, so many bytes of its data are missing; end is what came behind the data
pub record IsInChunk (kind : Kind) (k : Kept) (bytes : List ℕ) (left : ℕ) (end : List ℕ) : Type 0 where
  pub line : ChunkLine
  pub short : IsShortLine line
  pub content : List ℕ
  pub keeps : KeepsChunks kind k bytes (print_chunk_line line) (print_chunk_line line ++ (content ++ end))
  pub size : chunk_size line ≡ length content + left
  pub some : 0 < chunk_size line
  pub body : k.body ≡ chunk_data keeps.chunks ++ content
  pub fits : length k.body + left ≤ max_body

-- behind the line of the last chunk, the trailer is not whole
pub record IsInTrailer (kind : Kind) (k : Kept) (bytes : List ℕ) : Type 0 where
  pub last : ChunkLine
  pub is_last : IsLastLine last
  pub line : List ℕ
  pub keeps : KeepsChunks kind k bytes line (print_chunk_line last ++ line)
  pub body : k.body ≡ chunk_data keeps.chunks
  pub few : length line < max_head
  pub none : HasNoSection (trailer_front line)
  pub at : IsTrailerPlace line k.at

-- the bytes are the text of the message that is kept
pub record HasEnded (kind : Kind) (k : Kept) (bytes : List ℕ) : Type 0 where
  pub message : Message
  pub start : k.start ≡ Some message
  pub text : IsText kind (with_body message k.body) bytes
  pub fits : length k.body ≤ max_body

abbrev pub IsKeptAt : Place → Kind → Kept → List ℕ → Type 0
IsKeptAt InHead kind k bytes = IsInHead kind k bytes
IsKeptAt (InBody left) kind k bytes = IsInBody kind k bytes left
IsKeptAt InLine kind k bytes = IsInLine kind k bytes
IsKeptAt (InData left) kind k bytes = IsInChunk kind k bytes left [] × (0 < left)
IsKeptAt BehindData kind k bytes = IsInChunk kind k bytes 0 []
IsKeptAt BehindReturn kind k bytes = IsInChunk kind k bytes 0 (13 ∷ [])
IsKeptAt InTrailer kind k bytes = IsInTrailer kind k bytes
IsKeptAt Ended kind k bytes = HasEnded kind k bytes

-- what is kept of these bytes
abbrev pub IsKept : Kind → Kept → List ℕ → Type 0
IsKept kind k bytes = IsKeptAt k.place kind k bytes
