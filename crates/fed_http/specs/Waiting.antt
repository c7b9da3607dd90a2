-- What bytes lack that may be the beginning of a message.
use Rattle.std.specs.Prelude.{◌≡◌, ℕ, ◌+◌, ◌<◌, ◌≤◌, List, ◌++◌, length}
use Rattle.httparse.specs.Grammar.{HasNoChunkLine, MayBecomeChunkLine}
use Rattle.fed_http.specs.Limits.{max_head, max_body}
use Rattle.fed_http.specs.Unfinished.{IsUnfinishedHead, IsUnfinishedTrailer, trailer_front}
use Rattle.fed_http.specs.Body.{Chunk, IsChunk, print_chunk, chunk_data}
use Rattle.fed_http.specs.Faults.{ReachesBody, ReadsChunks, ReachesTrailer}
use Rattle.fed_http.specs.declared.framing.Framing.TheVariants.{Fixed, Chunked}
use Rattle.fed_http.specs.declared.message.Kind.{Kind}

-- The chunks so far are whole. Then the beginning of a line is there, or of a chunk; or of the trailer.
pub data LacksChunks (bytes : List ℕ) : Type 0 where
  line : (chunks : List Chunk) (rest : List ℕ) → ReadsChunks bytes chunks rest
      → length rest < max_head → HasNoChunkLine rest → MayBecomeChunkLine rest → LacksChunks bytes
  part : (chunks : List Chunk) (rest more : List ℕ) (c : Chunk) → ReadsChunks bytes chunks rest
      → IsChunk c → length (chunk_data chunks) + length c.bytes ≤ max_body → rest ++ more ≡ print_chunk c → 0 < length more → LacksChunks bytes
  trailer : (rest : List ℕ) → ReachesTrailer bytes rest
      → length rest < max_head → IsUnfinishedTrailer (trailer_front rest) → LacksChunks bytes

-- The head is not there yet; or it is, and the body isn't.
pub data IsWaiting (kind : Kind) (bytes : List ℕ) : Type 0 where
  head : length bytes < max_head → IsUnfinishedHead kind bytes → IsWaiting kind bytes
  body : (n : ℕ) (rest : List ℕ) → ReachesBody kind bytes (Fixed n) rest → n ≤ max_body → length rest < n → IsWaiting kind bytes
  chunks : (rest : List ℕ) → ReachesBody kind bytes Chunked rest → LacksChunks rest → IsWaiting kind bytes
