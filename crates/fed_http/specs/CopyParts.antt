-- What the parts of a message are copied to.
use Rattle.std.specs.Prelude.{◌≡◌, ℕ, ◌≤◌, List, [], length, take, All, IsUtf8}
use Rattle.httparse.specs.Spans.{span_bytes}
use Rattle.httparse.specs.declared.spans.HeaderSpan.{HeaderSpan}
use Rattle.fed_http.specs.Text.{IsText}
use Rattle.fed_http.specs.ChunkParts.{HasChunkedBody}
use Rattle.fed_http.specs.declared.framing.Framing.{Framing}
use Rattle.fed_http.specs.declared.framing.Framing.TheVariants.{NoBody, Fixed, Chunked}
use Rattle.fed_http.specs.declared.message.Kind.{Kind}
use Rattle.fed_http.specs.declared.message.Message.{Message}

-- the first len bytes are a text of the message
pub record IsMessageAt (kind : Kind) (bytes : List ℕ) (m : Message) (len : ℕ) : Type 0 where
  pub fits : len ≤ length bytes
  pub text : IsText kind m (take len bytes)

-- the names of the fields are texts
abbrev pub AreNamed : List ℕ → List HeaderSpan → Type 0
AreNamed bytes fields = All (λ f. IsUtf8 (span_bytes bytes f.name)) fields

-- the body at the front of the bytes
abbrev pub HasBody : Framing → List ℕ → ℕ → List ℕ → Type 0
HasBody NoBody bytes len body = body ≡ []
HasBody (Fixed n) bytes len body = body ≡ take len bytes
HasBody Chunked bytes len body = HasChunkedBody bytes body
