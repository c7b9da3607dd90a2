-- A chunk at the front of bytes, from its line, its data and its end.
use Rattle.std.proofs.Common.{arith, ◌≡◌, ◌≢◌, ℕ, ◌+◌, ◌-◌, ◌<◌, ◌≤◌, List, ◌++◌, length, take, drop, sym, ap, ◌∙◌, append_assoc, length-append, length-take-le}
use Rattle.std.specs.Prelude.{replicate}
use Rattle.std.proofs.lemmas.List.{take-append-drop, length-replicate}
use Rattle.httparse.specs.Ascii.{crlf_bytes}
use Rattle.httparse.specs.Grammar.{print_chunk_line}
use Rattle.fed_http.specs.Body.{Chunk, IsChunk, print_chunk}
use Rattle.fed_http.specs.Faults.{NeverHasLineEnd}
use Rattle.fed_http.specs.ChunkParts.{IsLineAt, IsChunkAt, LacksPart, rest, HasBadPart, no_line_end}
use Rattle.fed_http.specs.declared.chunks.Line.{Line}
use Rattle.fed_http.proofs.Windows.{at_len}
use Rattle.fed_http.proofs.ChunkLemmas.{chunk_from_line}

-- the chunk of this line and this data
chunk_of : (bytes : List ℕ) (found : Line) → IsLineAt bytes found → List ℕ → Chunk
chunk_of bytes found at content = record { line = at.line; bytes = content }

padded_regroup : (a b c d : List ℕ) → (a ++ b) ++ (c ++ d) ≡ a ++ (b ++ c) ++ d
padded_regroup a b c d = simp append_assoc

is_chunk : (bytes content : List ℕ) (found : Line) (at : IsLineAt bytes found) → found.size ≢ 0 → length content ≡ found.size → IsChunk (record { line = at.line; bytes = content })
is_chunk bytes content found at some size = record { line = at.short; size = sym at.size ∙ sym size; some = omega (arith, some, size) }

pub part_lacks : (bytes behind : List ℕ) (found : Line) (room : ℕ) → IsLineAt bytes found → found.size ≢ 0 → found.size ≤ room → behind ≡ drop found.len bytes → length behind < found.size → LacksPart bytes room
part_lacks bytes behind found room at some fits is few =
    let pad = replicate (found.size - length behind) 0 in
    let size : length (behind ++ pad) ≡ found.size = omega (arith, length-append behind pad, length-replicate {A = ℕ} (found.size - length behind) 0, few) in
    let whole : bytes ++ (pad ++ crlf_bytes) ≡ print_chunk_line at.line ++ (behind ++ pad) ++ crlf_bytes =
    ap (λ v. v ++ (pad ++ crlf_bytes)) (at.whole ∙ ap (λ v. print_chunk_line at.line ++ v) (sym is)) ∙ padded_regroup (print_chunk_line at.line) behind pad crlf_bytes in
    rest (pad ++ crlf_bytes) (record { line = at.line; bytes = behind ++ pad }) (is_chunk bytes (behind ++ pad) found at some size) (omega (arith, size, fits)) whole
    (omega (arith, length-append pad crlf_bytes))

-- the line, the data and what comes behind
parts_of : (bytes behind tail : List ℕ) (found : Line) (at : IsLineAt bytes found) → behind ≡ drop found.len bytes → tail ≡ drop found.size behind
    → bytes ≡ print_chunk_line at.line ++ (take found.size behind ++ tail)
parts_of bytes behind tail found at is cut =
    at.whole ∙ ap (λ v. print_chunk_line at.line ++ v) (sym is ∙ sym (take-append-drop found.size behind) ∙ ap (λ v. take found.size behind ++ v) (sym cut))

pub part_there : (bytes behind tail : List ℕ) (found : Line) (room : ℕ) → IsLineAt bytes found → found.size ≢ 0 → found.size ≤ room → behind ≡ drop found.len bytes → found.size ≤ length behind
    → tail ≡ drop found.size behind → tail ≡ crlf_bytes ++ drop 2 tail → IsChunkAt bytes room found.size (found.len + found.size + 2)
part_there bytes behind tail found room at some fits is enough cut ends =
    let content = take found.size behind in
    let size : length content ≡ found.size = length-take-le found.size behind enough in
    let c : Chunk = record { line = at.line; bytes = content } in
    let whole : bytes ≡ print_chunk c ++ drop 2 tail = chunk_from_line c bytes (drop 2 tail) (parts_of bytes behind tail found at is cut ∙ ap (λ v. print_chunk_line at.line ++ (content ++ v)) ends) in
    let len : found.len + found.size + 2 ≡ length (print_chunk c) = omega (arith, at.len, size, length-append (print_chunk_line at.line ++ content) crlf_bytes, length-append (print_chunk_line at.line) content) in
    record {
      chunk = c;
      valid = is_chunk bytes content found at some size;
      size_is = sym size;
      fits = fits;
      len_is = len;
      whole = at_len bytes (print_chunk c) (drop 2 tail) (found.len + found.size + 2) whole len;
    }

pub part_unended : (bytes behind tail : List ℕ) (found : Line) (room : ℕ) → IsLineAt bytes found → found.size ≢ 0 → found.size ≤ room → behind ≡ drop found.len bytes → found.size ≤ length behind
    → tail ≡ drop found.size behind → (more : List ℕ) × (tail ++ more ≡ crlf_bytes) × (0 < length more) → LacksPart bytes room
part_unended bytes behind tail found room at some fits is enough cut (more, ends, left) =
    let content = take found.size behind in
    let size : length content ≡ found.size = length-take-le found.size behind enough in
    let whole : bytes ++ more ≡ print_chunk_line at.line ++ content ++ crlf_bytes =
    ap (λ v. v ++ more) (parts_of bytes behind tail found at is cut) ∙ three (print_chunk_line at.line) content tail more ∙ ap (λ v. print_chunk_line at.line ++ content ++ v) ends in
    rest more (record { line = at.line; bytes = content }) (is_chunk bytes content found at some size) (omega (arith, size, fits)) whole left
  where
    three : (a b c d : List ℕ) → (a ++ (b ++ c)) ++ d ≡ a ++ b ++ (c ++ d)
    three a b c d = simp append_assoc

pub part_never : (bytes behind tail : List ℕ) (found : Line) (room : ℕ) → IsLineAt bytes found → found.size ≢ 0 → found.size ≤ room → behind ≡ drop found.len bytes → found.size ≤ length behind
    → tail ≡ drop found.size behind → NeverHasLineEnd tail → HasBadPart bytes room
part_never bytes behind tail found room at some fits is enough cut never =
    let content = take found.size behind in
    let size : length content ≡ found.size = length-take-le found.size behind enough in
    let whole : bytes ≡ print_chunk_line at.line ++ content ++ tail = parts_of bytes behind tail found at is cut ∙ sym (append_assoc (print_chunk_line at.line) content tail) in
    no_line_end at.line content tail whole at.short (sym at.size ∙ sym size) (omega (arith, some, size)) (omega (arith, size, fits)) never
