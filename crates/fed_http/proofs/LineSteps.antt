-- The line of a chunk, as its bytes come.
use Rattle.std.proofs.Common.{arith, ◌≡◌, ℕ, ◌+◌, ◌-◌, ◌<◌, ◌≤◌, List, [], ◌++◌, length, take, drop, sym, ap, subst, ◌∙◌, append-nil, length-append, inl, inr}
use Rattle.std.proofs.lemmas.Bool.{cases_lt}
use Rattle.std.specs.Coded.{×_prop, le_prop}
use Rattle.std.proofs.Math.Logic.{∥∥₁_elim}
use Rattle.httparse.specs.Grammar.{ChunkLine, print_chunk_line, HasNoChunkLine}
use Rattle.fed_http.specs.Limits.{max_head, max_body}
use Rattle.fed_http.specs.Body.{IsShortLine, IsLastLine, chunk_data}
use Rattle.fed_http.specs.Faults.{HasBadLine, IsBadChunk, no_line, IsTooLarge, large_chunks}
use Rattle.fed_http.specs.ChunkParts.{IsLineAt, LacksLine}
use Rattle.fed_http.specs.Waiting.{IsWaiting}
use Rattle.fed_http.specs.Keeping.{Kept, IsKeptAt, IsInLine, IsInChunk, IsInTrailer}
use Rattle.fed_http.specs.TextPlaces.{IsWholeLine, IsLinePlace, IsTrailerPlace, GoesOnTo}
use Rattle.fed_http.specs.declared.text_place.TextPlace.{TextPlace}
use Rattle.fed_http.specs.declared.text_place.TextPlace.TheVariants.{LineStart}
use Rattle.fed_http.proofs.PlaceSteps.{late_on}
use Rattle.fed_http.proofs.PlaceStarts.{line_unfinished, trailer_begins}
use Rattle.fed_http.specs.KeepingParts.{IsSound}
use Rattle.fed_http.specs.declared.chunks.Line.{Line}
use Rattle.fed_http.specs.declared.framing.Framing.TheVariants.{Chunked}
use Rattle.fed_http.specs.declared.message.Kind.{Kind}
use Rattle.fed_http.specs.declared.place.Place.TheVariants.{InLine}
use Rattle.fed_http.proofs.LineCounts.{front_in}
use Rattle.fed_http.proofs.Stays.{reaches_on, chunks_on, chunks_is}
use Rattle.fed_http.proofs.Windows.{front_of}
use Rattle.fed_http.proofs.Keeping.{split_front, text_more, chunks_more, chunks_as, chunks_reach, line_waits, trailer_waits, empty_lacks_trailer}

-- ---- what is looked at

-- the text is the line, with more bytes
text_is : (kind : Kind) (k : Kept) (bytes more all : List ℕ) (x : IsInLine kind k bytes) → all ≡ k.text ++ more → all ≡ x.line ++ more
text_is kind k bytes more all x text = text_more kind k bytes more Chunked x.line x.keeps.rest all x.keeps.keeps text

length_line : (kind : Kind) (k : Kept) (bytes : List ℕ) (x : IsInLine kind k bytes) → length k.text ≡ length x.line
length_line kind k bytes x = ap length x.keeps.keeps.text

-- a line that is found ends behind the bytes that were there
line_beyond : (line more r : List ℕ) (l : ChunkLine) → HasNoChunkLine line → IsShortLine l → line ++ more ≡ print_chunk_line l ++ r → length line < length (print_chunk_line l)
line_beyond line more r l none short e = elim (cases_lt (length line) (length (print_chunk_line l))) [
  | inl less ↦ less
  | inr le ↦ let x = front_in line more (print_chunk_line l) r e le in absurd (none l x.0 (short.valid, x.1))
]

-- ---- what is known of any bytes

pub record LineRoom (k : Kept) : Type 0 where
  pub line : length k.text < max_head
  pub body : length k.body ≤ max_body

pub line_room : (k : Kept) → k.place ≡ InLine → IsSound k → LineRoom k
line_room k at sound =
    let all = ∥∥₁_elim sound (×_prop le_prop le_prop) (λ (kind, (bytes, kept)).
    let x : IsInLine kind k bytes = subst (λ p. IsKeptAt p kind k bytes) at kept in
    let len = length_line kind k bytes x in
    let a : length k.text < max_head = omega (arith, len, x.few) in
    let b : length k.body ≤ max_body = omega (arith, ap length x.body, x.keeps.reads.fits) in
    (a, b)) in
    record { line = all.0; body = all.1 }

-- where the line ends, in the bytes that came
pub record LineEnds (k : Kept) (more : List ℕ) (len : ℕ) : Type 0 where
  pub beyond : length k.text < len
  pub within : len ≤ length k.text + length more

pub line_ends : (k : Kept) (more all : List ℕ) (found : Line) → k.place ≡ InLine → IsSound k → all ≡ k.text ++ more → IsLineAt all found → LineEnds k more found.len
line_ends k more all found at sound text line =
    let all_of = ∥∥₁_elim sound (×_prop le_prop le_prop) (λ (kind, (bytes, kept)).
    let x : IsInLine kind k bytes = subst (λ p. IsKeptAt p kind k bytes) at kept in
    let same = text_is kind k bytes more all x text in
    let whole : x.line ++ more ≡ print_chunk_line line.line ++ drop found.len all = sym same ∙ line.whole in
    let beyond = line_beyond x.line more (drop found.len all) line.line x.none line.short whole in
    let len = length_line kind k bytes x in
    let a : length k.text < found.len = omega (arith, len, beyond, line.len) in
    let b : found.len ≤ length k.text + length more =
    omega (arith, len, line.len, ap length whole, length-append x.line more, length-append (print_chunk_line line.line) (drop found.len all)) in
    (a, b)) in
    record { beyond = all_of.0; within = all_of.1 }

-- ---- no line yet

-- where the place tells so
pub line_goes : (kind : Kind) (k : Kept) (bytes more all : List ℕ) (before : ℕ) (new : TextPlace) → IsInLine kind k bytes → all ≡ k.text ++ more → before ≡ length k.text → GoesOnTo k.at before more new → LacksLine all
line_goes kind k bytes more all before new x text count g =
    let short : length (x.line ++ more) < max_head = omega (arith, g.short, count, length_line kind k bytes x, length-append x.line more) in
    subst LacksLine (sym (text_is kind k bytes more all x text)) (line_unfinished (x.line ++ more) new (late_on IsWholeLine x.line more k.at new g.few g.late g.follows x.at) g.known short)

pub line_on : (kind : Kind) (k j : Kept) (bytes more : List ℕ) → IsInLine kind k bytes → j.start ≡ k.start → j.head ≡ k.head → j.body ≡ k.body → j.text ≡ k.text ++ more → LacksLine j.text
    → ((before : List ℕ) → IsLinePlace before k.at → IsLinePlace (before ++ more) j.at) → IsInLine kind j (bytes ++ more) × IsWaiting kind (bytes ++ more)
line_on kind k j bytes more x start head body text lacks on =
    let at = subst LacksLine (text_is kind k bytes more j.text x text) lacks in
    let next = chunks_more kind k j bytes more x.line x.line (x.line ++ more) x.keeps start head (text_more kind k bytes more Chunked x.line x.keeps.rest j.text x.keeps.keeps text) in
    (record { line = x.line ++ more; keeps = next; body = body ∙ x.body; few = at.few; none = at.none; at = on x.line x.at }, line_waits kind j (bytes ++ more) (x.line ++ more) next at)

-- ---- faults

pub line_bad : (kind : Kind) (k : Kept) (bytes more all : List ℕ) → IsInLine kind k bytes → all ≡ k.text ++ more → HasBadLine all → IsBadChunk kind (bytes ++ more)
line_bad kind k bytes more all x text bad = record {
  rest = x.keeps.rest ++ more;
  reaches = reaches_on kind bytes x.keeps.rest more Chunked (chunks_reach kind k bytes x.line x.line x.keeps);
  bad = no_line x.keeps.chunks (x.line ++ more) (chunks_on x.keeps.rest x.keeps.chunks x.line more x.keeps.reads) (subst HasBadLine (text_is kind k bytes more all x text) bad);
}

pub line_large : (kind : Kind) (k : Kept) (bytes more all : List ℕ) (found : Line) → IsInLine kind k bytes → all ≡ k.text ++ more → IsLineAt all found → max_body < length k.body + found.size
    → IsTooLarge kind (bytes ++ more)
line_large kind k bytes more all found x text line over =
    let cs = x.keeps.chunks in
    let whole : x.line ++ more ≡ print_chunk_line line.line ++ drop found.len all = sym (text_is kind k bytes more all x text) ∙ line.whole in
    large_chunks (x.keeps.rest ++ more) (reaches_on kind bytes x.keeps.rest more Chunked (chunks_reach kind k bytes x.line x.line x.keeps))
    (record {
      chunks = cs;
      line = line.line;
      rest = drop found.len all;
      reads = chunks_is (x.keeps.rest ++ more) cs (x.line ++ more) (print_chunk_line line.line ++ drop found.len all) whole (chunks_on x.keeps.rest cs x.line more x.keeps.reads);
      short = line.short;
      large = omega (arith, over, line.size, ap length x.body);
    })

-- ---- a whole line

-- the bytes of the line that came
abbrev pub last_of : Kept → List ℕ → ℕ → List ℕ
last_of k more len = take (len - length k.text) more

line_whole : (kind : Kind) (k : Kept) (bytes more all : List ℕ) (found : Line) (x : IsInLine kind k bytes) → all ≡ k.text ++ more → (line : IsLineAt all found) → x.line ++ last_of k more found.len ≡ print_chunk_line line.line
line_whole kind k bytes more all found x text line =
    let whole : x.line ++ more ≡ print_chunk_line line.line ++ drop found.len all = sym (text_is kind k bytes more all x text) ∙ line.whole in
    let beyond = line_beyond x.line more (drop found.len all) line.line x.none line.short whole in
    let count : length (print_chunk_line line.line) - length x.line ≡ found.len - length k.text = omega (arith, line.len, length_line kind k bytes x) in
    sym (split_front x.line more (print_chunk_line line.line) (drop found.len all) whole (omega (arith, beyond)) ∙ ap (λ n. x.line ++ take n more) count)

pub line_last : (kind : Kind) (k j : Kept) (bytes more all : List ℕ) (found : Line) → IsInLine kind k bytes → all ≡ k.text ++ more → IsLineAt all found → found.size ≡ 0
    → j.start ≡ k.start → j.head ≡ k.head → j.body ≡ k.body → j.text ≡ [] → j.at ≡ LineStart 0
    → IsInTrailer kind j (bytes ++ last_of k more found.len) × IsWaiting kind (bytes ++ last_of k more found.len)
line_last kind k j bytes more all found x text line zero start head body none begins =
    let u = last_of k more found.len in
    let read = chunks_more kind k j bytes u x.line x.line [] x.keeps start head none in
    let keeps = chunks_as kind j (bytes ++ u) [] (x.line ++ u) (print_chunk_line line.line ++ []) read (line_whole kind k bytes more all found x text line ∙ sym (append-nil (print_chunk_line line.line))) in
    let is_last : IsLastLine line.line = record { line = line.short; size = sym line.size ∙ zero } in (
      record {
        last = line.line;
        is_last = is_last;
        line = [];
        keeps = keeps;
        body = body ∙ x.body;
        few = empty_lacks_trailer.few;
        none = empty_lacks_trailer.unended.none;
        at = subst (IsTrailerPlace []) (sym begins) trailer_begins;
      },
      trailer_waits kind j (bytes ++ u) [] line.line keeps is_last empty_lacks_trailer,
    )

pub line_chunk : (kind : Kind) (k j : Kept) (bytes more all : List ℕ) (found : Line) → IsInLine kind k bytes → all ≡ k.text ++ more → IsLineAt all found → 0 < found.size
    → length k.body + found.size ≤ max_body → j.start ≡ k.start → j.head ≡ k.head → j.body ≡ k.body → j.text ≡ take found.len all
    → IsInChunk kind j (bytes ++ last_of k more found.len) found.size []
line_chunk kind k j bytes more all found x text line some fits start head body cut =
    let u = last_of k more found.len in
    let printed = print_chunk_line line.line in
    let front = cut ∙ ap (λ n. take n all) line.len ∙ front_of all printed (drop found.len all) line.whole in
    let read = chunks_more kind k j bytes u x.line x.line printed x.keeps start head front in
    record {
      line = line.line;
      short = line.short;
      content = [];
      keeps = chunks_as kind j (bytes ++ u) printed (x.line ++ u) (printed ++ []) read (line_whole kind k bytes more all found x text line ∙ sym (append-nil printed));
      size = omega (arith, line.size);
      some = omega (arith, some, line.size);
      body = body ∙ x.body ∙ sym (append-nil (chunk_data x.keeps.chunks));
      fits = omega (arith, fits, ap length body);
    }
