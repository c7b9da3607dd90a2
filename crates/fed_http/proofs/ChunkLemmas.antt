-- The chunks at the front of bytes are read in one way.
use Rattle.std.proofs.Common.{arith, ◌≡◌, ℕ, ◌+◌, ◌<◌, ◌≤◌, List, [], ◌∷◌, ◌++◌, length, drop, refl, sym, ap, subst, ◌∙◌, append_assoc, length-append, inl, inr}
use Rattle.std.specs.List.{AllByRecursion}
use Rattle.std.proofs.lemmas.List.{append-nil}
use Rattle.std.proofs.lemmas.Grind.{flat_map-append}
use Rattle.httparse.specs.Ascii.{crlf_bytes}
use Rattle.httparse.specs.Grammar.{ChunkLine, print_chunk_line, chunk_size, print_section, HasNoSection}
use Rattle.httparse.proofs.ChunkLemmas.{chunk_line_unique}
use Rattle.httparse.proofs.GrammarLemmas.{section_unique}
use Rattle.httparse.proofs.PieceLemmas.{front-append}
use Rattle.fed_http.specs.Limits.{max_head, max_body}
use Rattle.fed_http.specs.Body.{Chunk, print_chunk, IsChunk, IsShortLine, IsLastLine, print_chunks, chunk_data, ChunkedBody, IsChunkedBody, print_chunked}
use Rattle.fed_http.specs.Faults.{ReadsChunks, ReachesTrailer, HasBadLine, HasBadChunk, no_line, no_line_end, no_trailer, HasLargeChunks, HasLargeTrailer, HasManyTrailers}
use Rattle.fed_http.specs.Unfinished.{trailer_front}
use Rattle.fed_http.specs.Waiting.{LacksChunks}
use Rattle.fed_http.specs.Waiting as waiting
use Rattle.fed_http.proofs.Windows.{split_same, shrunk_more, rejoined}
use Rattle.fed_http.proofs.TrailerFronts.{front-front, front-full, front-many, front-section}

pub regroup : (a b c x : List ℕ) → (a ++ b ++ c) ++ x ≡ a ++ (b ++ (c ++ x))
regroup a b c x = simp append_assoc

-- ---- one chunk

-- a chunk's line, and what comes behind it
pub chunk_line_of : (c : Chunk) (buf x : List ℕ) → buf ≡ print_chunk c ++ x → buf ≡ print_chunk_line c.line ++ (c.bytes ++ (crlf_bytes ++ x))
chunk_line_of c buf x e = e ∙ regroup (print_chunk_line c.line) c.bytes crlf_bytes x

pub chunk_from_line : (c : Chunk) (buf x : List ℕ) → buf ≡ print_chunk_line c.line ++ (c.bytes ++ (crlf_bytes ++ x)) → buf ≡ print_chunk c ++ x
chunk_from_line c buf x e = e ∙ sym (regroup (print_chunk_line c.line) c.bytes crlf_bytes x)

-- a line is the line of the chunk at the front
pub line_is : (l k : ChunkLine) (buf x y : List ℕ) → IsShortLine l → IsShortLine k → buf ≡ print_chunk_line l ++ x → buf ≡ print_chunk_line k ++ y → (l ≡ k) × (x ≡ y)
line_is l k buf x y short other e f = chunk_line_unique buf l k x y (short.valid, e) (other.valid, f)

pub chunk_unique : (c d : Chunk) (buf x y : List ℕ) → IsChunk c → IsChunk d → buf ≡ print_chunk c ++ x → buf ≡ print_chunk d ++ y → (c ≡ d) × (x ≡ y)
chunk_unique c d buf x y vc vd e f =
    let lines = line_is c.line d.line buf (c.bytes ++ (crlf_bytes ++ x)) (d.bytes ++ (crlf_bytes ++ y)) vc.line vd.line (chunk_line_of c buf x e) (chunk_line_of d buf y f) in
    let size : length c.bytes ≡ length d.bytes = sym vc.size ∙ ap chunk_size lines.0 ∙ vd.size in
    let data_same = split_same c.bytes d.bytes (crlf_bytes ++ x) (crlf_bytes ++ y) size lines.1 in
    let ends = split_same crlf_bytes crlf_bytes x y refl data_same.1 in
    (λ i. record { line = lines.0 i; bytes = data_same.0 i }, ends.1)

-- a chunk's line is no last one
pub not_last : (c : Chunk) (l : ChunkLine) (buf x y : List ℕ) → IsChunk c → IsLastLine l → buf ≡ print_chunk c ++ x → buf ≡ print_chunk_line l ++ y → ⊥
not_last c l buf x y vc last e f =
    let lines = line_is c.line l buf (c.bytes ++ (crlf_bytes ++ x)) y vc.line last.line (chunk_line_of c buf x e) f in
    let none : length c.bytes ≡ 0 = sym vc.size ∙ ap chunk_size lines.0 ∙ last.size in
    omega (arith, vc.some, none)

-- ---- several

-- the chunks cs, and then what ds has behind them
pub record Rest (cs ds : List Chunk) (mid tail : List ℕ) : Type 0 where
  pub left : List Chunk
  pub split : ds ≡ cs ++ left
  pub valid : AllByRecursion IsChunk left
  pub whole : mid ≡ print_chunks left ++ tail

pub skip : (cs ds : List Chunk) (last : ChunkLine) (buf mid after : List ℕ) → AllByRecursion IsChunk cs → AllByRecursion IsChunk ds → IsLastLine last
    → buf ≡ print_chunks cs ++ mid → buf ≡ print_chunks ds ++ (print_chunk_line last ++ after) → Rest cs ds mid (print_chunk_line last ++ after)
skip [] ds last buf mid after vc vd is_last e f = record { left = ds; split = refl; valid = vd; whole = sym e ∙ f }
skip (c ∷ cs) [] last buf mid after vc vd is_last e f =
    absurd (not_last c last buf (print_chunks cs ++ mid) after vc.0 is_last (e ∙ append_assoc (print_chunk c) (print_chunks cs) mid) f)
skip (c ∷ cs) (d ∷ ds) last buf mid after vc vd is_last e f =
    let tail = print_chunk_line last ++ after in
    let same = chunk_unique c d buf (print_chunks cs ++ mid) (print_chunks ds ++ tail) vc.0 vd.0 (e ∙ append_assoc (print_chunk c) (print_chunks cs) mid) (f ∙ append_assoc (print_chunk d) (print_chunks ds) tail) in
    let more = skip cs ds last (print_chunks cs ++ mid) mid after vc.1 vd.1 is_last refl same.1 in
    record {
      left = more.left;
      split = λ i. sym same.0 i ∷ more.split i;
      valid = more.valid;
      whole = more.whole;
    }

-- ---- the whole body

-- the section and what follows
abbrev pub section_and : ChunkedBody → List ℕ → List ℕ
section_and b after = print_section b.trailers b.end ++ after

pub chunked_parts : (b : ChunkedBody) (buf after : List ℕ) → buf ≡ print_chunked b ++ after → buf ≡ print_chunks b.chunks ++ (print_chunk_line b.last ++ section_and b after)
chunked_parts b buf after e = e ∙ regroup (print_chunks b.chunks) (print_chunk_line b.last) (print_section b.trailers b.end) after

pub chunked_from_parts : (b : ChunkedBody) (buf after : List ℕ) → buf ≡ print_chunks b.chunks ++ (print_chunk_line b.last ++ section_and b after) → buf ≡ print_chunked b ++ after
chunked_from_parts b buf after e = e ∙ sym (regroup (print_chunks b.chunks) (print_chunk_line b.last) (print_section b.trailers b.end) after)

-- what a body has behind the chunks that were read, where more bytes follow
pub behind_chunks : (b : ChunkedBody) (cs : List Chunk) (bytes mid more after : List ℕ) → IsChunkedBody b → ReadsChunks bytes cs mid → bytes ++ more ≡ print_chunked b ++ after
    → Rest cs b.chunks (mid ++ more) (print_chunk_line b.last ++ section_and b after)
behind_chunks b cs bytes mid more after vb reads e =
    skip cs b.chunks b.last (bytes ++ more) (mid ++ more) (section_and b after) reads.valid vb.chunks vb.last (front-append bytes (print_chunks cs) mid more reads.whole) (chunked_parts b (bytes ++ more) after e)

-- the line that comes then, and the bytes behind it: the last one, or that of a chunk
pub data NextLine (left : List Chunk) (last : ChunkLine) (l : ChunkLine) (behind tail : List ℕ) : Type 0 where
  the_last : left ≡ [] → last ≡ l → behind ≡ tail → NextLine left last l behind tail
  a_chunk : (c : Chunk) (others : List Chunk) → left ≡ c ∷ others → IsChunk c → c.line ≡ l
      → behind ≡ c.bytes ++ (crlf_bytes ++ (print_chunks others ++ (print_chunk_line last ++ tail))) → NextLine left last l behind tail

pub next_line : (left : List Chunk) (last l : ChunkLine) (buf behind tail : List ℕ) → AllByRecursion IsChunk left → IsLastLine last → IsShortLine l
    → buf ≡ print_chunk_line l ++ behind → buf ≡ print_chunks left ++ (print_chunk_line last ++ tail) → NextLine left last l behind tail
next_line [] last l buf behind tail valid is_last short e f =
    let same = line_is last l buf tail behind is_last.line short f e in the_last refl same.0 (sym same.1)
next_line (c ∷ others) last l buf behind tail valid is_last short e f =
    let x = print_chunks others ++ (print_chunk_line last ++ tail) in
    let g = f ∙ append_assoc (print_chunk c) (print_chunks others) (print_chunk_line last ++ tail) in
    let same = line_is c.line l buf (c.bytes ++ (crlf_bytes ++ x)) behind valid.0.line short (chunk_line_of c buf x g) e in
    a_chunk c others refl valid.0 same.0 (sym same.1)

-- some short line comes then
pub some_line : (left : List Chunk) (last : ChunkLine) (buf tail : List ℕ) → AllByRecursion IsChunk left → IsLastLine last
    → buf ≡ print_chunks left ++ (print_chunk_line last ++ tail) → (l : ChunkLine) × (rest : List ℕ) × IsShortLine l × (buf ≡ print_chunk_line l ++ rest)
some_line [] last buf tail valid is_last f = (last, tail, is_last.line, f)
some_line (c ∷ others) last buf tail valid is_last f =
    let x = print_chunks others ++ (print_chunk_line last ++ tail) in
    (c.line, c.bytes ++ (crlf_bytes ++ x), valid.0.line, chunk_line_of c buf x (f ∙ append_assoc (print_chunk c) (print_chunks others) (print_chunk_line last ++ tail)))

-- behind the last line comes the trailer
pub behind_last : (b : ChunkedBody) (bytes rest more after : List ℕ) → IsChunkedBody b → (r : ReachesTrailer bytes rest) → bytes ++ more ≡ print_chunked b ++ after
    → (b.chunks ≡ r.chunks) × (rest ++ more ≡ section_and b after)
behind_last b bytes rest more after vb r e =
    let left = behind_chunks b r.chunks bytes (print_chunk_line r.last ++ rest) more after vb r.reads e in
    elim (next_line left.left b.last r.last ((print_chunk_line r.last ++ rest) ++ more) (rest ++ more) (section_and b after) left.valid vb.last r.is_last.line (append_assoc (print_chunk_line r.last) rest more) left.whole) [
      | the_last none same is ↦ (left.split ∙ ap (λ v. r.chunks ++ v) none ∙ append-nil r.chunks, is)
      | a_chunk c others some vc same is ↦ absurd (omega (arith, vc.some, sym vc.size ∙ ap chunk_size same ∙ r.is_last.size))
    ]

-- ---- what excludes a body

pub bad_line_excludes : (bytes more : List ℕ) (l : ChunkLine) (rest : List ℕ) → HasBadLine bytes → IsShortLine l → bytes ++ more ≡ print_chunk_line l ++ rest → ⊥
bad_line_excludes bytes more l rest (inl never) short is = never (drop max_head bytes ++ more) l rest (short.valid, sym (rejoined max_head bytes more) ∙ is)
bad_line_excludes bytes more l rest (inr none) short is = none.1 l _ (short.valid, shrunk_more max_head bytes more (print_chunk_line l) rest none.0 is short.short)

pub bad_chunk_excludes : (b : ChunkedBody) (bytes more after : List ℕ) → IsChunkedBody b → bytes ++ more ≡ print_chunked b ++ after → HasBadChunk bytes → ⊥
bad_chunk_excludes b bytes more after vb e (no_line cs mid reads never) =
    let left = behind_chunks b cs bytes mid more after vb reads e in
    let (l, rest, short, is) = some_line left.left b.last (mid ++ more) (section_and b after) left.valid vb.last left.whole in
    bad_line_excludes mid more l rest never short is
bad_chunk_excludes b bytes more after vb e (no_line_end cs l content rest reads short size some fits never) =
    let left = behind_chunks b cs bytes (print_chunk_line l ++ content ++ rest) more after vb reads e in
    let whole : (print_chunk_line l ++ content ++ rest) ++ more ≡ print_chunk_line l ++ (content ++ (rest ++ more)) = regroup (print_chunk_line l) content rest more in
    elim (next_line left.left b.last l ((print_chunk_line l ++ content ++ rest) ++ more) (content ++ (rest ++ more)) (section_and b after) left.valid vb.last short whole left.whole) [
      | the_last none same is ↦ omega (arith, some, sym size ∙ ap chunk_size (sym same) ∙ vb.last.size)
      | a_chunk c others has vc same is ↦
          let lengths : length content ≡ length c.bytes = sym size ∙ ap chunk_size (sym same) ∙ vc.size in
          let tail = print_chunks others ++ (print_chunk_line b.last ++ section_and b after) in
          never more tail (split_same content c.bytes (rest ++ more) (crlf_bytes ++ tail) lengths is).1
    ]
bad_chunk_excludes b bytes more after vb e (no_trailer rest r never) =
    let at = behind_last b bytes rest more after vb r e in
    let front = front-front rest in
    never (front.0 ++ more) b.trailers b.end after (vb.trailer.valid, sym (append_assoc (trailer_front rest) front.0 more) ∙ ap (λ v. v ++ more) (sym front.1) ∙ at.1)

-- a section is none where its front has none
front_excludes : (b : ChunkedBody) (bytes after : List ℕ) → IsChunkedBody b → bytes ≡ section_and b after → HasNoSection (trailer_front bytes) → ⊥
front_excludes b bytes after vb e none =
    let here = front-section bytes b.trailers b.end after vb.trailer.valid vb.trailer.few vb.trailer.short e in
    none b.trailers b.end here.0 (vb.trailer.valid, here.1)

length_left : (cs others : List Chunk) (c : Chunk) → length (chunk_data cs) + length c.bytes ≤ length (chunk_data (cs ++ c ∷ others))
length_left cs others c =
    omega (arith, ap length (flat_map-append (λ (k : Chunk). k.bytes) cs (c ∷ others)), length-append (chunk_data cs) (c.bytes ++ chunk_data others), length-append c.bytes (chunk_data others))

pub large_chunks_exclude : (b : ChunkedBody) (bytes more after : List ℕ) → IsChunkedBody b → length (chunk_data b.chunks) ≤ max_body → bytes ++ more ≡ print_chunked b ++ after → HasLargeChunks bytes → ⊥
large_chunks_exclude b bytes more after vb fits e large =
    let left = behind_chunks b large.chunks bytes (print_chunk_line large.line ++ large.rest) more after vb large.reads e in
    elim (next_line left.left b.last large.line ((print_chunk_line large.line ++ large.rest) ++ more) (large.rest ++ more) (section_and b after) left.valid vb.last large.short (append_assoc (print_chunk_line large.line) large.rest more) left.whole) [
      | the_last none same is ↦
          let zero : chunk_size large.line ≡ 0 = ap chunk_size (sym same) ∙ vb.last.size in
          omega (arith, zero, large.large, large.reads.fits)
      | a_chunk c others has vc same is ↦
          let size : chunk_size large.line ≡ length c.bytes = ap chunk_size (sym same) ∙ vc.size in
          let split : b.chunks ≡ large.chunks ++ c ∷ others = left.split ∙ ap (λ v. large.chunks ++ v) has in
          omega (arith, size, large.large, fits, ap (λ v. length (chunk_data v)) split, length_left large.chunks others c)
    ]

pub large_trailer_excludes : (b : ChunkedBody) (bytes more after : List ℕ) → IsChunkedBody b → bytes ++ more ≡ print_chunked b ++ after → HasLargeTrailer bytes → ⊥
large_trailer_excludes b bytes more after vb e large =
    let at = behind_last b bytes large.rest more after vb large.reaches e in
    front_excludes b (large.rest ++ more) after vb at.1 (subst HasNoSection (sym (front-full large.rest more large.full)) large.unended.none)

pub many_trailers_exclude : (b : ChunkedBody) (bytes more after : List ℕ) → IsChunkedBody b → bytes ++ more ≡ print_chunked b ++ after → HasManyTrailers bytes → ⊥
many_trailers_exclude b bytes more after vb e many =
    let at = behind_last b bytes many.rest more after vb many.reaches e in
    front_excludes b (many.rest ++ more) after vb at.1 (subst HasNoSection (sym (front-many many.rest more many.full.many)) many.full.none)

pub lacks_excludes : (b : ChunkedBody) (bytes after : List ℕ) → IsChunkedBody b → bytes ≡ print_chunked b ++ after → LacksChunks bytes → ⊥
lacks_excludes b bytes after vb e (waiting.line cs mid reads few none may) =
    let left = behind_chunks b cs bytes mid [] after vb reads (append-nil bytes ∙ e) in
    let (l, rest, short, is) = some_line left.left b.last (mid ++ []) (section_and b after) left.valid vb.last left.whole in
    none l rest (short.valid, sym (append-nil mid) ∙ is)
lacks_excludes b bytes after vb e (waiting.part cs mid more c reads vc fits is some) =
    let left = behind_chunks b cs bytes mid [] after vb reads (append-nil bytes ∙ e) in
    part_excludes left.left b.last mid more (section_and b after) c left.valid vb.last vc is some (sym (append-nil mid) ∙ left.whole)
  where
    part_excludes : (left : List Chunk) (last : ChunkLine) (mid more tail : List ℕ) (c : Chunk) → AllByRecursion IsChunk left → IsLastLine last → IsChunk c
        → mid ++ more ≡ print_chunk c → 0 < length more → mid ≡ print_chunks left ++ (print_chunk_line last ++ tail) → ⊥
    part_excludes [] last mid more tail c valid is_last vc is some f =
        not_last c last (mid ++ more) [] (tail ++ more) vc is_last (is ∙ sym (append-nil (print_chunk c))) (front-append mid (print_chunk_line last) tail more f)
    part_excludes (d ∷ others) last mid more tail c valid is_last vc is some f =
        let x = print_chunks others ++ (print_chunk_line last ++ tail) in
        let g = front-append mid (print_chunk d) x more (f ∙ append_assoc (print_chunk d) (print_chunks others) (print_chunk_line last ++ tail)) in
        let same = chunk_unique c d (mid ++ more) [] (x ++ more) vc valid.0 (is ∙ sym (append-nil (print_chunk c))) g in
        omega (arith, some, ap length same.1, length-append x more)
lacks_excludes b bytes after vb e (waiting.trailer rest r few unended) =
    let at = behind_last b bytes rest [] after vb r (append-nil bytes ∙ e) in
    front_excludes b rest after vb (sym (append-nil rest) ∙ at.1) unended.none

-- ---- one body

pub chunked_unique : (b k : ChunkedBody) (buf x y : List ℕ) → IsChunkedBody b → IsChunkedBody k → length (chunk_data b.chunks) ≤ max_body → buf ≡ print_chunked b ++ x → buf ≡ print_chunked k ++ y
    → (chunk_data b.chunks ≡ chunk_data k.chunks) × (x ≡ y)
chunked_unique b k buf x y vb vk fits e f =
    let reads : ReadsChunks buf b.chunks (print_chunk_line b.last ++ section_and b x) = record { valid = vb.chunks; fits = fits; whole = chunked_parts b buf x e } in
    let r : ReachesTrailer buf (section_and b x) = record { chunks = b.chunks; last = b.last; reads = reads; is_last = vb.last } in
    let at = behind_last k buf (section_and b x) [] y vk r (append-nil buf ∙ f) in
    let same = section_unique (section_and b x) b.trailers k.trailers b.end k.end x y (vb.trailer.valid, refl) (vk.trailer.valid, sym (append-nil (section_and b x)) ∙ at.1) in
    (ap chunk_data (sym at.0), same.2)
