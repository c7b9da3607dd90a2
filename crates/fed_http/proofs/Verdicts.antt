-- Of any bytes at most one fault holds, and none where more bytes are waited for.
use Rattle.std.proofs.Common.{arith, ◌≡◌, ◌≢◌, ℕ, ◌-◌, ◌<◌, ◌≤◌, List, [], ◌∷◌, ◌++◌, length, take, refl, sym, ap, subst, ◌∙◌, append_assoc, length-append, Option, Some, None, inl, inr}
use Rattle.std.specs.List.{AllByRecursion}
use Rattle.std.proofs.lemmas.List.{append-nil}
use Rattle.httparse.specs.Ascii.{crlf_bytes}
use Rattle.httparse.specs.Grammar.{ChunkLine, print_chunk_line, chunk_size, HasNoChunkLine, MayBecomeChunkLine, NeverHasSection, ResponseHead, status_code}
use Rattle.httparse.proofs.PieceLemmas.{front-append}
use Rattle.fed_http.specs.Limits.{max_head, max_body, window}
use Rattle.fed_http.specs.Head.{Head, reply, ReadsHead, IsFinal, IsWithinLimits, head_framing, print_head}
use Rattle.fed_http.specs.Body.{Chunk, IsChunk, IsShortLine, print_chunk, print_chunks, chunk_data}
use Rattle.fed_http.specs.Unfinished.{IsUnfinishedHead, IsUnfinishedTrailer, IsFullTrailer, trailer_front}
use Rattle.fed_http.specs.Faults.{ReachesBody, ReadsChunks, ReachesTrailer, HasBadLine, NeverHasLineEnd, HasBadChunk, no_line, no_line_end, no_trailer, HasLargeChunks, HasTooManyFields, no_head, interim, trailers, large_head, large_length, large_chunks, large_trailer, IsFault}
use Rattle.fed_http.specs.Waiting.{LacksChunks, IsWaiting}
use Rattle.fed_http.specs.Waiting as waiting
use Rattle.fed_http.specs.declared.fault.HttpFault.{HttpFault}
use Rattle.fed_http.specs.declared.fault.HttpFault.TheVariants.{Memory, BadHead, TooLarge, BadLength, BadChunk, HasFailed}
use Rattle.fed_http.specs.declared.framing.Framing.{Framing}
use Rattle.fed_http.specs.declared.framing.Framing.TheVariants.{Fixed, Chunked}
use Rattle.fed_http.specs.declared.message.Kind.{Kind}
use Rattle.fed_http.proofs.Windows.{split_same, shrunk, all_of_few}
use Rattle.fed_http.proofs.HeadLemmas.{head_unique}
use Rattle.fed_http.proofs.ChunkLemmas.{line_is, chunk_line_of, chunk_unique, bad_line_excludes}

-- ---- the trailer

-- what is told of a trailer: a fault, or that more bytes are waited for
pub data Trailer (rest : List ℕ) (o : Option HttpFault) : Type 0 where
  trailer_never : NeverHasSection (trailer_front rest) → o ≡ Some BadChunk → Trailer rest o
  trailer_large : max_head ≤ length rest → IsUnfinishedTrailer (trailer_front rest) → o ≡ Some TooLarge → Trailer rest o
  trailer_lacks : length rest < max_head → IsUnfinishedTrailer (trailer_front rest) → o ≡ None → Trailer rest o
  trailer_many : IsFullTrailer (trailer_front rest) → o ≡ Some BadHead → Trailer rest o

trailer_same : (rest : List ℕ) (o p : Option HttpFault) → Trailer rest o → Trailer rest p → o ≡ p
trailer_same rest o p (trailer_never n e) (trailer_never m f) = e ∙ sym f
trailer_same rest o p (trailer_never n e) (trailer_large full u f) = absurd (n u.may.0 u.may.1 u.may.2 [] u.may.3)
trailer_same rest o p (trailer_never n e) (trailer_lacks few u f) = absurd (n u.may.0 u.may.1 u.may.2 [] u.may.3)
trailer_same rest o p (trailer_never n e) (trailer_many u f) = absurd (n u.may.0 u.may.1 u.may.2 [] u.may.3)
trailer_same rest o p (trailer_large full u e) (trailer_never n f) = absurd (n u.may.0 u.may.1 u.may.2 [] u.may.3)
trailer_same rest o p (trailer_large full u e) (trailer_large full' v f) = e ∙ sym f
trailer_same rest o p (trailer_large full u e) (trailer_lacks few v f) = absurd (omega arith)
trailer_same rest o p (trailer_large full u e) (trailer_many v f) = absurd (omega (arith, u.few, v.many))
trailer_same rest o p (trailer_lacks few u e) (trailer_never n f) = absurd (n u.may.0 u.may.1 u.may.2 [] u.may.3)
trailer_same rest o p (trailer_lacks few u e) (trailer_large full v f) = absurd (omega arith)
trailer_same rest o p (trailer_lacks few u e) (trailer_lacks few' v f) = e ∙ sym f
trailer_same rest o p (trailer_lacks few u e) (trailer_many v f) = absurd (omega (arith, u.few, v.many))
trailer_same rest o p (trailer_many u e) (trailer_never n f) = absurd (n u.may.0 u.may.1 u.may.2 [] u.may.3)
trailer_same rest o p (trailer_many u e) (trailer_large full v f) = absurd (omega (arith, u.many, v.few))
trailer_same rest o p (trailer_many u e) (trailer_lacks few v f) = absurd (omega (arith, u.many, v.few))
trailer_same rest o p (trailer_many u e) (trailer_many v f) = e ∙ sym f

-- ---- the chunk that comes

-- what is told behind a chunk line
pub data Behind (room : ℕ) (l : ChunkLine) (rest : List ℕ) (o : Option HttpFault) : Type 0 where
  chunk_unended : (content after : List ℕ) → rest ≡ content ++ after → chunk_size l ≡ length content → 0 < length content → length content ≤ room → NeverHasLineEnd after → o ≡ Some BadChunk → Behind room l rest o
  chunk_over : room < chunk_size l → o ≡ Some TooLarge → Behind room l rest o
  last : chunk_size l ≡ 0 → Trailer rest o → Behind room l rest o

pub data Comes (room : ℕ) (mid : List ℕ) (o : Option HttpFault) : Type 0 where
  bad_line : HasBadLine mid → o ≡ Some BadChunk → Comes room mid o
  line : (l : ChunkLine) (rest : List ℕ) → IsShortLine l → mid ≡ print_chunk_line l ++ rest → Behind room l rest o → Comes room mid o
  lacks_line : length mid < max_head → HasNoChunkLine mid → MayBecomeChunkLine mid → o ≡ None → Comes room mid o
  lacks_part : (c : Chunk) (more : List ℕ) → IsChunk c → length c.bytes ≤ room → mid ++ more ≡ print_chunk c → 0 < length more → o ≡ None → Comes room mid o

-- no chunk stands behind the line, nor its beginning
behind_excludes : (room : ℕ) (l : ChunkLine) (rest more x : List ℕ) (c : Chunk) (o : Option HttpFault) → Behind room l rest o → IsChunk c → length c.bytes ≤ room → c.line ≡ l → rest ++ more ≡ c.bytes ++ (crlf_bytes ++ x) → ⊥
behind_excludes room l rest more x c o (chunk_unended content after split size some fits never e) vc small same is =
    let lengths : length content ≡ length c.bytes = sym size ∙ ap chunk_size (sym same) ∙ vc.size in
    let whole : content ++ (after ++ more) ≡ c.bytes ++ (crlf_bytes ++ x) = sym (append_assoc content after more) ∙ ap (λ v. v ++ more) (sym split) ∙ is in
    never more x (split_same content c.bytes (after ++ more) (crlf_bytes ++ x) lengths whole).1
behind_excludes room l rest more x c o (chunk_over large e) vc small same is = omega (arith, large, small, ap chunk_size (sym same) ∙ vc.size)
behind_excludes room l rest more x c o (last zero t) vc small same is = omega (arith, vc.some, sym vc.size ∙ ap chunk_size same ∙ zero)

behind_same : (room : ℕ) (l : ChunkLine) (rest : List ℕ) (o p : Option HttpFault) → Behind room l rest o → Behind room l rest p → o ≡ p
behind_same room l rest o p (chunk_unended c a s size some fits never e) (chunk_unended c' a' s' size' some' fits' never' f) = e ∙ sym f
behind_same room l rest o p (chunk_unended c a s size some fits never e) (chunk_over large f) = absurd (omega (arith, size, fits, large))
behind_same room l rest o p (chunk_unended c a s size some fits never e) (last zero t) = absurd (omega (arith, size, some, zero))
behind_same room l rest o p (chunk_over large e) (chunk_unended c a s size some fits never f) = absurd (omega (arith, size, fits, large))
behind_same room l rest o p (chunk_over large e) (chunk_over large' f) = e ∙ sym f
behind_same room l rest o p (chunk_over large e) (last zero t) = absurd (omega (arith, large, zero))
behind_same room l rest o p (last zero t) (chunk_unended c a s size some fits never f) = absurd (omega (arith, size, some, zero))
behind_same room l rest o p (last zero t) (chunk_over large f) = absurd (omega (arith, large, zero))
behind_same room l rest o p (last zero t) (last zero' u) = trailer_same rest o p t u

bad_line_lacks : (mid : List ℕ) → HasBadLine mid → length mid < max_head → MayBecomeChunkLine mid → ⊥
bad_line_lacks mid (inl never) few may = subst (λ v. (more : List ℕ) → HasNoChunkLine (v ++ more)) (all_of_few max_head mid few) never may.0 may.1 [] may.2
bad_line_lacks mid (inr full) few may = omega (arith, few, full.0)

-- the line of a chunk of which bytes are the beginning
part_line : (c : Chunk) (mid more : List ℕ) → mid ++ more ≡ print_chunk c → mid ++ more ≡ print_chunk_line c.line ++ (c.bytes ++ (crlf_bytes ++ []))
part_line c mid more is = chunk_line_of c (mid ++ more) [] (is ∙ sym (append-nil (print_chunk c)))

line_part : (room : ℕ) (l : ChunkLine) (mid rest more : List ℕ) (c : Chunk) (o : Option HttpFault) → IsShortLine l → mid ≡ print_chunk_line l ++ rest → Behind room l rest o → IsChunk c → length c.bytes ≤ room → mid ++ more ≡ print_chunk c → ⊥
line_part room l mid rest more c o short split b vc fits is =
    let same = line_is c.line l (mid ++ more) (c.bytes ++ (crlf_bytes ++ [])) (rest ++ more) vc.line short (part_line c mid more is) (front-append mid (print_chunk_line l) rest more split) in
    behind_excludes room l rest more [] c o b vc fits same.0 (sym same.1)

comes_same : (room : ℕ) (mid : List ℕ) (o p : Option HttpFault) → Comes room mid o → Comes room mid p → o ≡ p
comes_same room mid o p (bad_line b e) (bad_line d f) = e ∙ sym f
comes_same room mid o p (bad_line b e) (line l rest short split d) = absurd (bad_line_excludes mid [] l rest b short (append-nil mid ∙ split))
comes_same room mid o p (bad_line b e) (lacks_line few none may f) = absurd (bad_line_lacks mid b few may)
comes_same room mid o p (bad_line b e) (lacks_part c more vc fits is some f) = absurd (bad_line_excludes mid more c.line _ b vc.line (part_line c mid more is))
comes_same room mid o p (line l rest short split d) (bad_line b f) = absurd (bad_line_excludes mid [] l rest b short (append-nil mid ∙ split))
comes_same room mid o p (line l rest short split d) (line k other short' split' b) =
    let same = line_is l k mid rest other short short' split split' in
    let P : ChunkLine → Type 0 = λ m. Behind room m rest o in
    let Q : List ℕ → Type 0 = λ r. Behind room k r o in
    behind_same room k other o p (subst Q same.1 (subst P same.0 d)) b
comes_same room mid o p (line l rest short split d) (lacks_line few none may f) = absurd (none l rest (short.valid, split))
comes_same room mid o p (line l rest short split d) (lacks_part c more vc fits is some f) = absurd (line_part room l mid rest more c o short split d vc fits is)
comes_same room mid o p (lacks_line few none may e) (bad_line b f) = absurd (bad_line_lacks mid b few may)
comes_same room mid o p (lacks_line few none may e) (line l rest short split d) = absurd (none l rest (short.valid, split))
comes_same room mid o p (lacks_line few none may e) (lacks_line few' none' may' f) = e ∙ sym f
comes_same room mid o p (lacks_line few none may e) (lacks_part c more vc fits is some f) = e ∙ sym f
comes_same room mid o p (lacks_part c more vc fits is some e) (bad_line b f) = absurd (bad_line_excludes mid more c.line _ b vc.line (part_line c mid more is))
comes_same room mid o p (lacks_part c more vc fits is some e) (line l rest short split d) = absurd (line_part room l mid rest more c p short split d vc fits is)
comes_same room mid o p (lacks_part c more vc fits is some e) (lacks_line few none may f) = e ∙ sym f
comes_same room mid o p (lacks_part c more vc fits is some e) (lacks_part c' more' vc' fits' is' some' f) = e ∙ sym f

-- ---- all chunks

-- no chunk is at the front, then
comes_stops : (room : ℕ) (mid : List ℕ) (o : Option HttpFault) (c : Chunk) (x : List ℕ) → Comes room mid o → IsChunk c → length c.bytes ≤ room → mid ≡ print_chunk c ++ x → ⊥
comes_stops room mid o c x (bad_line b e) vc fits is = bad_line_excludes mid [] c.line _ b vc.line (append-nil mid ∙ chunk_line_of c mid x is)
comes_stops room mid o c x (line l rest short split d) vc fits is =
    let same = line_is c.line l mid (c.bytes ++ (crlf_bytes ++ x)) rest vc.line short (chunk_line_of c mid x is) split in
    behind_excludes room l rest [] x c o d vc fits same.0 (append-nil rest ∙ sym same.1)
comes_stops room mid o c x (lacks_line few none may e) vc fits is = none c.line _ (vc.line.valid, chunk_line_of c mid x is)
comes_stops room mid o c x (lacks_part d more vd small whole some e) vc fits is =
    let same = chunk_unique d c (mid ++ more) [] (x ++ more) vd vc (whole ∙ sym (append-nil (print_chunk d))) (front-append mid (print_chunk c) x more is) in
    omega (arith, some, ap length same.1, length-append x more)

walk_same : (cs ds : List Chunk) (buf mid nid : List ℕ) (room : ℕ) (o p : Option HttpFault) → AllByRecursion IsChunk cs → AllByRecursion IsChunk ds → length (chunk_data cs) ≤ room → length (chunk_data ds) ≤ room
    → buf ≡ print_chunks cs ++ mid → buf ≡ print_chunks ds ++ nid → Comes (room - length (chunk_data cs)) mid o → Comes (room - length (chunk_data ds)) nid p → o ≡ p
walk_same [] [] buf mid nid room o p vc vd small fits e f x y =
    let P : List ℕ → Type 0 = λ v. Comes (room - 0) v o in
    comes_same (room - 0) nid o p (subst P (sym e ∙ f) x) y
walk_same [] (d ∷ ds) buf mid nid room o p vc vd small fits e f x y =
    absurd (comes_stops (room - 0) mid o d (print_chunks ds ++ nid) x vd.0 (omega (arith, fits, length-append d.bytes (chunk_data ds))) (sym e ∙ f ∙ append_assoc (print_chunk d) (print_chunks ds) nid))
walk_same (c ∷ cs) [] buf mid nid room o p vc vd small fits e f x y =
    absurd (comes_stops (room - 0) nid p c (print_chunks cs ++ mid) y vc.0 (omega (arith, small, length-append c.bytes (chunk_data cs))) (sym f ∙ e ∙ append_assoc (print_chunk c) (print_chunks cs) mid))
walk_same (c ∷ cs) (d ∷ ds) buf mid nid room o p vc vd small fits e f x y =
    let same = chunk_unique c d buf (print_chunks cs ++ mid) (print_chunks ds ++ nid) vc.0 vd.0 (e ∙ append_assoc (print_chunk c) (print_chunks cs) mid) (f ∙ append_assoc (print_chunk d) (print_chunks ds) nid) in
    let sizes : length c.bytes ≡ length d.bytes = ap (λ (k : Chunk). length k.bytes) same.0 in
    let left = room - length c.bytes in
    let P : ℕ → Type 0 = λ n. Comes n mid o in
    let Q : ℕ → Type 0 = λ n. Comes n nid p in
    let one : room - length (chunk_data (c ∷ cs)) ≡ left - length (chunk_data cs) = omega (arith, length-append c.bytes (chunk_data cs)) in
    let other : room - length (chunk_data (d ∷ ds)) ≡ left - length (chunk_data ds) = omega (arith, length-append d.bytes (chunk_data ds), sizes) in
    walk_same cs ds (print_chunks cs ++ mid) mid nid left o p vc.1 vd.1 (omega (arith, small, length-append c.bytes (chunk_data cs))) (omega (arith, fits, length-append d.bytes (chunk_data ds), sizes)) refl same.1 (subst P one x) (subst Q other y)

-- what is told of a chunked body
pub record Body (bytes : List ℕ) (o : Option HttpFault) : Type 0 where
  chunks : List Chunk
  mid : List ℕ
  reads : ReadsChunks bytes chunks mid
  comes : Comes (max_body - length (chunk_data chunks)) mid o

body_same : (bytes : List ℕ) (o p : Option HttpFault) → Body bytes o → Body bytes p → o ≡ p
body_same bytes o p a b = walk_same a.chunks b.chunks bytes a.mid b.mid max_body o p a.reads.valid b.reads.valid a.reads.fits b.reads.fits a.reads.whole b.reads.whole a.comes b.comes

at_trailer : (bytes rest : List ℕ) (o : Option HttpFault) → ReachesTrailer bytes rest → Trailer rest o → Body bytes o
at_trailer bytes rest o r t = record { chunks = r.chunks; mid = print_chunk_line r.last ++ rest; reads = r.reads; comes = line r.last rest r.is_last.line refl (last r.is_last.size t) }

bad_body : (bytes : List ℕ) → HasBadChunk bytes → Body bytes (Some BadChunk)
bad_body bytes (no_line cs mid reads bad) = record { chunks = cs; mid = mid; reads = reads; comes = bad_line bad refl }
bad_body bytes (no_line_end cs l content after reads short size some fits never) = record {
  chunks = cs;
  mid = print_chunk_line l ++ content ++ after;
  reads = reads;
  comes = line l (content ++ after) short (append_assoc (print_chunk_line l) content after) (chunk_unended content after refl size some (omega (arith, fits)) never refl);
}
bad_body bytes (no_trailer rest r bad) = at_trailer bytes rest (Some BadChunk) r (trailer_never bad refl)

large_body : (bytes : List ℕ) → HasLargeChunks bytes → Body bytes (Some TooLarge)
large_body bytes x = record {
  chunks = x.chunks;
  mid = print_chunk_line x.line ++ x.rest;
  reads = x.reads;
  comes = line x.line x.rest x.short refl (chunk_over (omega (arith, x.large, x.reads.fits)) refl);
}

lacking_body : (bytes : List ℕ) → LacksChunks bytes → Body bytes None
lacking_body bytes (waiting.line cs mid reads few none may) = record { chunks = cs; mid = mid; reads = reads; comes = lacks_line few none may refl }
lacking_body bytes (waiting.part cs mid more c reads vc fits is some) = record { chunks = cs; mid = mid; reads = reads; comes = lacks_part c more vc (omega (arith, fits)) is some refl }
lacking_body bytes (waiting.trailer rest r few u) = at_trailer bytes rest None r (trailer_lacks few u refl)

-- ---- the head

-- what is told behind a head
pub data Framed (h : Head) (rest : List ℕ) (o : Option HttpFault) : Type 0 where
  interim_head : (r : ResponseHead) → h ≡ reply r → status_code r < 200 → o ≡ Some BadHead → Framed h rest o
  refused : IsFinal h → head_framing h ≡ None → o ≡ Some BadLength → Framed h rest o
  long : (n : ℕ) → IsFinal h → head_framing h ≡ Some (Fixed n) → max_body < n → o ≡ Some TooLarge → Framed h rest o
  few_bytes : (n : ℕ) → IsFinal h → head_framing h ≡ Some (Fixed n) → n ≤ max_body → o ≡ None → Framed h rest o
  chunked : IsFinal h → head_framing h ≡ Some Chunked → Body rest o → Framed h rest o

low_is_not_final : {A : Type 0} (h : Head) (r : ResponseHead) → h ≡ reply r → status_code r < 200 → IsFinal h → A
low_is_not_final h r is low final = absurd (omega (arith, low, subst IsFinal is final))

other_framing : {A : Type 0} (o : Option Framing) (f : Framing) → o ≡ None → o ≡ Some f → A
other_framing o f none some = cc

other_size : (o : Option Framing) (n m : ℕ) → o ≡ Some (Fixed n) → o ≡ Some (Fixed m) → n ≡ m
other_size o n m e f = cc

fixed_or_chunked : {A : Type 0} (o : Option Framing) (n : ℕ) → o ≡ Some (Fixed n) → o ≡ Some Chunked → A
fixed_or_chunked o n e f = cc

framed_same : (h : Head) (rest : List ℕ) (o p : Option HttpFault) → Framed h rest o → Framed h rest p → o ≡ p
framed_same h rest o p (interim_head r is less e) (interim_head s is' less' f) = e ∙ sym f
framed_same h rest o p (interim_head r is less e) (refused final none f) = low_is_not_final h r is less final
framed_same h rest o p (interim_head r is less e) (long n final some large f) = low_is_not_final h r is less final
framed_same h rest o p (interim_head r is less e) (few_bytes n final some small f) = low_is_not_final h r is less final
framed_same h rest o p (interim_head r is less e) (chunked final some b) = low_is_not_final h r is less final
framed_same h rest o p (refused final none e) (interim_head r is less f) = low_is_not_final h r is less final
framed_same h rest o p (refused final none e) (refused final' none' f) = e ∙ sym f
framed_same h rest o p (refused final none e) (long n final' some large f) = other_framing (head_framing h) (Fixed n) none some
framed_same h rest o p (refused final none e) (few_bytes n final' some small f) = other_framing (head_framing h) (Fixed n) none some
framed_same h rest o p (refused final none e) (chunked final' some b) = other_framing (head_framing h) Chunked none some
framed_same h rest o p (long n final some large e) (interim_head r is less f) = low_is_not_final h r is less final
framed_same h rest o p (long n final some large e) (refused final' none f) = other_framing (head_framing h) (Fixed n) none some
framed_same h rest o p (long n final some large e) (long m final' some' large' f) = e ∙ sym f
framed_same h rest o p (long n final some large e) (few_bytes m final' some' small f) = absurd (omega (arith, large, small, other_size (head_framing h) n m some some'))
framed_same h rest o p (long n final some large e) (chunked final' some' b) = fixed_or_chunked (head_framing h) n some some'
framed_same h rest o p (few_bytes n final some small e) (interim_head r is less f) = low_is_not_final h r is less final
framed_same h rest o p (few_bytes n final some small e) (refused final' none f) = other_framing (head_framing h) (Fixed n) none some
framed_same h rest o p (few_bytes n final some small e) (long m final' some' large f) = absurd (omega (arith, large, small, other_size (head_framing h) n m some some'))
framed_same h rest o p (few_bytes n final some small e) (few_bytes m final' some' small' f) = e ∙ sym f
framed_same h rest o p (few_bytes n final some small e) (chunked final' some' b) = fixed_or_chunked (head_framing h) n some some'
framed_same h rest o p (chunked final some b) (interim_head r is less f) = low_is_not_final h r is less final
framed_same h rest o p (chunked final some b) (refused final' none f) = other_framing (head_framing h) Chunked none some
framed_same h rest o p (chunked final some b) (long n final' some' large f) = fixed_or_chunked (head_framing h) n some' some
framed_same h rest o p (chunked final some b) (few_bytes n final' some' small f) = fixed_or_chunked (head_framing h) n some' some
framed_same h rest o p (chunked final some b) (chunked final' some' d) = body_same rest o p b d

-- what is told of bytes
pub data Told (kind : Kind) (bytes : List ℕ) (o : Option HttpFault) : Type 0 where
  never_head : HasTooManyFields kind (window bytes) → ¬ (IsUnfinishedHead kind (window bytes)) → o ≡ Some BadHead → Told kind bytes o
  full_head : max_head ≤ length bytes → IsUnfinishedHead kind (window bytes) → o ≡ Some TooLarge → Told kind bytes o
  lacks_head : length bytes < max_head → IsUnfinishedHead kind (window bytes) → o ≡ None → Told kind bytes o
  behind_head : (h : Head) (rest : List ℕ) → ReadsHead kind bytes h rest → IsWithinLimits h → Framed h rest o → Told kind bytes o

in_window : (kind : Kind) (bytes : List ℕ) (h : Head) (rest : List ℕ) → ReadsHead kind bytes h rest → IsWithinLimits h → ReadsHead kind (window bytes) h (take (max_head - length (print_head h)) rest)
in_window kind bytes h rest reads within = record { valid = reads.valid; whole = shrunk max_head bytes (print_head h) rest reads.whole within.short }

too_many_excludes : (kind : Kind) (bytes : List ℕ) (h : Head) (rest : List ℕ) → HasTooManyFields kind (window bytes) → ReadsHead kind bytes h rest → IsWithinLimits h → ⊥
too_many_excludes kind bytes h rest many reads within =
    let here = in_window kind bytes h rest reads within in
    omega (arith, within.few, many [] h _ (record { valid = reads.valid; whole = append-nil (window bytes) ∙ here.whole }))

unfinished_excludes : (kind : Kind) (bytes : List ℕ) (h : Head) (rest : List ℕ) → IsUnfinishedHead kind (window bytes) → ReadsHead kind bytes h rest → IsWithinLimits h → ⊥
unfinished_excludes kind bytes h rest u reads within = u.none h _ (in_window kind bytes h rest reads within)

told_same : (kind : Kind) (bytes : List ℕ) (o p : Option HttpFault) → Told kind bytes o → Told kind bytes p → o ≡ p
told_same kind bytes o p (never_head many over e) (never_head many' over' f) = e ∙ sym f
told_same kind bytes o p (never_head many over e) (full_head full u f) = absurd (over u)
told_same kind bytes o p (never_head many over e) (lacks_head few u f) = absurd (over u)
told_same kind bytes o p (never_head many over e) (behind_head h rest reads within x) = absurd (too_many_excludes kind bytes h rest many reads within)
told_same kind bytes o p (full_head full u e) (never_head many over f) = absurd (over u)
told_same kind bytes o p (full_head full u e) (full_head full' v f) = e ∙ sym f
told_same kind bytes o p (full_head full u e) (lacks_head few v f) = absurd (omega arith)
told_same kind bytes o p (full_head full u e) (behind_head h rest reads within x) = absurd (unfinished_excludes kind bytes h rest u reads within)
told_same kind bytes o p (lacks_head few u e) (never_head many over f) = absurd (over u)
told_same kind bytes o p (lacks_head few u e) (full_head full v f) = absurd (omega arith)
told_same kind bytes o p (lacks_head few u e) (lacks_head few' v f) = e ∙ sym f
told_same kind bytes o p (lacks_head few u e) (behind_head h rest reads within x) = absurd (unfinished_excludes kind bytes h rest u reads within)
told_same kind bytes o p (behind_head h rest reads within x) (never_head many over f) = absurd (too_many_excludes kind bytes h rest many reads within)
told_same kind bytes o p (behind_head h rest reads within x) (full_head full u f) = absurd (unfinished_excludes kind bytes h rest u reads within)
told_same kind bytes o p (behind_head h rest reads within x) (lacks_head few u f) = absurd (unfinished_excludes kind bytes h rest u reads within)
told_same kind bytes o p (behind_head h rest reads within x) (behind_head k other reads' within' y) =
    let same = head_unique kind bytes h k rest other reads reads' in
    let P : Head → Type 0 = λ g. Framed g rest o in
    let Q : List ℕ → Type 0 = λ r. Framed k r o in
    framed_same k other o p (subst Q same.1 (subst P same.0 x)) y

-- ---- faults and waiting

behind : (kind : Kind) (bytes rest : List ℕ) (f : Framing) (o : Option HttpFault) (r : ReachesBody kind bytes f rest) → Framed r.head rest o → Told kind bytes o
behind kind bytes rest f o r x = behind_head r.head rest r.reads r.within x

pub fault_told : (kind : Kind) (bytes : List ℕ) (fault : HttpFault) → fault ≢ Memory → IsFault kind bytes fault → Told kind bytes (Some fault)
fault_told kind bytes Memory other is = absurd (other refl)
fault_told kind bytes BadHead other (no_head many over) = never_head many over refl
fault_told kind bytes BadHead other (interim r rest reads within less) = behind_head (reply r) rest reads within (interim_head r refl less refl)
fault_told kind bytes BadHead other (trailers rest r many_trailers) =
    behind kind bytes rest Chunked (Some BadHead) r (chunked r.final r.framed (at_trailer rest many_trailers.rest (Some BadHead) many_trailers.reaches (trailer_many many_trailers.full refl)))
fault_told kind bytes TooLarge other (large_head full u) = full_head full u refl
fault_told kind bytes TooLarge other (large_length n rest r over) = behind kind bytes rest (Fixed n) (Some TooLarge) r (long n r.final r.framed over refl)
fault_told kind bytes TooLarge other (large_chunks rest r x) = behind kind bytes rest Chunked (Some TooLarge) r (chunked r.final r.framed (large_body rest x))
fault_told kind bytes TooLarge other (large_trailer rest r x) =
    behind kind bytes rest Chunked (Some TooLarge) r (chunked r.final r.framed (at_trailer rest x.rest (Some TooLarge) x.reaches (trailer_large x.full x.unended refl)))
fault_told kind bytes BadLength other is = behind_head is.head is.rest is.reads is.within (refused is.final is.refused refl)
fault_told kind bytes BadChunk other is = behind kind bytes is.rest Chunked (Some BadChunk) is.reaches (chunked is.reaches.final is.reaches.framed (bad_body is.rest is.bad))
fault_told kind bytes HasFailed other is = absurd is

pub waiting_told : (kind : Kind) (bytes : List ℕ) → IsWaiting kind bytes → Told kind bytes None
waiting_told kind bytes (waiting.head few u) = lacks_head few (subst (IsUnfinishedHead kind) (sym (all_of_few max_head bytes few)) u) refl
waiting_told kind bytes (waiting.body n rest r small few) = behind kind bytes rest (Fixed n) None r (few_bytes n r.final r.framed small refl)
waiting_told kind bytes (waiting.chunks rest r lacks_some) = behind kind bytes rest Chunked None r (chunked r.final r.framed (lacking_body rest lacks_some))

pub one_fault : (kind : Kind) (bytes : List ℕ) (fault other : HttpFault) → fault ≢ Memory → other ≢ Memory → IsFault kind bytes fault → IsFault kind bytes other → fault ≡ other
one_fault kind bytes fault other p q is also =
    let same : Some fault ≡ Some other = told_same kind bytes (Some fault) (Some other) (fault_told kind bytes fault p is) (fault_told kind bytes other q also) in cc

pub fault_never_waits : (kind : Kind) (bytes : List ℕ) (fault : HttpFault) → fault ≢ Memory → IsFault kind bytes fault → ¬ (IsWaiting kind bytes)
fault_never_waits kind bytes fault p is waits =
    let same : Some fault ≡ None = told_same kind bytes (Some fault) None (fault_told kind bytes fault p is) (waiting_told kind bytes waits) in cc
