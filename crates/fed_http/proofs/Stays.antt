-- A fault stays, whatever bytes follow.
use Rattle.std.proofs.Common.{arith, ◌≡◌, ℕ, List, [], ◌∷◌, ◌++◌, length, refl, sym, ap, subst, ◌∙◌, append_assoc, length-append, inl, inr}
use Rattle.std.proofs.lemmas.Bool.{cases_lt}
use Rattle.std.proofs.lemmas.List.{take-append-le}
use Rattle.std.proofs.lemmas.List.Elements.{All-head, All-tail, All-nil, All-cons}
use Rattle.std.specs.Prelude.{IsTrue}
use Rattle.httparse.specs.Grammar.{LineEnd, lf, print_blank, print_chunk_line, AllPass, is_token_byte, is_uri_byte, IsField, RequestHead, EndsInTarget, MayBecomeRequest, NeverHasChunkLine, HasNoChunkLine, NeverHasSection}
use Rattle.httparse.proofs.GrammarLemmas.{print_request-append, cons-append}
use Rattle.httparse.proofs.PieceLemmas.{front-append}
use Rattle.fed_http.specs.Limits.{max_head, window}
use Rattle.fed_http.specs.Head.{reply, MayBecomeHead}
use Rattle.fed_http.specs.Body.{Chunk, print_chunks}
use Rattle.fed_http.specs.Unfinished.{IsUnfinishedHead, IsUnfinishedTrailer, IsFullTrailer, trailer_front}
use Rattle.fed_http.specs.Faults.{ReachesBody, ReadsChunks, ReachesTrailer, HasBadLine, HasBadChunk, no_line, no_line_end, no_trailer, HasLargeChunks, HasLargeTrailer, HasManyTrailers, HasTooManyFields, IsBadHead, no_head, interim, trailers, IsTooLarge, large_head, large_length, large_chunks, large_trailer, IsFault}
use Rattle.fed_http.specs.declared.fault.HttpFault.{HttpFault}
use Rattle.fed_http.specs.declared.fault.HttpFault.TheVariants.{Memory, BadHead, TooLarge, BadLength, BadChunk, HasFailed}
use Rattle.fed_http.specs.declared.framing.Framing.{Framing}
use Rattle.fed_http.specs.declared.framing.Framing.TheVariants.{Chunked}
use Rattle.fed_http.specs.declared.message.Kind.{Kind}
use Rattle.fed_http.specs.declared.message.Kind.TheVariants.{Requests, Replies}
use Rattle.fed_http.proofs.Windows.{split_same}
use Rattle.fed_http.proofs.HeadLemmas.{ReadsHead-append}
use Rattle.fed_http.proofs.LineCounts.{lines-append, front_in}
use Rattle.fed_http.proofs.TrailerFronts.{window-append, front-grows, front-full, front-many}
use Rattle.httparse.proofs.OpenLemmas.{letter_is_token}
use Rattle.fed_http.proofs.Messages.{token_text}

-- ---- a target that has not ended

all_front : (xs ys : List ℕ) → AllPass is_uri_byte (xs ++ ys) → AllPass is_uri_byte xs
all_front [] ys all = All-nil (λ b. IsTrue (is_uri_byte b))
all_front (x ∷ xs) ys all =
    All-cons (λ b. IsTrue (is_uri_byte b)) x xs (All-head (λ b. IsTrue (is_uri_byte b)) x (xs ++ ys) all) (all_front xs ys (All-tail (λ b. IsTrue (is_uri_byte b)) x (xs ++ ys) all))

-- the shortest request of this method
abbrev shortest : List LineEnd → List ℕ → RequestHead
shortest blank method = record { blank = blank; method = method; target = 65 ∷ []; minor = 0; line_end = lf; fields = []; last = lf }

target_may : (bytes more : List ℕ) → EndsInTarget (bytes ++ more) → MayBecomeRequest bytes
target_may bytes more (blank, method, target, is_method, is_target, split) =
    let before = (print_blank blank ++ method) ++ 32 ∷ [] in
    let whole : bytes ++ more ≡ before ++ target = split ∙ sym (append_assoc (print_blank blank ++ method) (32 ∷ []) target) in
    elim (cases_lt (length before) (length bytes)) [
      | inl inside ↦
          let left = front_in bytes more before target whole (omega (arith, inside)) in
          let again : before ++ (left.0 ++ more) ≡ before ++ target = sym (append_assoc before left.0 more) ∙ ap (λ v. v ++ more) (sym left.1) ∙ whole in
          let same = split_same before before (left.0 ++ more) target refl again in
          inr (blank, method, left.0, is_method, all_front left.0 more (subst (AllPass is_uri_byte) (sym same.1) is_target), left.1 ∙ append_assoc (print_blank blank ++ method) (32 ∷ []) left.0)
      | inr outside ↦
          let left = front_in before target bytes more (sym whole) outside in
          let end : List ℕ = 65 ∷ 32 ∷ 72 ∷ 84 ∷ 84 ∷ 80 ∷ 47 ∷ 49 ∷ 46 ∷ 48 ∷ 10 ∷ 10 ∷ [] in
          let h = shortest blank method in
          inl (
            left.0 ++ end,
            h,
            (
              record {
                method = is_method;
                target = (omega arith, All-cons (λ b. IsTrue (is_uri_byte b)) 65 [] refl (All-nil (λ b. IsTrue (is_uri_byte b))));
                target_text = token_text (65 ∷ []) (omega arith, All-cons (λ b. IsTrue (is_token_byte b)) 65 [] letter_is_token (All-nil (λ b. IsTrue (is_token_byte b))));
                minor = omega arith;
                fields = All-nil IsField;
              },
              sym (append_assoc bytes left.0 end) ∙ ap (λ v. v ++ end) (sym left.1) ∙ grouped (print_blank blank) method end ∙ sym (print_request-append h []),
            ),
          )
    ]
  where
    grouped : (a b e : List ℕ) → ((a ++ b) ++ 32 ∷ []) ++ e ≡ a ++ (b ++ 32 ∷ e)
    grouped a b e = simp (append_assoc, cons-append)

-- ---- heads

proper_may : (kind : Kind) (bytes more : List ℕ) → MayBecomeHead kind (bytes ++ more) → MayBecomeHead kind bytes
proper_may Requests bytes more (inl (further, h, reads)) = inl (more ++ further, h, (reads.0, sym (append_assoc bytes more further) ∙ reads.1))
proper_may Requests bytes more (inr ends) = target_may bytes more ends
proper_may Replies bytes more (further, h, reads) = (more ++ further, h, (reads.0, sym (append_assoc bytes more further) ∙ reads.1))

unfinished_front : (kind : Kind) (bytes more : List ℕ) → IsUnfinishedHead kind (bytes ++ more) → IsUnfinishedHead kind bytes
unfinished_front kind bytes more u = record {
  none = λ h rest reads. u.none h (rest ++ more) (ReadsHead-append kind bytes h rest more reads);
  may = proper_may kind bytes more u.may;
  few = omega (arith, u.few, lines-append bytes more);
}

many_stays : (kind : Kind) (bytes more : List ℕ) → HasTooManyFields kind bytes → HasTooManyFields kind (bytes ++ more)
many_stays kind bytes more many further h rest reads = many (more ++ further) h rest (record { valid = reads.valid; whole = sym (append_assoc bytes more further) ∙ reads.whole })

-- ---- bodies

pub reaches_on : (kind : Kind) (bytes rest more : List ℕ) (f : Framing) → ReachesBody kind bytes f rest → ReachesBody kind (bytes ++ more) f (rest ++ more)
reaches_on kind bytes rest more f r = record { head = r.head; reads = ReadsHead-append kind bytes r.head rest more r.reads; within = r.within; final = r.final; framed = r.framed }

pub chunks_on : (bytes : List ℕ) (cs : List Chunk) (rest more : List ℕ) → ReadsChunks bytes cs rest → ReadsChunks (bytes ++ more) cs (rest ++ more)
chunks_on bytes cs rest more r = record { valid = r.valid; fits = r.fits; whole = front-append bytes (print_chunks cs) rest more r.whole }

pub chunks_is : (bytes : List ℕ) (cs : List Chunk) (rest other : List ℕ) → rest ≡ other → ReadsChunks bytes cs rest → ReadsChunks bytes cs other
chunks_is bytes cs rest other is r = record { valid = r.valid; fits = r.fits; whole = r.whole ∙ ap (λ v. print_chunks cs ++ v) is }

pub trailer_on : (bytes rest more : List ℕ) → ReachesTrailer bytes rest → ReachesTrailer (bytes ++ more) (rest ++ more)
trailer_on bytes rest more r = record {
  chunks = r.chunks;
  last = r.last;
  reads = chunks_is (bytes ++ more) r.chunks ((print_chunk_line r.last ++ rest) ++ more) (print_chunk_line r.last ++ (rest ++ more)) (append_assoc (print_chunk_line r.last) rest more) (chunks_on bytes r.chunks (print_chunk_line r.last ++ rest) more r.reads);
  is_last = r.is_last;
}

line_stays : (bytes more : List ℕ) → HasBadLine bytes → HasBadLine (bytes ++ more)
line_stays bytes more (inl never) =
    let w = window-append bytes more in
    inl (subst NeverHasChunkLine (sym w.1) (λ further l rest reads. never (w.0 ++ further) l rest (reads.0, sym (append_assoc (window bytes) w.0 further) ∙ reads.1)))
line_stays bytes more (inr (full, none)) =
    inr (omega (arith, full, length-append bytes more), subst HasNoChunkLine (sym (take-append-le max_head bytes more full)) none)

bad_chunk_stays : (bytes more : List ℕ) → HasBadChunk bytes → HasBadChunk (bytes ++ more)
bad_chunk_stays bytes more (no_line cs rest reads bad) = no_line cs (rest ++ more) (chunks_on bytes cs rest more reads) (line_stays rest more bad)
bad_chunk_stays bytes more (no_line_end cs l content rest reads short size some fits never) =
    let line = print_chunk_line l in
    no_line_end cs l content (rest ++ more) (chunks_is (bytes ++ more) cs ((line ++ content ++ rest) ++ more) (line ++ content ++ (rest ++ more)) (append_assoc (line ++ content) rest more) (chunks_on bytes cs (line ++ content ++ rest) more reads))
    short size some fits (λ further after e. never (more ++ further) after (sym (append_assoc rest more further) ∙ e))
bad_chunk_stays bytes more (no_trailer rest r never) =
    let front = front-grows rest more in
    no_trailer (rest ++ more) (trailer_on bytes rest more r)
    (subst NeverHasSection (sym front.1) (λ further fields end after reads. never (front.0 ++ further) fields end after (reads.0, sym (append_assoc (trailer_front rest) front.0 further) ∙ reads.1)))

large_chunks_stay : (bytes more : List ℕ) → HasLargeChunks bytes → HasLargeChunks (bytes ++ more)
large_chunks_stay bytes more x = record {
  chunks = x.chunks;
  line = x.line;
  rest = x.rest ++ more;
  reads = chunks_is (bytes ++ more) x.chunks ((print_chunk_line x.line ++ x.rest) ++ more) (print_chunk_line x.line ++ (x.rest ++ more)) (append_assoc (print_chunk_line x.line) x.rest more) (chunks_on bytes x.chunks (print_chunk_line x.line ++ x.rest) more x.reads);
  short = x.short;
  large = x.large;
}

large_trailer_stays : (bytes more : List ℕ) → HasLargeTrailer bytes → HasLargeTrailer (bytes ++ more)
large_trailer_stays bytes more x = record {
  rest = x.rest ++ more;
  reaches = trailer_on bytes x.rest more x.reaches;
  full = omega (arith, x.full, length-append x.rest more);
  unended = subst IsUnfinishedTrailer (sym (front-full x.rest more x.full)) x.unended;
}

many_trailers_stay : (bytes more : List ℕ) → HasManyTrailers bytes → HasManyTrailers (bytes ++ more)
many_trailers_stay bytes more x = record {
  rest = x.rest ++ more;
  reaches = trailer_on bytes x.rest more x.reaches;
  full = subst IsFullTrailer (sym (front-many x.rest more x.full.many)) x.full;
}

-- ---- faults

bad_head_stays : (kind : Kind) (bytes more : List ℕ) → IsBadHead kind bytes → IsBadHead kind (bytes ++ more)
bad_head_stays kind bytes more (no_head many over) =
    let w = window-append bytes more in
    no_head (subst (HasTooManyFields kind) (sym w.1) (many_stays kind (window bytes) w.0 many)) (λ u. over (unfinished_front kind (window bytes) w.0 (subst (IsUnfinishedHead kind) w.1 u)))
bad_head_stays kind bytes more (interim r rest reads within low) = interim r (rest ++ more) (ReadsHead-append kind bytes (reply r) rest more reads) within low
bad_head_stays kind bytes more (trailers rest r many) = trailers (rest ++ more) (reaches_on kind bytes rest more Chunked r) (many_trailers_stay rest more many)

too_large_stays : (kind : Kind) (bytes more : List ℕ) → IsTooLarge kind bytes → IsTooLarge kind (bytes ++ more)
too_large_stays kind bytes more (large_head full u) = large_head (omega (arith, full, length-append bytes more)) (subst (IsUnfinishedHead kind) (sym (take-append-le max_head bytes more full)) u)
too_large_stays kind bytes more (large_length n rest r over) = large_length n (rest ++ more) (reaches_on kind bytes rest more _ r) over
too_large_stays kind bytes more (large_chunks rest r x) = large_chunks (rest ++ more) (reaches_on kind bytes rest more Chunked r) (large_chunks_stay rest more x)
too_large_stays kind bytes more (large_trailer rest r x) = large_trailer (rest ++ more) (reaches_on kind bytes rest more Chunked r) (large_trailer_stays rest more x)

pub fault_stays : (kind : Kind) (bytes more : List ℕ) (fault : HttpFault) → IsFault kind bytes fault → IsFault kind (bytes ++ more) fault
fault_stays kind bytes more Memory is = is
fault_stays kind bytes more BadHead is = bad_head_stays kind bytes more is
fault_stays kind bytes more TooLarge is = too_large_stays kind bytes more is
fault_stays kind bytes more BadLength is = record { head = is.head; rest = is.rest ++ more; reads = ReadsHead-append kind bytes is.head is.rest more is.reads; within = is.within; final = is.final; refused = is.refused }
fault_stays kind bytes more BadChunk is = record { rest = is.rest ++ more; reaches = reaches_on kind bytes is.rest more Chunked is.reaches; bad = bad_chunk_stays is.rest more is.bad }
fault_stays kind bytes more HasFailed is = absurd is
