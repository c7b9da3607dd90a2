-- The bytes of a body, as they come.
use Rattle.std.proofs.Common.{arith, ◌≡◌, ◌≢◌, ℕ, ◌+◌, ◌<◌, ◌≤◌, List, [], ◌∷◌, ◌++◌, length, get_or, refl, sym, ap, subst, ◌∙◌, append_assoc, append-nil, length-append}
use Rattle.httparse.specs.Grammar.{print_chunk_line, chunk_size}
use Rattle.httparse.proofs.PieceLemmas.{front-append}
use Rattle.fed_http.specs.Limits.{max_body}
use Rattle.fed_http.specs.Head.{Head, request, reply, print_head, message_of}
use Rattle.fed_http.specs.Body.{Chunk, IsChunk, print_chunks, chunk_data}
use Rattle.fed_http.specs.Faults.{NeverHasLineEnd, IsBadChunk, no_line_end}
use Rattle.fed_http.specs.Waiting.{IsWaiting}
use Rattle.fed_http.specs.Keeping.{Kept, with_body, IsInBody, KeepsChunks, IsInLine, IsInChunk, HasEnded}
use Rattle.fed_http.specs.TextPlaces.{IsLinePlace}
use Rattle.fed_http.specs.declared.text_place.TextPlace.TheVariants.{Size}
use Rattle.fed_http.proofs.PlaceStarts.{line_begins}
use Rattle.fed_http.specs.declared.framing.Framing.TheVariants.{Fixed, Chunked}
use Rattle.fed_http.specs.declared.message.Kind.{Kind}
use Rattle.fed_http.proofs.Stays.{reaches_on, chunks_on, chunks_is}
use Rattle.fed_http.proofs.Walks.{pushed, data_pushed}
use Rattle.fed_http.proofs.Keeping.{keeps_on, chunks_more, chunks_as, chunks_reach, line_waits, empty_lacks_line}

pub with_body_is : (h : Head) (body : List ℕ) → with_body (message_of h []) body ≡ message_of h body
with_body_is (request h) body = refl
with_body_is (reply h) body = refl

-- ---- a body of a known length

pub body_on : (kind : Kind) (k j : Kept) (bytes more : List ℕ) (left later : ℕ) → IsInBody kind k bytes left → left ≡ length more + later → 0 < later → j.start ≡ k.start → j.head ≡ k.head → j.text ≡ k.text → j.body ≡ k.body ++ more
    → IsInBody kind j (bytes ++ more) later
body_on kind k j bytes more left later x is some start head text body =
    let keeps = keeps_on kind k j bytes more (Fixed x.size) [] [] k.body x.keeps start head (text ∙ x.keeps.text) in
    record {
      size = x.size;
      keeps = record { head = keeps.head; valid = keeps.valid; within = keeps.within; final = keeps.final; framed = keeps.framed; start = keeps.start; len = keeps.len; text = keeps.text; whole = keeps.whole ∙ ap (λ v. print_head x.keeps.head ++ v) (sym body) };
      missing = omega (arith, x.missing, is, ap length body, length-append k.body more);
      fits = x.fits;
      some = some;
    }

pub body_ends : (kind : Kind) (k j : Kept) (bytes more : List ℕ) (left : ℕ) → IsInBody kind k bytes left → left ≡ length more → j.start ≡ k.start → j.head ≡ k.head → j.text ≡ k.text → j.body ≡ k.body ++ more → HasEnded kind j (bytes ++ more)
body_ends kind k j bytes more left x is start head text body =
    let h = x.keeps.head in
    let size : length j.body ≡ x.size = omega (arith, x.missing, is, ap length body, length-append k.body more) in
    record {
      message = message_of h [];
      start = start ∙ x.keeps.start;
      text = record {
        head = h;
        framing = Fixed x.size;
        body = j.body;
        body_text = j.body;
        valid = x.keeps.valid;
        within = x.keeps.within;
        final = x.keeps.final;
        framed = x.keeps.framed;
        is_body = (size, refl);
        body_fits = omega (arith, size, x.fits);
        message_is = with_body_is h j.body;
        text_is = front-append bytes (print_head h) k.body more x.keeps.whole ∙ ap (λ v. print_head h ++ v) (sym body);
      };
      fits = omega (arith, size, x.fits);
    }

-- ---- the data of a chunk

pub data_on : (kind : Kind) (k j : Kept) (bytes more : List ℕ) (left later : ℕ) → IsInChunk kind k bytes left [] → left ≡ length more + later → j.start ≡ k.start → j.head ≡ k.head → j.text ≡ k.text → j.body ≡ k.body ++ more
    → IsInChunk kind j (bytes ++ more) later []
data_on kind k j bytes more left later x is start head text body =
    let printed = print_chunk_line x.line in
    let read = chunks_more kind k j bytes more printed (printed ++ (x.content ++ [])) printed x.keeps start head (text ∙ x.keeps.keeps.text) in
    record {
      line = x.line;
      short = x.short;
      content = x.content ++ more;
      keeps = chunks_as kind j (bytes ++ more) printed ((printed ++ (x.content ++ [])) ++ more) (printed ++ ((x.content ++ more) ++ [])) read (grouped printed x.content more);
      size = omega (arith, x.size, is, length-append x.content more);
      some = x.some;
      body = body ∙ ap (λ v. v ++ more) x.body ∙ append_assoc (chunk_data x.keeps.chunks) x.content more;
      fits = omega (arith, x.fits, is, ap length body, length-append k.body more);
    }
  where
    grouped : (a b c : List ℕ) → (a ++ (b ++ [])) ++ c ≡ a ++ ((b ++ c) ++ [])
    grouped a b c = simp (append_assoc, append-nil)

-- ---- what comes behind the data

pub return_on : (kind : Kind) (k j : Kept) (bytes : List ℕ) → IsInChunk kind k bytes 0 [] → j.start ≡ k.start → j.head ≡ k.head → j.text ≡ k.text → j.body ≡ k.body → IsInChunk kind j (bytes ++ 13 ∷ []) 0 (13 ∷ [])
return_on kind k j bytes x start head text body =
    let printed = print_chunk_line x.line in
    let read = chunks_more kind k j bytes (13 ∷ []) printed (printed ++ (x.content ++ [])) printed x.keeps start head (text ∙ x.keeps.keeps.text) in
    record {
      line = x.line;
      short = x.short;
      content = x.content;
      keeps = chunks_as kind j (bytes ++ 13 ∷ []) printed ((printed ++ (x.content ++ [])) ++ 13 ∷ []) (printed ++ (x.content ++ 13 ∷ [])) read (grouped printed x.content (13 ∷ []));
      size = x.size;
      some = x.some;
      body = body ∙ x.body;
      fits = omega (arith, x.fits, ap length body);
    }
  where
    grouped : (a b c : List ℕ) → (a ++ (b ++ [])) ++ c ≡ a ++ (b ++ c)
    grouped a b c = simp (append_assoc, append-nil)

pub feed_on : (kind : Kind) (k j : Kept) (bytes : List ℕ) → IsInChunk kind k bytes 0 (13 ∷ []) → j.start ≡ k.start → j.head ≡ k.head → j.text ≡ [] → j.body ≡ k.body → j.at ≡ Size 0
    → IsInLine kind j (bytes ++ 10 ∷ []) × IsWaiting kind (bytes ++ 10 ∷ [])
feed_on kind k j bytes x start head none body begins =
    let printed = print_chunk_line x.line in
    let cs = x.keeps.chunks in
    let c : Chunk = record { line = x.line; bytes = x.content } in
    let size : chunk_size x.line ≡ length x.content = omega (arith, x.size) in
    let valid : IsChunk c = record { line = x.short; size = size; some = omega (arith, size, x.some) } in
    let fits : length (chunk_data cs) + length c.bytes ≤ max_body = omega (arith, ap length x.body, length-append (chunk_data cs) x.content, x.fits) in
    let mid = printed ++ (x.content ++ 13 ∷ []) in
    let reads = pushed (x.keeps.rest ++ 10 ∷ []) (mid ++ 10 ∷ []) cs c [] x.keeps.reads.valid valid fits (front-append x.keeps.rest (print_chunks cs) mid (10 ∷ []) x.keeps.reads.whole) (grouped printed x.content) in
    let keeps : KeepsChunks kind j (bytes ++ 10 ∷ []) [] [] = record {
      rest = x.keeps.rest ++ 10 ∷ [];
      keeps = keeps_on kind k j bytes (10 ∷ []) Chunked printed [] x.keeps.rest x.keeps.keeps start head none;
      chunks = cs ++ c ∷ [];
      reads = reads;
    } in
    (record { line = []; keeps = keeps; body = body ∙ x.body ∙ sym (data_pushed cs c); few = empty_lacks_line.few; none = empty_lacks_line.none; at = subst (IsLinePlace []) (sym begins) line_begins }, line_waits kind j (bytes ++ 10 ∷ []) [] keeps empty_lacks_line)
  where
    grouped : (a b : List ℕ) → (a ++ (b ++ 13 ∷ [])) ++ 10 ∷ [] ≡ ((a ++ b) ++ 13 ∷ 10 ∷ []) ++ []
    grouped a b = simp (append_assoc, append-nil)

-- something else than CR LF comes
no_return : (rest : List ℕ) → 0 < length rest → get_or rest 0 0 ≢ 13 → NeverHasLineEnd rest
no_return [] some other more after e = omega (arith, some)
no_return (b ∷ rest) some other more after e = other (cc)

no_feed : (rest : List ℕ) → 0 < length rest → get_or rest 0 0 ≢ 10 → NeverHasLineEnd (13 ∷ rest)
no_feed [] some other more after e = omega (arith, some)
no_feed (b ∷ rest) some other more after e = other (cc)

unended : (kind : Kind) (k : Kept) (bytes rest end : List ℕ) → IsInChunk kind k bytes 0 end → NeverHasLineEnd (end ++ rest) → IsBadChunk kind (bytes ++ rest)
unended kind k bytes rest end x never =
    let printed = print_chunk_line x.line in
    let cs = x.keeps.chunks in
    let mid = printed ++ (x.content ++ end) in
    let size : chunk_size x.line ≡ length x.content = omega (arith, x.size) in
    record {
      rest = x.keeps.rest ++ rest;
      reaches = reaches_on kind bytes x.keeps.rest rest Chunked (chunks_reach kind k bytes printed mid x.keeps);
      bad = no_line_end cs x.line x.content (end ++ rest) (chunks_is (x.keeps.rest ++ rest) cs (mid ++ rest) (printed ++ x.content ++ (end ++ rest)) (grouped printed x.content end rest) (chunks_on x.keeps.rest cs mid rest x.keeps.reads))
          x.short size (omega (arith, size, x.some)) (omega (arith, ap length x.body, length-append (chunk_data cs) x.content, x.fits)) never;
    }
  where
    grouped : (a b c d : List ℕ) → (a ++ (b ++ c)) ++ d ≡ (a ++ b) ++ (c ++ d)
    grouped a b c d = simp append_assoc

pub return_bad : (kind : Kind) (k : Kept) (bytes rest : List ℕ) → IsInChunk kind k bytes 0 [] → 0 < length rest → get_or rest 0 0 ≢ 13 → IsBadChunk kind (bytes ++ rest)
return_bad kind k bytes rest x some other = unended kind k bytes rest [] x (no_return rest some other)

pub feed_bad : (kind : Kind) (k : Kept) (bytes rest : List ℕ) → IsInChunk kind k bytes 0 (13 ∷ []) → 0 < length rest → get_or rest 0 0 ≢ 10 → IsBadChunk kind (bytes ++ rest)
feed_bad kind k bytes rest x some other = unended kind k bytes rest (13 ∷ []) x (no_feed rest some other)
