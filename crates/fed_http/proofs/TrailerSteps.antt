-- The trailer, as its bytes come.
use Rattle.std.proofs.Common.{arith, ◌≡◌, ◌≢◌, ℕ, ◌+◌, ◌-◌, ◌<◌, ◌≤◌, List, [], ◌++◌, length, take, drop, refl, sym, ap, subst, ◌∙◌, append_assoc, length-append, inl, inr}
use Rattle.std.proofs.lemmas.Bool.{cases_lt}
use Rattle.std.proofs.lemmas.List.{length-drop}
use Rattle.std.specs.Coded.{×_prop, le_prop}
use Rattle.std.proofs.Math.Logic.{∥∥₁_elim}
use Rattle.httparse.specs.Grammar.{print_chunk_line, Field, LineEnd, print_section, HasNoSection}
use Rattle.httparse.proofs.PieceLemmas.{front-append}
use Rattle.fed_http.specs.Limits.{max_head}
use Rattle.fed_http.specs.Head.{print_head, message_of}
use Rattle.fed_http.specs.Body.{IsTrailer, ChunkedBody, print_chunks, print_chunked}
use Rattle.fed_http.specs.Unfinished.{trailer_front}
use Rattle.fed_http.specs.Faults.{ReachesBody, ReachesTrailer, no_trailer, IsFault, trailers, large_trailer}
use Rattle.fed_http.specs.ChunkParts.{IsTrailerAt, LacksTrailer, IsTrailerFault}
use Rattle.fed_http.specs.Waiting.{IsWaiting}
use Rattle.fed_http.specs.Keeping.{Kept, IsKeptAt, IsInTrailer, HasEnded}
use Rattle.fed_http.specs.TextPlaces.{FollowsSection, IsTrailerPlace, GoesOnTo}
use Rattle.fed_http.specs.declared.text_place.TextPlace.{TextPlace}
use Rattle.fed_http.proofs.PlaceSteps.{late_on}
use Rattle.fed_http.proofs.PlaceStarts.{trailer_unfinished}
use Rattle.fed_http.specs.KeepingParts.{IsSound}
use Rattle.fed_http.specs.declared.fault.HttpFault.{HttpFault}
use Rattle.fed_http.specs.declared.fault.HttpFault.TheVariants.{Memory, BadHead, TooLarge, BadLength, BadChunk, HasFailed}
use Rattle.fed_http.specs.declared.framing.Framing.TheVariants.{Chunked}
use Rattle.fed_http.specs.declared.message.Kind.{Kind}
use Rattle.fed_http.specs.declared.place.Place.TheVariants.{InTrailer}
use Rattle.fed_http.proofs.LineCounts.{front_in}
use Rattle.fed_http.proofs.TrailerFronts.{front-section}
use Rattle.fed_http.proofs.Stays.{reaches_on, trailer_on}
use Rattle.fed_http.proofs.Keeping.{split_front, text_more, chunks_more, chunks_as, chunks_reach, reaches_trailer, trailer_waits}
use Rattle.fed_http.proofs.BodySteps.{with_body_is}

-- the text is the line, with more bytes
text_is : (kind : Kind) (k : Kept) (bytes more all : List ℕ) (x : IsInTrailer kind k bytes) → all ≡ k.text ++ more → all ≡ x.line ++ more
text_is kind k bytes more all x text = text_more kind k bytes more Chunked x.line x.keeps.rest all x.keeps.keeps text

length_line : (kind : Kind) (k : Kept) (bytes : List ℕ) (x : IsInTrailer kind k bytes) → length k.text ≡ length x.line
length_line kind k bytes x = ap length x.keeps.keeps.text

length_section : (slice : List ℕ) (len : ℕ) (t : IsTrailerAt slice len) → len ≡ length (print_section t.fields t.end)
length_section slice len t = omega (arith, ap length t.whole, length-append (print_section t.fields t.end) (drop len slice), length-drop len slice, t.fits)

-- a trailer that is found ends behind the bytes that were there
trailer_beyond : (line more r : List ℕ) (fields : List Field) (end : LineEnd) → HasNoSection (trailer_front line) → IsTrailer fields end → line ++ more ≡ print_section fields end ++ r → length line < length (print_section fields end)
trailer_beyond line more r fields end none trailer e = elim (cases_lt (length line) (length (print_section fields end))) [
  | inl less ↦ less
  | inr le ↦
      let x = front_in line more (print_section fields end) r e le in
      let y = front-section line fields end x.0 trailer.valid trailer.few trailer.short x.1 in
      absurd (none fields end y.0 (trailer.valid, y.1))
]

-- ---- what is known of any bytes

pub trailer_room : (k : Kept) → k.place ≡ InTrailer → IsSound k → length k.text < max_head
trailer_room k at sound =
    ∥∥₁_elim sound le_prop (λ (kind, (bytes, kept)).
    let x : IsInTrailer kind k bytes = subst (λ p. IsKeptAt p kind k bytes) at kept in
    let few : length k.text < max_head = omega (arith, length_line kind k bytes x, x.few) in
    few)

pub record TrailerEnds (k : Kept) (more : List ℕ) (len : ℕ) : Type 0 where
  pub beyond : length k.text < len
  pub within : len ≤ length k.text + length more

pub trailer_ends_at : (k : Kept) (more all : List ℕ) (len : ℕ) → k.place ≡ InTrailer → IsSound k → all ≡ k.text ++ more → IsTrailerAt all len → TrailerEnds k more len
trailer_ends_at k more all len at sound text t =
    let all_of = ∥∥₁_elim sound (×_prop le_prop le_prop) (λ (kind, (bytes, kept)).
    let x : IsInTrailer kind k bytes = subst (λ p. IsKeptAt p kind k bytes) at kept in
    let section = print_section t.fields t.end in
    let whole : x.line ++ more ≡ section ++ drop len all = sym (text_is kind k bytes more all x text) ∙ t.whole in
    let beyond = trailer_beyond x.line more (drop len all) t.fields t.end x.none t.trailer whole in
    let size = length_section all len t in
    let length_is = length_line kind k bytes x in
    let a : length k.text < len = omega (arith, length_is, beyond, size) in
    let b : len ≤ length k.text + length more = omega (arith, length_is, size, ap length whole, length-append x.line more, length-append section (drop len all)) in
    (a, b)) in
    record { beyond = all_of.0; within = all_of.1 }

-- ---- no end yet

-- where the place tells so
pub trailer_goes : (kind : Kind) (k : Kept) (bytes more all : List ℕ) (before : ℕ) (new : TextPlace) → IsInTrailer kind k bytes → all ≡ k.text ++ more → before ≡ length k.text → GoesOnTo k.at before more new → LacksTrailer all
trailer_goes kind k bytes more all before new x text count g =
    let short : length (x.line ++ more) < max_head = omega (arith, g.short, count, length_line kind k bytes x, length-append x.line more) in
    subst LacksTrailer (sym (text_is kind k bytes more all x text)) (trailer_unfinished (x.line ++ more) new (late_on (FollowsSection 0) x.line more k.at new g.few g.late g.follows x.at) g.known short)

pub trailer_more : (kind : Kind) (k j : Kept) (bytes more : List ℕ) → IsInTrailer kind k bytes → j.start ≡ k.start → j.head ≡ k.head → j.body ≡ k.body → j.text ≡ k.text ++ more → LacksTrailer j.text
    → ((before : List ℕ) → IsTrailerPlace before k.at → IsTrailerPlace (before ++ more) j.at) → IsInTrailer kind j (bytes ++ more) × IsWaiting kind (bytes ++ more)
trailer_more kind k j bytes more x start head body text lacks on =
    let at = subst LacksTrailer (text_is kind k bytes more j.text x text) lacks in
    let printed = print_chunk_line x.last in
    let read = chunks_more kind k j bytes more x.line (printed ++ x.line) (x.line ++ more) x.keeps start head (text_more kind k bytes more Chunked x.line x.keeps.rest j.text x.keeps.keeps text) in
    let next = chunks_as kind j (bytes ++ more) (x.line ++ more) ((printed ++ x.line) ++ more) (printed ++ (x.line ++ more)) read (append_assoc printed x.line more) in (
      record { last = x.last; is_last = x.is_last; line = x.line ++ more; keeps = next; body = body ∙ x.body; few = at.few; none = at.unended.none; at = on x.line x.at },
      trailer_waits kind j (bytes ++ more) (x.line ++ more) x.last next x.is_last at,
    )

-- ---- faults

pub trailer_fault : (kind : Kind) (k : Kept) (bytes more all : List ℕ) (fault : HttpFault) → IsInTrailer kind k bytes → all ≡ k.text ++ more → IsTrailerFault all fault → IsFault kind (bytes ++ more) fault
trailer_fault kind k bytes more all fault x text told =
    let rest = x.keeps.rest ++ more in
    let body = reaches_on kind bytes x.keeps.rest more Chunked (chunks_reach kind k bytes x.line (print_chunk_line x.last ++ x.line) x.keeps) in
    let trailer = trailer_on x.keeps.rest x.line more (reaches_trailer kind k bytes x.line x.line x.last x.keeps x.is_last) in
    by rest fault body trailer (subst (λ v. IsTrailerFault v fault) (text_is kind k bytes more all x text) told)
  where
    by : (rest : List ℕ) (f : HttpFault) → ReachesBody kind (bytes ++ more) Chunked rest → ReachesTrailer rest (x.line ++ more) → IsTrailerFault (x.line ++ more) f → IsFault kind (bytes ++ more) f
    by rest Memory body trailer told = tt
    by rest BadHead body trailer told = trailers rest body (record { rest = x.line ++ more; reaches = trailer; full = told })
    by rest TooLarge body trailer told = large_trailer rest body (record { rest = x.line ++ more; reaches = trailer; full = told.0; unended = told.1 })
    by rest BadLength body trailer told = absurd told
    by rest BadChunk body trailer told = record { rest = rest; reaches = body; bad = no_trailer (x.line ++ more) trailer told }
    by rest HasFailed body trailer told = absurd told

pub trailer_fault_other : (slice : List ℕ) (fault : HttpFault) → IsTrailerFault slice fault → fault ≢ Memory
trailer_fault_other slice Memory told e = told
trailer_fault_other slice BadHead told e = cc
trailer_fault_other slice TooLarge told e = cc
trailer_fault_other slice BadLength told e = told
trailer_fault_other slice BadChunk told e = cc
trailer_fault_other slice HasFailed told e = told

-- ---- its end

pub trailer_ends : (kind : Kind) (k j : Kept) (bytes more all : List ℕ) (len : ℕ) → IsInTrailer kind k bytes → all ≡ k.text ++ more → IsTrailerAt all len → j.start ≡ k.start → j.body ≡ k.body
    → HasEnded kind j (bytes ++ take (len - length k.text) more)
trailer_ends kind k j bytes more all len x text t start body =
    let u = take (len - length k.text) more in
    let h = x.keeps.keeps.head in
    let cs = x.keeps.chunks in
    let printed = print_chunk_line x.last in
    let section = print_section t.fields t.end in
    let whole : x.line ++ more ≡ section ++ drop len all = sym (text_is kind k bytes more all x text) ∙ t.whole in
    let beyond = trailer_beyond x.line more (drop len all) t.fields t.end x.none t.trailer whole in
    let count : length section - length x.line ≡ len - length k.text = omega (arith, length_section all len t, length_line kind k bytes x) in
    let ends : section ≡ x.line ++ u = split_front x.line more section (drop len all) whole (omega (arith, beyond)) ∙ ap (λ n. x.line ++ take n more) count in
    let b : ChunkedBody = record { chunks = cs; last = x.last; trailers = t.fields; end = t.end } in
    let rest_is : x.keeps.rest ++ u ≡ print_chunked b =
    front-append x.keeps.rest (print_chunks cs) (printed ++ x.line) u x.keeps.reads.whole ∙ grouped (print_chunks cs) printed x.line u ∙ ap (λ v. (print_chunks cs ++ printed) ++ v) (sym ends) in
    record {
      message = message_of h [];
      start = start ∙ x.keeps.keeps.start;
      text = record {
        head = h;
        framing = Chunked;
        body = j.body;
        body_text = print_chunked b;
        valid = x.keeps.keeps.valid;
        within = x.keeps.keeps.within;
        final = x.keeps.keeps.final;
        framed = x.keeps.keeps.framed;
        is_body = (b, record { chunks = x.keeps.reads.valid; last = x.is_last; trailer = t.trailer }, body ∙ x.body, refl);
        body_fits = omega (arith, ap length body, ap length x.body, x.keeps.reads.fits);
        message_is = with_body_is h j.body;
        text_is = front-append bytes (print_head h) x.keeps.rest u x.keeps.keeps.whole ∙ ap (λ v. print_head h ++ v) rest_is;
      };
      fits = omega (arith, ap length body, ap length x.body, x.keeps.reads.fits);
    }
  where
    grouped : (a b c d : List ℕ) → a ++ ((b ++ c) ++ d) ≡ (a ++ b) ++ (c ++ d)
    grouped a b c d = simp append_assoc
