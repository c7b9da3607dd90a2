-- Chunk lines and trailers, found in the first bytes.
use Rattle.std.proofs.Common.{arith, ◌≡◌, ℕ, suc, ◌<◌, ◌≤◌, List, [], ◌∷◌, ◌++◌, length, take, drop, slice_index_or, refl, sym, ap, subst, ◌∙◌, append_assoc, append-nil, length-append, inl, inr}
use Rattle.std.specs.Prelude.{Result, Ok, Err, IfOk, IfErr, IsErrAnd, Option, Some, None, IfSome, IfNone}
use Rattle.std.proofs.lemmas.Result.{err_from_is_err_and}
use Rattle.httparse.specs.Ascii.{crlf_bytes}
use Rattle.httparse.specs.Grammar.{ChunkLine, print_chunk_line, HasNoChunkLine, NeverHasChunkLine, MayBecomeChunkLine, Field, LineEnd, lf, print_section, ReadsSection, HasNoSection, NeverHasSection, MayBecomeSection}
use Rattle.httparse.specs.Spans.{IsChunkLineAt, IsSectionAt, IsSectionOf, IsSectionWithin, SectionExceeds}
use Rattle.httparse.specs.declared.spans.HeaderSpan.{HeaderSpan}
use Rattle.fed_http.specs.Limits.{max_head, max_fields, window}
use Rattle.fed_http.specs.Lines.{line_feeds}
use Rattle.fed_http.specs.Unfinished.{IsUnfinishedTrailer, IsFullTrailer, trailer_front}
use Rattle.fed_http.specs.Faults.{HasBadLine}
use Rattle.fed_http.specs.ChunkParts.{IsLineAt, LacksLine, IsTrailerAt}
use Rattle.fed_http.proofs.Counted.{few_fields}
use Rattle.httparse.proofs.GrammarLemmas.{section_unique, ReadsSection-append}
use Rattle.fed_http.proofs.Windows.{grown, grown_at, short_of, all_of_few, fits_in, at_len}
use Rattle.fed_http.proofs.LineCounts.{section_front, section_is, section_feeds, same_front}
use Rattle.fed_http.proofs.FirstLines.{first-front, first-stops}

pub line_found : (bytes window : List ℕ) (len size : ℕ) → window ≡ take max_head bytes → (l : ChunkLine) × IsChunkLineAt window len size l → IsLineAt bytes (record { len = len; size = size })
line_found bytes window len size is at =
    let whole : take max_head bytes ≡ print_chunk_line at.0 ++ drop len window = sym is ∙ at.1.reads.1 in
    record {
      line = at.0;
      short = record { valid = at.1.reads.0; short = short_of max_head bytes (print_chunk_line at.0) (drop len window) whole };
      len = at.1.len_is;
      size = at.1.size_is;
      whole = grown_at max_head len bytes (print_chunk_line at.0) (drop len window) whole at.1.len_is;
    }

pub line_lacks : (bytes window : List ℕ) → window ≡ take max_head bytes → length bytes < max_head → HasNoChunkLine window → MayBecomeChunkLine window → LacksLine bytes
line_lacks bytes window is few none may =
    let same : window ≡ bytes = is ∙ all_of_few max_head bytes few in
    record { few = few; none = subst HasNoChunkLine same none; may = subst MayBecomeChunkLine same may }

pub line_full : (bytes front : List ℕ) → front ≡ take max_head bytes → max_head ≤ length bytes → HasNoChunkLine front → HasBadLine bytes
line_full bytes front is full none = inr (full, subst HasNoChunkLine is none)

pub line_never : (bytes front : List ℕ) → front ≡ take max_head bytes → NeverHasChunkLine front → HasBadLine bytes
line_never bytes front is never = inl (subst NeverHasChunkLine is never)

-- ---- line ends

pub empty_has_no_end : (bytes : List ℕ) → length bytes < 1 → (more : List ℕ) × (bytes ++ more ≡ crlf_bytes) × (0 < length more)
empty_has_no_end [] few = (crlf_bytes, refl, omega arith)
empty_has_no_end (b ∷ bytes) few = absurd (omega arith)

pub half_an_end : (bytes : List ℕ) → length bytes < 2 → 1 ≤ length bytes → slice_index_or bytes 0 0 ≡ 13 → (more : List ℕ) × (bytes ++ more ≡ crlf_bytes) × (0 < length more)
half_an_end [] few some is = absurd (omega arith)
half_an_end (b ∷ []) few some is = (10 ∷ [], ap (λ v. v ∷ 10 ∷ []) is, omega arith)
half_an_end (b ∷ c ∷ bytes) few some is = absurd (omega arith)

pub whole_end : (bytes : List ℕ) → 2 ≤ length bytes → slice_index_or bytes 0 0 ≡ 13 → slice_index_or bytes 1 0 ≡ 10 → bytes ≡ crlf_bytes ++ drop 2 bytes
whole_end [] some first second = absurd (omega arith)
whole_end (b ∷ []) some first second = absurd (omega arith)
whole_end (b ∷ c ∷ bytes) some first second = cc

-- ---- trailers

-- what begins the lines that are looked at begins all bytes, and is no longer than a trailer may be
record IsAtFront (bytes front a r : List ℕ) : Type 0 where
  rest : List ℕ
  whole : bytes ≡ a ++ rest
  short : length a ≤ max_head

at_front : (bytes front a r : List ℕ) → front ≡ trailer_front bytes → front ≡ a ++ r → IsAtFront bytes front a r
at_front bytes front a r is e =
    let more = first-front (window bytes) (suc max_fields) in
    let in_window : window bytes ≡ a ++ (r ++ more.0) = more.1 ∙ ap (λ v. v ++ more.0) (sym is ∙ e) ∙ append_assoc a r more.0 in
    record {
      rest = (r ++ more.0) ++ drop max_head bytes;
      whole = grown max_head bytes a (r ++ more.0) in_window;
      short = short_of max_head bytes a (r ++ more.0) in_window;
    }

pub trailer_found : (bytes front : List ℕ) (headers : List HeaderSpan) (len count : ℕ) → front ≡ trailer_front bytes → length headers ≡ max_fields
    → IsSectionWithin front headers len count → IsSectionOf front 0 headers (len, count) → IsTrailerAt bytes len
trailer_found bytes front headers len count is room within at =
    let section = print_section at.0 at.1 in
    let here = at_front bytes front section (drop len front) is at.2.reads.1 in
    let len_is : len ≡ length section = omega (arith, at.2.len_is) in
    let all = at_len bytes section here.rest len here.whole len_is in
    record {
      fields = at.0;
      end = at.1;
      trailer = record { valid = at.2.reads.0; few = few_of front headers len count at.0 at.1 room within at.2; short = here.short };
      whole = all;
      fits = omega (arith, len_is, fits_in bytes section (drop len bytes) all);
    }
  where
    few_of : (front : List ℕ) (headers : List HeaderSpan) (len count : ℕ) (fields : List Field) (end : LineEnd) → length headers ≡ max_fields → IsSectionWithin front headers len count
        → IsSectionAt front 0 headers len count fields end → length fields ≤ max_fields
    few_of front headers len count fields end room within at = few_fields front headers count fields (omega (arith, within.count_fits, room)) at.fields_are

pub trailer_unended : (bytes front : List ℕ) → front ≡ trailer_front bytes → HasNoSection front → MayBecomeSection front → line_feeds front ≤ max_fields → IsUnfinishedTrailer (trailer_front bytes)
trailer_unended bytes front is none may few = let here : IsUnfinishedTrailer front = record { none = none; may = may; few = few } in subst IsUnfinishedTrailer is here

pub trailer_full : (bytes front : List ℕ) → front ≡ trailer_front bytes → HasNoSection front → MayBecomeSection front → max_fields < line_feeds front → IsFullTrailer (trailer_front bytes)
trailer_full bytes front is none may many = let here : IsFullTrailer front = record { none = none; may = may; many = many } in subst IsFullTrailer is here

pub trailer_never : (bytes front : List ℕ) → front ≡ trailer_front bytes → NeverHasSection front → NeverHasSection (trailer_front bytes)
trailer_never bytes front is never = subst NeverHasSection is never

-- field lines of which there are too many are all the lines that are looked at
pub trailer_exceeds : (bytes front : List ℕ) → front ≡ trailer_front bytes → SectionExceeds max_fields front → IsFullTrailer (trailer_front bytes)
trailer_exceeds bytes front is (lines, rest, split, fields, reads, many) =
    let cut : lines ≡ section_front fields lf = same_front lines (section_front fields lf) 10 10 (reads.1 ∙ append-nil (print_section fields lf) ∙ section_is fields lf) in
    let count : line_feeds lines ≡ length fields = ap line_feeds cut ∙ section_feeds fields lf reads.0 in
    let nothing : rest ≡ [] = first-stops (window bytes) lines rest (suc max_fields) (sym is ∙ split) (omega (arith, count, many)) in
    let all : front ≡ lines = split ∙ ap (λ v. lines ++ v) nothing ∙ append-nil lines in
    let P : List ℕ → Type 0 = IsFullTrailer in
    let here : IsFullTrailer lines = record {
      none = λ gs end after at. no_front lines fields gs end after reads at;
      may = (10 ∷ [], fields, lf, reads);
      many = omega (arith, count, many);
    } in
    subst P (sym all ∙ is) here
  where
    no_front : (lines : List ℕ) (fields gs : List Field) (end : LineEnd) (after : List ℕ) → ReadsSection (lines ++ 10 ∷ []) fields lf [] → ReadsSection lines gs end after → ⊥
    no_front lines fields gs end after reads at =
        let longer = ReadsSection-append lines gs end after (10 ∷ []) at in
        let same = section_unique (lines ++ 10 ∷ []) fields gs lf end [] (after ++ 10 ∷ []) reads longer in
        omega (arith, ap length same.2, length-append after (10 ∷ []))

-- a call's clause on an error, and on a value, at the one that was found
pub on_err : {A E : Type 0} {r : Result A E} {e : E} (P : E → Type 0) → r ≡ Err e → IfErr r P → P e
on_err P is h = subst (λ x. IfErr x P) is h

pub on_some : {A : Type 0} {o : Option A} {a : A} (P : A → Type 0) → o ≡ Some a → IfSome o P → P a
on_some P is h = subst (λ x. IfSome x P) is h

-- what a `?` passes on
pub passed_on : {A E : Type 0} (r : Result A E) (P : E → Type 0) (e : E) → IsErrAnd r (λ y. y ≡ e) → P e → IfErr r P
passed_on r P e told fact =
    let p = err_from_is_err_and r told in
    subst (λ x. IfErr x P) (sym p.1) (subst P (sym p.2) fact)

pub on_none : {A : Type 0} {o : Option A} (P : Type 0) → o ≡ None → IfNone o P → P
on_none P is h = subst (λ x. IfNone x P) is h

pub on_ok : {A E : Type 0} {r : Result A E} {a : A} (P : A → Type 0) → r ≡ Ok a → IfOk r P → P a
on_ok P is h = subst (λ x. IfOk x P) is h
