-- What a step in the line of a chunk or in the trailer keeps, in the state of a reader.
use Rattle.std.proofs.Common.{arith, ◌≡◌, ℕ, ◌+◌, ◌-◌, ◌<◌, ◌≤◌, List, ◌++◌, length, take, drop, refl, sym, ap, subst, ◌∙◌, append_assoc}
use Rattle.std.specs.Prelude.{vec_len, vec_capacity}
use Rattle.std.proofs.lemmas.List.{take-append-drop}
use Rattle.fed_http.specs.Limits.{max_body}
use Rattle.fed_http.specs.ChunkParts.{IsLineAt, LacksLine, IsTrailerAt, LacksTrailer, IsTrailerFault}
use Rattle.fed_http.specs.Faults.{HasBadLine, IsFault}
use Rattle.fed_http.specs.Waiting.{IsWaiting}
use Rattle.fed_http.specs.Keeping.{IsKept, IsInLine, IsInChunk, IsInTrailer, HasEnded}
use Rattle.fed_http.specs.TextPlaces.{IsLinePlace, IsTrailerPlace}
use Rattle.fed_http.specs.declared.text_place.TextPlace.TheVariants.{LineStart}
use Rattle.fed_http.specs.KeepingParts.{kept_of, IsSound, HasRoomAt, Stepped, StepFails}
use Rattle.fed_http.specs.declared.chunks.Line.{Line}
use Rattle.fed_http.specs.declared.fault.HttpFault.{HttpFault}
use Rattle.fed_http.specs.declared.fault.HttpFault.TheVariants.{TooLarge, BadChunk}
use Rattle.fed_http.specs.declared.message.Kind.{Kind}
use Rattle.fed_http.specs.declared.place.Place.TheVariants.{InLine, InData, InTrailer, Ended}
use Rattle.fed_http.specs.declared.state.State.{State}
use Rattle.httparse.specs.Ascii.{crlf_bytes}
use Rattle.std.proofs.Common.{replicate, []}
use Rattle.fed_http.proofs.Stays.{fault_stays}
use Rattle.fed_http.proofs.Keeping.{take_first, chunk_waits}
use Rattle.fed_http.proofs.LineSteps.{line_ends, line_on, line_bad, line_large, line_last, line_chunk, last_of}
use Rattle.fed_http.proofs.TrailerSteps.{trailer_ends_at, trailer_more, trailer_fault, trailer_fault_other, trailer_ends}
use Rattle.fed_http.proofs.Steps.{at_place, of_place, room_of, as_room, begun_at, SameStart, SameBody, MoreText, length_taken, zeros_end}

-- a fault of the bytes that were looked at is one of all
pub grown_fault : (kind : Kind) (bytes rest : List ℕ) (taken : ℕ) (fault : HttpFault) → IsFault kind (bytes ++ take taken rest) fault → IsFault kind (bytes ++ rest) fault
grown_fault kind bytes rest taken fault is =
    let whole : (bytes ++ take taken rest) ++ drop taken rest ≡ bytes ++ rest = append_assoc bytes (take taken rest) (drop taken rest) ∙ ap (λ v. bytes ++ v) (take-append-drop taken rest) in
    subst (λ v. IsFault kind v fault) whole (fault_stays kind (bytes ++ take taken rest) (drop taken rest) fault is)

-- ---- the line of a chunk

pub line_still : (s t : State) (rest : List ℕ) (taken : ℕ) → s.place ≡ InLine → t.place ≡ s.place → SameStart s t → MoreText s t.text.items (vec_len t.text) (vec_capacity t.text) (take taken rest) → SameBody s t → taken ≤ length rest
    → (0 < length rest → 0 < taken) → HasRoomAt s.place s (length rest) → ((kind : Kind) (bytes : List ℕ) → IsInLine kind (kept_of s) bytes → LacksLine t.text.items)
    → ((before : List ℕ) → IsLinePlace before s.at → IsLinePlace (before ++ take taken rest) t.at) → Stepped s t rest taken
line_still s t rest taken at now start text body within some room lacks on =
    let here : t.place ≡ InLine = now ∙ at in
    let had = room_of InLine s (length rest) at room in
    let len = length_taken taken rest within in
    let both : (kind : Kind) (bytes : List ℕ) → IsKept kind (kept_of s) bytes → IsInLine kind (kept_of t) (bytes ++ take taken rest) × IsWaiting kind (bytes ++ take taken rest) =
    (λ kind bytes x.
    let y : IsInLine kind (kept_of s) bytes = at_place InLine kind (kept_of s) bytes at x in
    line_on kind (kept_of s) (kept_of t) bytes (take taken rest) y start.start start.head body.items text.items (lacks kind bytes y) on) in
    record {
      within = within;
      some = some;
      begun = begun_at InLine t.place here (λ e. cc);
      room = as_room InLine t (length rest - taken) here (omega (arith, had.0, text.len, len, text.cap), omega (arith, had.1, body.len, body.cap));
      kept = λ kind bytes x. of_place InLine kind (kept_of t) (bytes ++ take taken rest) here (both kind bytes x).0;
      waits = λ kind bytes x unended. (both kind bytes x).1;
    }

pub line_fails : (s : State) (rest all : List ℕ) (taken : ℕ) (fault : HttpFault) → s.place ≡ InLine → all ≡ s.text.items ++ take taken rest → (fault ≡ BadChunk) × HasBadLine all → StepFails s rest fault
line_fails s rest all taken fault at text (told, bad) =
    let here : StepFails s rest BadChunk = record {
      other = λ e. cc;
      is = λ kind bytes x. grown_fault kind bytes rest taken BadChunk (line_bad kind (kept_of s) bytes (take taken rest) all (at_place InLine kind (kept_of s) bytes at x) text bad);
    } in
    subst (StepFails s rest) (sym told) here

pub line_over : (s : State) (rest all : List ℕ) (taken : ℕ) (found : Line) → s.place ≡ InLine → all ≡ s.text.items ++ take taken rest → IsLineAt all found → max_body < length s.body.items + found.size → StepFails s rest TooLarge
line_over s rest all taken found at text line over = record {
  other = λ e. cc;
  is = λ kind bytes x. grown_fault kind bytes rest taken TooLarge (line_large kind (kept_of s) bytes (take taken rest) all found (at_place InLine kind (kept_of s) bytes at x) text line over);
}

-- the bytes of the line that were taken
used_bytes : (s : State) (rest : List ℕ) (taken used len : ℕ) → used ≡ len - length s.text.items → used ≤ length (take taken rest) → last_of (kept_of s) (take taken rest) len ≡ take used rest
used_bytes s rest taken used len is short = ap (λ n. take n (take taken rest)) (sym is) ∙ take_first used taken rest short

pub line_is_last : (s t : State) (rest all : List ℕ) (taken used len cap : ℕ) (found : Line) → s.place ≡ InLine → IsSound (kept_of s) → t.place ≡ InTrailer → t.at ≡ LineStart 0 → SameStart s t → MoreText s all len cap (take taken rest) → t.text.items ≡ []
    → vec_len t.text ≤ vec_len s.text → vec_capacity t.text ≡ cap → SameBody s t → taken ≤ length rest → HasRoomAt s.place s (length rest) → IsLineAt all found → found.size ≡ 0
    → used ≡ found.len - length s.text.items → Stepped s t rest used
line_is_last s t rest all taken used len cap found at sound now begins start text none fewer room_is body within room line zero used_is =
    let had = room_of InLine s (length rest) at room in
    let length_is = length_taken taken rest within in
    let ends = line_ends (kept_of s) (take taken rest) all found at sound text.items line in
    let short : used ≤ length (take taken rest) = omega (arith, used_is, ends.within, ends.beyond) in
    let bytes_are = used_bytes s rest taken used found.len used_is short in
    let both : (kind : Kind) (bytes : List ℕ) → IsKept kind (kept_of s) bytes → IsInTrailer kind (kept_of t) (bytes ++ take used rest) × IsWaiting kind (bytes ++ take used rest) =
    (λ kind bytes x.
    let here = line_last kind (kept_of s) (kept_of t) bytes (take taken rest) all found (at_place InLine kind (kept_of s) bytes at x) text.items line zero start.start start.head body.items none begins in
    subst (λ v. IsInTrailer kind (kept_of t) (bytes ++ v) × IsWaiting kind (bytes ++ v)) bytes_are here) in
    record {
      within = omega (arith, short, length_is, within);
      some = λ came. omega (arith, used_is, ends.beyond);
      begun = begun_at InTrailer t.place now (λ e. cc);
      room = as_room InTrailer t (length rest - used) now (omega (arith, had.0, fewer, room_is, text.cap));
      kept = λ kind bytes x. of_place InTrailer kind (kept_of t) (bytes ++ take used rest) now (both kind bytes x).0;
      waits = λ kind bytes x unended. (both kind bytes x).1;
    }

pub line_is_chunk : (s t : State) (rest all : List ℕ) (taken used len cap : ℕ) (found : Line) → s.place ≡ InLine → IsSound (kept_of s) → t.place ≡ InData found.size → SameStart s t → MoreText s all len cap (take taken rest)
    → t.text.items ≡ take found.len all → vec_len t.text ≡ found.len → vec_capacity t.text ≡ cap → SameBody s t → taken ≤ length rest → HasRoomAt s.place s (length rest) → IsLineAt all found → 0 < found.size
    → length s.body.items + found.size ≤ max_body → length s.text.items ≡ vec_len s.text → used ≡ found.len - length s.text.items → Stepped s t rest used
line_is_chunk s t rest all taken used len cap found at sound now start text cut size_is room_is body within room line some fits vec used_is =
    let had = room_of InLine s (length rest) at room in
    let length_is = length_taken taken rest within in
    let ends = line_ends (kept_of s) (take taken rest) all found at sound text.items line in
    let short : used ≤ length (take taken rest) = omega (arith, used_is, ends.within, ends.beyond) in
    let bytes_are = used_bytes s rest taken used found.len used_is short in
    let kept : (kind : Kind) (bytes : List ℕ) → IsKept kind (kept_of s) bytes → IsInChunk kind (kept_of t) (bytes ++ take used rest) found.size [] =
    (λ kind bytes x.
    let here = line_chunk kind (kept_of s) (kept_of t) bytes (take taken rest) all found (at_place InLine kind (kept_of s) bytes at x) text.items line some fits start.start start.head body.items cut in
    subst (λ v. IsInChunk kind (kept_of t) (bytes ++ v) found.size []) bytes_are here) in
    record {
      within = omega (arith, short, length_is, within);
      some = λ came. omega (arith, used_is, ends.beyond);
      begun = begun_at (InData found.size) t.place now (λ e. cc);
      room = as_room (InData found.size) t (length rest - used) now (omega (arith, had.0, size_is, room_is, text.cap, vec, used_is, ends.beyond), omega (arith, had.1, body.len, body.cap));
      kept = λ kind bytes x. of_place (InData found.size) kind (kept_of t) (bytes ++ take used rest) now (kept kind bytes x, some);
      waits = λ kind bytes x unended. chunk_waits kind (kept_of t) (bytes ++ take used rest) found.size [] (replicate found.size 0 ++ crlf_bytes) (kept kind bytes x) refl (zeros_end found.size);
    }

-- ---- the trailer

pub trailer_still : (s t : State) (rest : List ℕ) (taken : ℕ) → s.place ≡ InTrailer → t.place ≡ s.place → SameStart s t → MoreText s t.text.items (vec_len t.text) (vec_capacity t.text) (take taken rest) → SameBody s t → taken ≤ length rest
    → (0 < length rest → 0 < taken) → HasRoomAt s.place s (length rest) → ((kind : Kind) (bytes : List ℕ) → IsInTrailer kind (kept_of s) bytes → LacksTrailer t.text.items)
    → ((before : List ℕ) → IsTrailerPlace before s.at → IsTrailerPlace (before ++ take taken rest) t.at) → Stepped s t rest taken
trailer_still s t rest taken at now start text body within some room lacks on =
    let here : t.place ≡ InTrailer = now ∙ at in
    let had = room_of InTrailer s (length rest) at room in
    let len = length_taken taken rest within in
    let both : (kind : Kind) (bytes : List ℕ) → IsKept kind (kept_of s) bytes → IsInTrailer kind (kept_of t) (bytes ++ take taken rest) × IsWaiting kind (bytes ++ take taken rest) =
    (λ kind bytes x.
    let y : IsInTrailer kind (kept_of s) bytes = at_place InTrailer kind (kept_of s) bytes at x in
    trailer_more kind (kept_of s) (kept_of t) bytes (take taken rest) y start.start start.head body.items text.items (lacks kind bytes y) on) in
    record {
      within = within;
      some = some;
      begun = begun_at InTrailer t.place here (λ e. cc);
      room = as_room InTrailer t (length rest - taken) here (omega (arith, had, text.len, len, text.cap));
      kept = λ kind bytes x. of_place InTrailer kind (kept_of t) (bytes ++ take taken rest) here (both kind bytes x).0;
      waits = λ kind bytes x unended. (both kind bytes x).1;
    }

pub trailer_fails : (s : State) (rest all : List ℕ) (taken : ℕ) (fault : HttpFault) → s.place ≡ InTrailer → all ≡ s.text.items ++ take taken rest → IsTrailerFault all fault → StepFails s rest fault
trailer_fails s rest all taken fault at text told = record {
  other = trailer_fault_other all fault told;
  is = λ kind bytes x. grown_fault kind bytes rest taken fault (trailer_fault kind (kept_of s) bytes (take taken rest) all fault (at_place InTrailer kind (kept_of s) bytes at x) text told);
}

pub trailer_is_there : (s t : State) (rest all : List ℕ) (taken used len : ℕ) → s.place ≡ InTrailer → IsSound (kept_of s) → t.place ≡ Ended → t.start ≡ s.start → all ≡ s.text.items ++ take taken rest → t.body.items ≡ s.body.items → taken ≤ length rest
    → IsTrailerAt all len → used ≡ len - length s.text.items → Stepped s t rest used
trailer_is_there s t rest all taken used len at sound now start text body within trailer used_is =
    let length_is = length_taken taken rest within in
    let ends = trailer_ends_at (kept_of s) (take taken rest) all len at sound text trailer in
    let short : used ≤ length (take taken rest) = omega (arith, used_is, ends.within, ends.beyond) in
    let bytes_are = used_bytes s rest taken used len used_is short in
    record {
      within = omega (arith, short, length_is, within);
      some = λ came. omega (arith, used_is, ends.beyond);
      begun = begun_at Ended t.place now (λ e. cc);
      room = as_room Ended t (length rest - used) now tt;
      kept = λ kind bytes x.
          let here = trailer_ends kind (kept_of s) (kept_of t) bytes (take taken rest) all len (at_place InTrailer kind (kept_of s) bytes at x) text trailer start body in
          of_place Ended kind (kept_of t) (bytes ++ take used rest) now (subst (λ v. HasEnded kind (kept_of t) (bytes ++ v)) bytes_are here);
      waits = λ kind bytes x unended. absurd (unended now);
    }
