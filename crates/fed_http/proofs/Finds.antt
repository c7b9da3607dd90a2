-- A message that was found, from its head, its framing and its body.
use Rattle.std.proofs.Common.{arith, ◌≡◌, ◌≢◌, ℕ, ◌<◌, ◌≤◌, List, length, take, drop, map, refl, sym, ap, subst, ◌∙◌, Option, Some, None, inl, inr}
use Rattle.std.specs.Prelude.{Result, Ok, Err}
use Rattle.std.proofs.lemmas.Bool.{cases_lt}
use Rattle.httparse.specs.Grammar.{status_code}
use Rattle.httparse.specs.Spans.{header_bytes, name_and_value}
use Rattle.httparse.specs.declared.spans.HeaderSpan.{HeaderSpan}
use Rattle.fed_http.specs.Limits.{max_head}
use Rattle.fed_http.specs.Framing.{framing_of}
use Rattle.fed_http.specs.Head.{Head, request, reply, ReadsHead, IsFinal, IsWithinLimits, head_framing, reply_framing, field_lines, print_head}
use Rattle.fed_http.specs.HeadParts.{IsHeadAt, IsStartOf}
use Rattle.fed_http.specs.Unfinished.{IsUnfinishedHead}
use Rattle.fed_http.specs.FoundParts.{framed_or_refused, IsFramedAs, IsBodyAt, LacksBody, IsBodyFault, IsSomeFoundAt}
use Rattle.fed_http.specs.ChunkParts.{IsChunkedFault}
use Rattle.fed_http.specs.Faults.{ReachesBody, HasTooManyFields, IsBadHead, no_head, interim, trailers, large_head, large_length, large_chunks, large_trailer, IsBadLength, IsFault}
use Rattle.fed_http.specs.Waiting.{IsWaiting}
use Rattle.fed_http.specs.Waiting as waiting
use Rattle.fed_http.specs.declared.chunks.Extent.{Extent}
use Rattle.fed_http.specs.declared.fault.HttpFault.{HttpFault}
use Rattle.fed_http.specs.declared.fault.HttpFault.TheVariants.{Memory, BadHead, TooLarge, BadLength, BadChunk, HasFailed}
use Rattle.fed_http.specs.declared.framing.Framing.{Framing}
use Rattle.fed_http.specs.declared.framing.Framing.TheVariants.{NoBody, Fixed, Chunked}
use Rattle.fed_http.specs.declared.head.HeadSpans.{HeadSpans}
use Rattle.fed_http.specs.declared.head.StartSpans.{StartSpans}
use Rattle.fed_http.specs.declared.head.StartSpans.TheVariants.{Request, Reply}
use Rattle.fed_http.specs.declared.message.Kind.{Kind}
use Rattle.fed_http.proofs.Windows.{grown_at, all_of_few, fits_in}

-- this fault is told, and for a reason
abbrev pub IsTold : Kind → List ℕ → HttpFault → Type 0
IsTold kind bytes fault = (fault ≢ Memory) × IsFault kind bytes fault

-- ---- no head

pub head_never : (kind : Kind) (bytes front : List ℕ) (fault : HttpFault) → front ≡ take max_head bytes → (fault ≡ BadHead) × HasTooManyFields kind front × ¬ (IsUnfinishedHead kind front) → IsTold kind bytes fault
head_never kind bytes front fault is (bad, many, over) =
    let fact : IsBadHead kind bytes = no_head (subst (HasTooManyFields kind) is many) (subst (λ v. ¬ (IsUnfinishedHead kind v)) is over) in
    subst (IsTold kind bytes) (sym bad) ((λ e. cc), fact)

pub head_waits : (kind : Kind) (bytes front : List ℕ) → front ≡ take max_head bytes → length bytes < max_head → IsUnfinishedHead kind front → IsWaiting kind bytes
head_waits kind bytes front is few u = waiting.head few (subst (IsUnfinishedHead kind) (is ∙ all_of_few max_head bytes few) u)

pub head_large : (kind : Kind) (bytes front : List ℕ) → front ≡ take max_head bytes → max_head ≤ length bytes → IsUnfinishedHead kind front → IsTold kind bytes TooLarge
head_large kind bytes front is full u = ((λ e. cc), large_head full (subst (IsUnfinishedHead kind) is u))

-- ---- the framing

-- the head in all bytes
pub reads_all : (kind : Kind) (bytes window : List ℕ) (headers : List HeaderSpan) (spans : HeadSpans) (h : Head) → window ≡ take max_head bytes → IsHeadAt kind window headers spans h → ReadsHead kind bytes h (drop spans.len bytes)
reads_all kind bytes window headers spans h is at = record { valid = at.reads.valid; whole = grown_at max_head spans.len bytes (print_head h) (drop spans.len window) (sym is ∙ at.reads.whole) at.len }

-- what is told of a framing
pub data Told (kind : Kind) (bytes : List ℕ) (h : Head) (result : Result Framing HttpFault) : Type 0 where
  fault : (f : HttpFault) → result ≡ Err f → IsTold kind bytes f → Told kind bytes h result
  framing : (f : Framing) → result ≡ Ok f → IsFinal h → head_framing h ≡ Some f → Told kind bytes h result

framed_by : (kind : Kind) (bytes : List ℕ) (h : Head) (result : Result Framing HttpFault) (o : Option Framing) → IsFinal h → head_framing h ≡ o → result ≡ framed_or_refused o
    → (head_framing h ≡ None → IsBadLength kind bytes) → Told kind bytes h result
framed_by kind bytes h result None final is told bad = fault BadLength told ((λ e. cc), bad is)
framed_by kind bytes h result (Some f) final is told bad = framing f told final is

pub framing_told : (kind : Kind) (bytes window : List ℕ) (headers : List HeaderSpan) (spans : HeadSpans) (h : Head) (result : Result Framing HttpFault) → window ≡ take max_head bytes → IsHeadAt kind window headers spans h
    → IsFramedAs spans.start (framing_of (map (header_bytes window) (take spans.fields headers))) result → Told kind bytes h result
framing_told kind bytes window headers spans h result is at framed = by_kind spans.start h (framing_of (map (header_bytes window) (take spans.fields headers))) at.start (reads_all kind bytes window headers spans h is at) (ap framing_of at.fields_are) at.within framed
  where
    by_kind : (start : StartSpans) (k : Head) (given : Option Framing) → IsStartOf window start k → ReadsHead kind bytes k (drop spans.len bytes) → given ≡ framing_of (map name_and_value (field_lines k))
        → IsWithinLimits k → IsFramedAs start given result → Told kind bytes k result
    by_kind (Request method target) (request k) given start reads fields within framed =
        framed_by kind bytes (request k) result (framing_of (map name_and_value k.fields)) tt refl (framed ∙ ap framed_or_refused fields)
        (λ none. record { head = request k; rest = drop spans.len bytes; reads = reads; within = within; final = tt; refused = none })
    by_kind (Request method target) (reply k) given start reads fields within framed = absurd start
    by_kind (Reply status) (request k) given start reads fields within framed = absurd start
    by_kind (Reply status) (reply k) given start reads fields within framed =
        elim (cases_lt status 200) [
          | inl low ↦ fault BadHead (framed.0 low) ((λ e. cc), interim k (drop spans.len bytes) reads within (omega (arith, low, start)))
          | inr high ↦
              let final : 200 ≤ status_code k = omega (arith, high, start) in
              framed_by kind bytes (reply k) result (reply_framing (framing_of (map name_and_value k.fields))) final refl (framed.1 high ∙ ap (λ f. framed_or_refused (reply_framing f)) fields)
              (λ none. record { head = reply k; rest = drop spans.len bytes; reads = reads; within = within; final = final; refused = none })
        ]

-- at the result that was returned
pub told_fault : (kind : Kind) (bytes : List ℕ) (h : Head) (result : Result Framing HttpFault) (f : HttpFault) → result ≡ Err f → Told kind bytes h result → IsTold kind bytes f
told_fault kind bytes h result f is (fault g e told) = let same : g ≡ f = cc in subst (IsTold kind bytes) same told
told_fault kind bytes h result f is (framing g e final framed) = cc

pub told_framing : (kind : Kind) (bytes : List ℕ) (h : Head) (result : Result Framing HttpFault) (f : Framing) → result ≡ Ok f → Told kind bytes h result → IsFinal h × (head_framing h ≡ Some f)
told_framing kind bytes h result f is (fault g e told) = cc
told_framing kind bytes h result f is (framing g e final framed) = (final, framed ∙ ap Some (cc))

-- ---- the body

pub reaches : (kind : Kind) (bytes window : List ℕ) (headers : List HeaderSpan) (spans : HeadSpans) (h : Head) (f : Framing) → window ≡ take max_head bytes → IsHeadAt kind window headers spans h
    → IsFinal h × (head_framing h ≡ Some f) → ReachesBody kind bytes f (drop spans.len bytes)
reaches kind bytes window headers spans h f is at framed = record { head = h; reads = reads_all kind bytes window headers spans h is at; within = at.within; final = framed.0; framed = framed.1 }

chunked_fault : (kind : Kind) (bytes rest : List ℕ) (fault : HttpFault) → ReachesBody kind bytes Chunked rest → IsChunkedFault rest fault → IsTold kind bytes fault
chunked_fault kind bytes rest Memory r fact = absurd fact
chunked_fault kind bytes rest BadHead r fact = ((λ e. cc), trailers rest r fact)
chunked_fault kind bytes rest TooLarge r (inl fact) = ((λ e. cc), large_chunks rest r fact)
chunked_fault kind bytes rest TooLarge r (inr fact) = ((λ e. cc), large_trailer rest r fact)
chunked_fault kind bytes rest BadLength r fact = absurd fact
chunked_fault kind bytes rest BadChunk r fact = ((λ e. cc), record { rest = rest; reaches = r; bad = fact })
chunked_fault kind bytes rest HasFailed r fact = absurd fact

pub body_fault : (kind : Kind) (bytes rest : List ℕ) (f : Framing) (why : HttpFault) → ReachesBody kind bytes f rest → IsBodyFault f rest why → IsTold kind bytes why
body_fault kind bytes rest NoBody why r fact = absurd fact
body_fault kind bytes rest (Fixed n) why r fact =
    let told : IsTold kind bytes TooLarge = ((λ e. cc), large_length n rest r fact.1) in
    subst (IsTold kind bytes) (sym fact.0) told
body_fault kind bytes rest Chunked why r fact = chunked_fault kind bytes rest why r fact

pub body_waits : (kind : Kind) (bytes rest : List ℕ) (f : Framing) → ReachesBody kind bytes f rest → LacksBody f rest → IsWaiting kind bytes
body_waits kind bytes rest NoBody r lacks = absurd lacks
body_waits kind bytes rest (Fixed n) r lacks = waiting.body n rest r lacks.1 lacks.0
body_waits kind bytes rest Chunked r lacks = waiting.chunks rest r lacks

pub head_fits : (kind : Kind) (bytes window : List ℕ) (headers : List HeaderSpan) (spans : HeadSpans) (h : Head) → window ≡ take max_head bytes → IsHeadAt kind window headers spans h → spans.len ≤ length bytes
head_fits kind bytes window headers spans h is at = omega (arith, at.len, fits_in bytes (print_head h) (drop spans.len bytes) (reads_all kind bytes window headers spans h is at).whole)

-- ---- the message

pub found_at : (kind : Kind) (bytes window : List ℕ) (headers : List HeaderSpan) (spans : HeadSpans) (h : Head) (f : Framing) (body : Extent) → window ≡ take max_head bytes → IsHeadAt kind window headers spans h
    → IsFinal h × (head_framing h ≡ Some f) → IsBodyAt f (drop spans.len bytes) body → IsSomeFoundAt kind bytes headers (record { head = spans; framing = f; body = body })
found_at kind bytes window headers spans h f body is at framed found =
    let P : List ℕ → Type 0 = λ w. IsHeadAt kind w headers spans h in (
      h,
      record {
        at = subst P is at;
        final = framed.0;
        framed = framed.1;
        body = found;
        fits = head_fits kind bytes window headers spans h is at;
      },
    )
