-- What a reader answers to a piece, from what was taken of it.
use Rattle.std.proofs.Common.{arith, ◌≡◌, ◌≢◌, ℕ, ◌+◌, ◌<◌, ◌≤◌, Bool, true, false, List, [], ◌∷◌, ◌++◌, length, take, drop, refl, sym, ap, subst, ◌∙◌, append_assoc, length-append, Some, inl}
use Rattle.std.specs.Prelude.{Result, Err}
use Rattle.std.proofs.lemmas.List.{take-append-drop}
use Rattle.httparse.specs.Grammar.{print_request, print_response, print_blank, print_version}
use Rattle.httparse.proofs.GrammarLemmas.{print_request-append, print_response-append}
use Rattle.httparse.specs.Grammar.{print_chunk_line}
use Rattle.fed_http.specs.Limits.{max_head, max_held}
use Rattle.fed_http.specs.Head.{Head, request, reply, print_head}
use Rattle.fed_http.specs.Text.{IsText, HasNoText}
use Rattle.fed_http.specs.TextPlaces.{IsHeadPlace}
use Rattle.fed_http.specs.Faults.{IsFault}
use Rattle.fed_http.specs.Keeping.{Kept, IsKept, IsKeptAt, with_body, KeepsChunks, IsInHead, HasEnded}
use Rattle.fed_http.specs.KeepingParts.{kept_of, Ends, StillWaits, TakeFails}
use Rattle.fed_http.specs.Reader.{Reading, StandsFor, Gives, Waits, Fails, Stays, TellsOf}
use Rattle.fed_http.specs.declared.fault.HttpFault.{HttpFault}
use Rattle.fed_http.specs.declared.fault.HttpFault.TheVariants.{Memory}
use Rattle.fed_http.specs.declared.message.Kind.{Kind}
use Rattle.fed_http.specs.declared.message.Message.{Message}
use Rattle.fed_http.specs.declared.place.Place.{Place}
use Rattle.fed_http.specs.declared.place.Place.TheVariants.{InHead, InBody, InLine, InData, BehindData, BehindReturn, InTrailer, Ended}
use Rattle.fed_http.specs.declared.state.State.{State}
use Rattle.fed_http.specs.declared.text_place.TextPlace.TheVariants.{EmptyLines}
use Rattle.fed_http.proofs.TextLemmas.{fault_has_no_text, waiting_has_no_text}
use Rattle.fed_http.proofs.Verdicts.{one_fault}

-- ---- no text is empty

after_blank : (blank word tail : List ℕ) (c : ℕ) (all : List ℕ) → all ≡ blank ++ (word ++ c ∷ tail) → 0 < length all
after_blank blank word tail c all e = omega (arith, ap length e, length-append blank (word ++ c ∷ tail), length-append word (c ∷ tail))

some_head : (h : Head) (rest : List ℕ) → 0 < length (print_head h ++ rest)
some_head (request h) rest = after_blank (print_blank h.blank) h.method _ 32 (print_request h ++ rest) (print_request-append h rest)
some_head (reply h) rest = after_blank (print_blank h.blank) (print_version h.minor) _ 32 (print_response h ++ rest) (print_response-append h rest)

pub empty_has_no_text : (kind : Kind) → HasNoText kind []
empty_has_no_text kind m text rest t e =
    let head = print_head t.head in
    omega (arith, some_head t.head t.body_text, ap length t.text_is, ap length e, length-append text rest)

-- what the fields of a reader say of it
abbrev pub fields : Kind → Kept → Bool → Reading
fields kind kept failed = record { kind = kind; kept = kept; has_failed = failed }

-- nothing is kept of nothing
pub nothing_kept : (kind : Kind) (k : Kept) → k.at ≡ EmptyLines → k.head ≡ 0 → k.text ≡ [] → k.body ≡ [] → IsInHead kind k []
nothing_kept kind k at len text body = record {
  len = len;
  text = text;
  body = body;
  few = omega arith;
  none = λ h rest reads. omega (arith, some_head h rest, ap length reads.whole);
  at = subst (IsHeadPlace kind []) (sym at) ([], refl);
}

-- ---- a message

pub feed_gives : (old : Reading) (kind : Kind) (s new : State) (after : Kept) (piece : List ℕ) (failed : Bool) (used : ℕ) (m : Message) → fields kind (kept_of s) failed ≡ old → failed ≡ false → Ends kind s new piece used
    → ((n : Message) → new.start ≡ Some n → m ≡ with_body n new.body.items) → IsKept kind after [] → (bytes : List ℕ) → StandsFor old bytes → Gives old bytes piece (fields kind after failed) m used
feed_gives old kind s new after piece failed used m view fresh ends is kept =
    let Q : Reading → Type 0 = λ o. (bytes : List ℕ) → StandsFor o bytes → Gives o bytes piece (fields kind after failed) m used in
    subst Q view (λ bytes stands.
    let text = bytes ++ take used piece in
    let P : Place → Type 0 = λ p. IsKeptAt p kind (kept_of new) text in
    let there : HasEnded kind (kept_of new) text = subst P ends.ended (ends.kept bytes stands.kept) in
    record {
      within = ends.within;
      text = subst (λ n. IsText kind n text) (sym (is there.message there.start)) there.text;
      kind = refl;
      after = record { live = fresh; none = empty_has_no_text kind; kept = kept };
    })

pub feed_waits : (old : Reading) (kind : Kind) (s new : State) (piece : List ℕ) (failed : Bool) → fields kind (kept_of s) failed ≡ old → failed ≡ false → StillWaits kind s new piece → (bytes : List ℕ) → StandsFor old bytes
    → Waits old bytes piece (fields kind (kept_of new) failed) (length piece)
feed_waits old kind s new piece failed view fresh waits =
    let Q : Reading → Type 0 = λ o. (bytes : List ℕ) → StandsFor o bytes → Waits o bytes piece (fields kind (kept_of new) failed) (length piece) in
    subst Q view (λ bytes stands.
    let here = waits.waits bytes stands.kept in
    record {
      all_used = refl;
      none = waiting_has_no_text kind (bytes ++ piece) here;
      waiting = here;
      kind = refl;
      after = record { live = fresh; none = waiting_has_no_text kind (bytes ++ piece) here; kept = waits.kept bytes stands.kept };
    })

-- ---- a fault

pub feed_fails : (fact : Kind → List ℕ → Type 0) (old : Reading) (kind : Kind) (s new : State) (after : Kept) (piece : List ℕ) (failed : Bool) (told fault : HttpFault) → fields kind (kept_of s) failed ≡ old → TakeFails kind s new piece told
    → told ≡ fault → fault ≢ Memory → ((bytes : List ℕ) → IsFault kind bytes fault → fact kind bytes) → (bytes : List ℕ) → StandsFor old bytes → Fails fact old bytes piece (fields kind after true)
feed_fails fact old kind s new after piece failed told fault view fails same other says =
    let Q : Reading → Type 0 = λ o. (bytes : List ℕ) → StandsFor o bytes → Fails fact o bytes piece (fields kind after true) in
    subst Q view (λ bytes stands.
    let here = subst (IsFault kind (bytes ++ piece)) same (fails.is bytes stands.kept) in
    record {
      is = says (bytes ++ piece) here;
      none = fault_has_no_text kind (bytes ++ piece) fault other here;
      kind = refl;
      after = refl;
    })

-- the fault that was told
pub told_as : {A : Type 0} (fault other : HttpFault) → ◌≡◌ {A = Result A HttpFault} (Err fault) (Err other) → fault ≡ other
told_as fault other e = cc

-- no other fault was there to be told
pub tells : {A : Type 0} (old : Reading) (kind : Kind) (s new : State) (piece : List ℕ) (failed : Bool) (told : HttpFault) (result : Result A HttpFault) → fields kind (kept_of s) failed ≡ old → TakeFails kind s new piece told → told ≢ Memory → result ≡ Err told
    → (bytes : List ℕ) (fault : HttpFault) → StandsFor old bytes → fault ≢ Memory → IsFault old.kind (bytes ++ piece) fault → TellsOf fault result
tells {A} old kind s new piece failed told result view fails other is =
    let Q : Reading → Type 0 = λ o. (bytes : List ℕ) (fault : HttpFault) → StandsFor o bytes → fault ≢ Memory → IsFault o.kind (bytes ++ piece) fault → TellsOf fault result in
    subst Q view (λ bytes fault stands real there. inl (is ∙ ap Err (one_fault kind (bytes ++ piece) told fault other real (fails.is bytes stands.kept) there)))

pub gives_no_fault : (old : Reading) (bytes piece : List ℕ) (new : Reading) (m : Message) (used : ℕ) (fault : HttpFault) → Gives old bytes piece new m used → fault ≢ Memory → IsFault old.kind (bytes ++ piece) fault → ⊥
gives_no_fault old bytes piece new m used fault gives other is =
    fault_has_no_text old.kind (bytes ++ piece) fault other is m (bytes ++ take used piece) (drop used piece) gives.text (ap (λ p. bytes ++ p) (sym (take-append-drop used piece)) ∙ sym (append_assoc bytes (take used piece) (drop used piece)))

-- ---- want of memory

pub same_stays : (old new : Reading) → new ≡ old → Stays old new
same_stays old new same = subst (Stays old) (sym same) (record { kind = refl; failed = refl; stands = λ bytes stands. stands })

-- ---- how much is kept

pub kept_bound : (kind : Kind) (k : Kept) (bytes : List ℕ) → k.place ≢ Ended → IsKept kind k bytes → k.head + (length k.text + length k.body) ≤ max_held
kept_bound kind k bytes unended kept = by k.place refl kept
  where
    of_chunks : (line mid : List ℕ) (x : KeepsChunks kind k bytes line mid) → k.head + length k.text ≤ max_head + length line
    of_chunks line mid x = omega (arith, ap length x.keeps.text, x.keeps.len, x.keeps.within.short)

    by : (p : Place) → k.place ≡ p → IsKeptAt p kind k bytes → k.head + (length k.text + length k.body) ≤ max_held
    by InHead at x = omega (arith, x.len, ap length x.text, ap length x.body, x.few)
    by (InBody left) at x = omega (arith, ap length x.keeps.text, x.keeps.len, x.keeps.within.short, x.missing, x.fits)
    by InLine at x = omega (arith, of_chunks x.line x.line x.keeps, x.few, ap length x.body, x.keeps.reads.fits)
    by (InData left) at (x, some) = omega (arith, of_chunks (print_chunk_line x.line) (print_chunk_line x.line ++ (x.content ++ [])) x.keeps, x.short.short, x.fits)
    by BehindData at x = omega (arith, of_chunks (print_chunk_line x.line) (print_chunk_line x.line ++ (x.content ++ [])) x.keeps, x.short.short, x.fits)
    by BehindReturn at x = omega (arith, of_chunks (print_chunk_line x.line) (print_chunk_line x.line ++ (x.content ++ 13 ∷ [])) x.keeps, x.short.short, x.fits)
    by InTrailer at x = omega (arith, of_chunks x.line (print_chunk_line x.last ++ x.line) x.keeps, x.few, ap length x.body, x.keeps.reads.fits)
    by Ended at x = absurd (unended at)
