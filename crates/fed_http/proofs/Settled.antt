-- Where a fault holds, no message is found.
use Rattle.std.proofs.Common.{◌≢◌, ℕ, ◌+◌, List, [], take, drop, refl, sym}
use Rattle.std.proofs.lemmas.List.{take-append-drop}
use Rattle.httparse.specs.declared.spans.HeaderSpan.{HeaderSpan}
use Rattle.fed_http.specs.Head.{message_of}
use Rattle.fed_http.specs.Body.{chunk_data}
use Rattle.fed_http.specs.CopyParts.{IsMessageAt, HasBody}
use Rattle.fed_http.specs.FoundParts.{IsBodyAt, IsSomeFoundAt}
use Rattle.fed_http.specs.Faults.{IsFault}
use Rattle.fed_http.specs.declared.chunks.Extent.{Extent}
use Rattle.fed_http.specs.declared.fault.HttpFault.{HttpFault}
use Rattle.fed_http.specs.declared.fault.HttpFault.TheVariants.{Memory}
use Rattle.fed_http.specs.declared.finding.MessageSpans.{MessageSpans}
use Rattle.fed_http.specs.declared.framing.Framing.{Framing}
use Rattle.fed_http.specs.declared.framing.Framing.TheVariants.{NoBody, Fixed, Chunked}
use Rattle.fed_http.specs.declared.message.Kind.{Kind}
use Rattle.fed_http.proofs.Messages.{message_at, chunked_begins}
use Rattle.fed_http.proofs.TextLemmas.{fault_has_no_text}

-- the body that was found
some_body : (f : Framing) (bytes : List ℕ) (found : Extent) → IsBodyAt f bytes found → (body : List ℕ) × HasBody f bytes found.text body
some_body NoBody bytes found at = ([], refl)
some_body (Fixed n) bytes found at = (take found.text bytes, refl)
some_body Chunked bytes found at = (chunk_data at.body.chunks, record { begins = chunked_begins bytes found at; data_is = refl })

pub fault_never_found : (kind : Kind) (bytes : List ℕ) (headers : List HeaderSpan) (found : MessageSpans) (fault : HttpFault) → fault ≢ Memory → IsFault kind bytes fault → IsSomeFoundAt kind bytes headers found → ⊥
fault_never_found kind bytes headers found fault other is (h, at) =
    let body = some_body found.framing (drop found.head.len bytes) found.body at.body in
    let m = message_of h body.0 in
    let len = found.head.len + found.body.text in
    let there : IsMessageAt kind bytes m len = message_at kind bytes headers found h body.0 m at body.1 refl in
    fault_has_no_text kind bytes fault other is m (take len bytes) (drop len bytes) there.text (sym (take-append-drop len bytes))
