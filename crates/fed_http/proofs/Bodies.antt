-- A chunked body, from its chunks and its trailer.
use Rattle.std.proofs.Common.{arith, ◌≡◌, ℕ, ◌+◌, List, ◌++◌, length, drop, sym, ap, subst, ◌∙◌, append_assoc, length-append, inl, inr}
use Rattle.httparse.specs.Grammar.{print_chunk_line, print_section}
use Rattle.fed_http.specs.Body.{ChunkedBody, print_chunks, print_chunked}
use Rattle.fed_http.specs.Faults.{ReachesTrailer, no_trailer}
use Rattle.fed_http.specs.Waiting.{LacksChunks}
use Rattle.fed_http.specs.Waiting as waiting
use Rattle.fed_http.specs.ChunkParts.{IsChunksEnd, IsTrailerAt, LacksTrailer, IsTrailerFault, IsWalkFault, IsChunkedAt, IsChunkedFault}
use Rattle.fed_http.specs.declared.chunks.Extent.{Extent}
use Rattle.fed_http.specs.declared.fault.HttpFault.{HttpFault}
use Rattle.fed_http.specs.declared.fault.HttpFault.TheVariants.{Memory, BadHead, TooLarge, BadLength, BadChunk, HasFailed}
use Rattle.std.proofs.lemmas.List.{length-drop}
use Rattle.fed_http.proofs.Windows.{fits_in, at_len}
use Rattle.fed_http.proofs.ChunkLemmas.{chunked_from_parts}

reached : (bytes rest : List ℕ) (found : Extent) (e : IsChunksEnd bytes found) → rest ≡ drop found.text bytes → ReachesTrailer bytes rest
reached bytes rest found e is = subst (ReachesTrailer bytes) (sym is) e.reaches

pub body_lacks : (bytes rest : List ℕ) (found : Extent) → IsChunksEnd bytes found → rest ≡ drop found.text bytes → LacksTrailer rest → LacksChunks bytes
body_lacks bytes rest found e is lacks = waiting.trailer rest (reached bytes rest found e is) lacks.few lacks.unended

pub walk_fault_is : (bytes : List ℕ) (fault : HttpFault) → IsWalkFault bytes fault → IsChunkedFault bytes fault
walk_fault_is bytes Memory fact = fact
walk_fault_is bytes BadHead fact = absurd fact
walk_fault_is bytes TooLarge fact = inl fact
walk_fault_is bytes BadLength fact = fact
walk_fault_is bytes BadChunk fact = fact
walk_fault_is bytes HasFailed fact = fact

pub trailer_fault_is : (bytes rest : List ℕ) (found : Extent) (fault : HttpFault) → IsChunksEnd bytes found → rest ≡ drop found.text bytes → IsTrailerFault rest fault → IsChunkedFault bytes fault
trailer_fault_is bytes rest found Memory e is fact = fact
trailer_fault_is bytes rest found BadHead e is fact = record { rest = rest; reaches = reached bytes rest found e is; full = fact }
trailer_fault_is bytes rest found TooLarge e is fact = inr (record { rest = rest; reaches = reached bytes rest found e is; full = fact.0; unended = fact.1 })
trailer_fault_is bytes rest found BadLength e is fact = fact
trailer_fault_is bytes rest found BadChunk e is fact = no_trailer rest (reached bytes rest found e is) fact
trailer_fault_is bytes rest found HasFailed e is fact = fact

pub body_found : (bytes rest : List ℕ) (found : Extent) (len : ℕ) → IsChunksEnd bytes found → rest ≡ drop found.text bytes → IsTrailerAt rest len → IsChunkedAt bytes (record { body = found.body; text = found.text + len })
body_found bytes rest found len e is t =
    let r = e.reaches in
    let section = print_section t.fields t.end in
    let body : ChunkedBody = record { chunks = r.chunks; last = r.last; trailers = t.fields; end = t.end } in
    let whole : bytes ≡ print_chunked body ++ drop len rest =
    chunked_from_parts body bytes (drop len rest) (r.reads.whole ∙ ap (λ v. print_chunks r.chunks ++ (print_chunk_line r.last ++ v)) (sym is ∙ t.whole)) in
    let front : bytes ≡ (print_chunks r.chunks ++ print_chunk_line r.last) ++ drop found.text bytes = r.reads.whole ∙ sym (append_assoc (print_chunks r.chunks) (print_chunk_line r.last) (drop found.text bytes)) in
    let front_len : length (print_chunks r.chunks ++ print_chunk_line r.last) ≡ found.text = omega (arith, ap length front, length-append (print_chunks r.chunks ++ print_chunk_line r.last) (drop found.text bytes), length-drop found.text bytes, e.text_fits) in
    let section_len : length section ≡ len = omega (arith, ap length t.whole, length-append section (drop len rest), length-drop len rest, t.fits) in
    let len_is : found.text + len ≡ length (print_chunked body) = omega (arith, front_len, section_len, length-append (print_chunks r.chunks ++ print_chunk_line r.last) section) in
    record {
      body = body;
      valid = record { chunks = r.reads.valid; last = r.is_last; trailer = t.trailer };
      body_is = e.body_is;
      body_fits = omega (arith, e.body_is, r.reads.fits);
      whole = at_len bytes (print_chunked body) (drop len rest) (found.text + len) whole len_is;
      text_fits = omega (arith, len_is, fits_in bytes (print_chunked body) (drop len rest) whole);
    }
