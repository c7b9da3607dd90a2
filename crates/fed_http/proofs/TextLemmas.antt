-- Texts are read in one way, and no fault is told of the beginning of one.
use Rattle.std.proofs.Common.{arith, ◌≡◌, ◌≢◌, ℕ, ◌≤◌, List, [], ◌++◌, length, drop, refl, sym, ap, subst, ◌∙◌, append_assoc, length-append, Some, None}
use Rattle.std.proofs.lemmas.List.{append-nil}
use Rattle.fed_http.specs.Limits.{max_head, max_body}
use Rattle.fed_http.specs.Head.{Head, reply, ReadsHead, IsFinal, print_head, head_framing, message_of}
use Rattle.fed_http.specs.Body.{ChunkedBody, IsBodyText, chunk_data, print_chunked}
use Rattle.fed_http.specs.Text.{IsText, HasNoText}
use Rattle.fed_http.specs.Faults.{ReachesBody, IsBadHead, no_head, interim, trailers, IsTooLarge, large_head, large_length, large_chunks, large_trailer, IsBadLength, IsBadChunk, IsFault}
use Rattle.fed_http.specs.Waiting.{IsWaiting}
use Rattle.fed_http.specs.Waiting as waiting
use Rattle.fed_http.specs.declared.fault.HttpFault.{HttpFault}
use Rattle.fed_http.specs.declared.fault.HttpFault.TheVariants.{Memory, BadHead, TooLarge, BadLength, BadChunk, HasFailed}
use Rattle.fed_http.specs.declared.framing.Framing.{Framing}
use Rattle.fed_http.specs.declared.framing.Framing.TheVariants.{NoBody, Fixed, Chunked}
use Rattle.fed_http.specs.declared.message.Kind.{Kind}
use Rattle.fed_http.specs.declared.message.Message.{Message}
use Rattle.fed_http.proofs.Windows.{split_same, shrunk_more, rejoined}
use Rattle.fed_http.proofs.HeadLemmas.{head_unique, ReadsHead-append}
use Rattle.fed_http.proofs.ChunkLemmas.{bad_chunk_excludes, large_chunks_exclude, large_trailer_excludes, many_trailers_exclude, lacks_excludes, chunked_unique}

-- ---- the head of a text

pub text_head : (kind : Kind) (m : Message) (text rest buf : List ℕ) (t : IsText kind m text) → buf ≡ text ++ rest → ReadsHead kind buf t.head (t.body_text ++ rest)
text_head kind m text rest buf t e = record { valid = t.valid; whole = e ∙ ap (λ v. v ++ rest) t.text_is ∙ append_assoc (print_head t.head) t.body_text rest }

-- the text's head is the one that was read
pub same_head : (kind : Kind) (m : Message) (bytes more text after rest : List ℕ) (h : Head) (t : IsText kind m text) → ReadsHead kind bytes h rest → bytes ++ more ≡ text ++ after
    → (t.head ≡ h) × (t.body_text ++ after ≡ rest ++ more)
same_head kind m bytes more text after rest h t reads e =
    head_unique kind (bytes ++ more) t.head h (t.body_text ++ after) (rest ++ more) (text_head kind m text after (bytes ++ more) t e) (ReadsHead-append kind bytes h rest more reads)

some_same : (a b : Framing) → Some a ≡ Some b → a ≡ b
some_same a b e = cc

-- and so are its framing and what comes behind the head
pub same_body : (kind : Kind) (m : Message) (bytes more text after rest : List ℕ) (framing : Framing) (t : IsText kind m text) → ReachesBody kind bytes framing rest → bytes ++ more ≡ text ++ after
    → IsBodyText framing t.body t.body_text × (rest ++ more ≡ t.body_text ++ after)
same_body kind m bytes more text after rest framing t at e =
    let same = same_head kind m bytes more text after rest at.head t at.reads e in
    let framings = some_same t.framing framing (sym t.framed ∙ ap head_framing same.0 ∙ at.framed) in
    let P : Framing → Type 0 = λ f. IsBodyText f t.body t.body_text in
    (subst P framings t.is_body, sym same.1)

-- ---- one text

abbrev SameBody : List ℕ → List ℕ → List ℕ → List ℕ → Type 0
SameBody body other text more = (body ≡ other) × (text ≡ more)

same_bodies : (framing : Framing) (a b x y r q : List ℕ) → IsBodyText framing a x → IsBodyText framing b y → length a ≤ max_body → x ++ r ≡ y ++ q → (a ≡ b) × (r ≡ q)
same_bodies NoBody a b x y r q u v fits e = (u.0 ∙ sym v.0, cc (u.1, v.1))
same_bodies (Fixed n) a b x y r q u v fits e =
    let same = split_same x y r q (ap length u.1 ∙ u.0 ∙ sym v.0 ∙ ap length (sym v.1)) e in
    (sym u.1 ∙ same.0 ∙ v.1, same.1)
same_bodies Chunked a b x y r q u v fits e =
    let P : List ℕ → Type 0 = λ l. length l ≤ max_body in
    let same = chunked_unique u.0 v.0 (x ++ r) r q u.1 v.1 (subst P u.2 fits) (ap (λ l. l ++ r) u.3) (e ∙ ap (λ l. l ++ q) v.3) in
    (u.2 ∙ same.0 ∙ sym v.2, same.1)

front_same : (a b r q : List ℕ) → a ++ r ≡ b ++ q → r ≡ q → a ≡ b
front_same a b r q e same =
    let lengths : length a ≡ length b = omega (arith, ap length e, ap length same, length-append a r, length-append b q) in
    (split_same a b r q lengths e).0

pub text_unique : (kind : Kind) (m n : Message) (bytes text other rest after : List ℕ) → IsText kind m text → IsText kind n other → bytes ≡ text ++ rest → bytes ≡ other ++ after → (m ≡ n) × (text ≡ other)
text_unique kind m n bytes text other rest after t u e f =
    let at : ReachesBody kind bytes u.framing (u.body_text ++ after) = record { head = u.head; reads = text_head kind n other after bytes u f; within = u.within; final = u.final; framed = u.framed } in
    let heads = same_head kind m bytes [] text rest (u.body_text ++ after) u.head t at.reads (append-nil bytes ∙ e) in
    let body = same_body kind m bytes [] text rest (u.body_text ++ after) u.framing t at (append-nil bytes ∙ e) in
    let same = same_bodies u.framing t.body u.body t.body_text u.body_text rest after body.0 u.is_body t.body_fits (sym body.1 ∙ append-nil (u.body_text ++ after)) in
    (t.message_is ∙ (λ i. message_of (heads.0 i) (same.0 i)) ∙ sym u.message_is, front_same text other rest after (sym e ∙ f) same.1)

-- ---- what excludes a text

fits_of : (body : List ℕ) (b : ChunkedBody) → length body ≤ max_body → body ≡ chunk_data b.chunks → length (chunk_data b.chunks) ≤ max_body
fits_of body b fits e = let P : List ℕ → Type 0 = λ l. length l ≤ max_body in subst P e fits

chunked_rest : (x rest more after text : List ℕ) → rest ++ more ≡ text ++ after → text ≡ x → rest ++ more ≡ x ++ after
chunked_rest x rest more after text e f = e ∙ ap (λ v. v ++ after) f

bad_head_excludes : (kind : Kind) (m : Message) (bytes more text after : List ℕ) → IsText kind m text → bytes ++ more ≡ text ++ after → IsBadHead kind bytes → ⊥
bad_head_excludes kind m bytes more text after t e (no_head many unless) =
    let head = text_head kind m text after (bytes ++ more) t e in
    omega (arith, t.within.few, many (drop max_head bytes ++ more) t.head (t.body_text ++ after) (record { valid = t.valid; whole = sym (rejoined max_head bytes more) ∙ head.whole }))
bad_head_excludes kind m bytes more text after t e (interim h rest reads within low) =
    let same = same_head kind m bytes more text after rest (reply h) t reads e in
    let final = subst IsFinal same.0 t.final in
    omega (arith, low, final)
bad_head_excludes kind m bytes more text after t e (trailers rest at many) =
    let body = same_body kind m bytes more text after rest Chunked t at e in
    many_trailers_exclude body.0.0 rest more after body.0.1 (chunked_rest (print_chunked body.0.0) rest more after t.body_text body.1 body.0.3) many

too_large_excludes : (kind : Kind) (m : Message) (bytes more text after : List ℕ) → IsText kind m text → bytes ++ more ≡ text ++ after → IsTooLarge kind bytes → ⊥
too_large_excludes kind m bytes more text after t e (large_head full unended) =
    let head = text_head kind m text after (bytes ++ more) t e in
    unended.none t.head _ (record { valid = t.valid; whole = shrunk_more max_head bytes more (print_head t.head) (t.body_text ++ after) full head.whole t.within.short })
too_large_excludes kind m bytes more text after t e (large_length n rest at large) =
    let body = same_body kind m bytes more text after rest (Fixed n) t at e in
    omega (arith, large, t.body_fits, body.0.0)
too_large_excludes kind m bytes more text after t e (large_chunks rest at large) =
    let body = same_body kind m bytes more text after rest Chunked t at e in
    large_chunks_exclude body.0.0 rest more after body.0.1 (fits_of t.body body.0.0 t.body_fits body.0.2) (chunked_rest (print_chunked body.0.0) rest more after t.body_text body.1 body.0.3) large
too_large_excludes kind m bytes more text after t e (large_trailer rest at large) =
    let body = same_body kind m bytes more text after rest Chunked t at e in
    large_trailer_excludes body.0.0 rest more after body.0.1 (chunked_rest (print_chunked body.0.0) rest more after t.body_text body.1 body.0.3) large

some_is_not_none : (a : Framing) → Some a ≡ None → ⊥
some_is_not_none a e = cc

bad_length_excludes : (kind : Kind) (m : Message) (bytes more text after : List ℕ) → IsText kind m text → bytes ++ more ≡ text ++ after → IsBadLength kind bytes → ⊥
bad_length_excludes kind m bytes more text after t e bad =
    let same = same_head kind m bytes more text after bad.rest bad.head t bad.reads e in
    some_is_not_none t.framing (sym t.framed ∙ ap head_framing same.0 ∙ bad.refused)

bad_chunks_exclude : (kind : Kind) (m : Message) (bytes more text after : List ℕ) → IsText kind m text → bytes ++ more ≡ text ++ after → IsBadChunk kind bytes → ⊥
bad_chunks_exclude kind m bytes more text after t e bad =
    let body = same_body kind m bytes more text after bad.rest Chunked t bad.reaches e in
    bad_chunk_excludes body.0.0 bad.rest more after body.0.1 (chunked_rest (print_chunked body.0.0) bad.rest more after t.body_text body.1 body.0.3) bad.bad

pub fault_excludes : (kind : Kind) (bytes : List ℕ) (fault : HttpFault) → fault ≢ Memory → IsFault kind bytes fault → (more : List ℕ) → HasNoText kind (bytes ++ more)
fault_excludes kind bytes Memory other is more m text rest t e = other refl
fault_excludes kind bytes BadHead other is more m text rest t e = bad_head_excludes kind m bytes more text rest t e is
fault_excludes kind bytes TooLarge other is more m text rest t e = too_large_excludes kind m bytes more text rest t e is
fault_excludes kind bytes BadLength other is more m text rest t e = bad_length_excludes kind m bytes more text rest t e is
fault_excludes kind bytes BadChunk other is more m text rest t e = bad_chunks_exclude kind m bytes more text rest t e is
fault_excludes kind bytes HasFailed other is more m text rest t e = is

-- no text is there yet
pub fault_has_no_text : (kind : Kind) (bytes : List ℕ) (fault : HttpFault) → fault ≢ Memory → IsFault kind bytes fault → HasNoText kind bytes
fault_has_no_text kind bytes fault other is = subst (HasNoText kind) (append-nil bytes) (fault_excludes kind bytes fault other is [])

pub waiting_has_no_text : (kind : Kind) (bytes : List ℕ) → IsWaiting kind bytes → HasNoText kind bytes
waiting_has_no_text kind bytes (waiting.head few unended) m text rest t e = unended.none t.head (t.body_text ++ rest) (text_head kind m text rest bytes t e)
waiting_has_no_text kind bytes (waiting.body n tail at fits few) m text rest t e =
    let body = same_body kind m bytes [] text rest tail (Fixed n) t at (append-nil bytes ∙ e) in
    omega (arith, few, body.0.0, ap length body.0.1, ap length (sym (append-nil tail) ∙ body.1), length-append t.body_text rest)
waiting_has_no_text kind bytes (waiting.chunks tail at lacks) m text rest t e =
    let body = same_body kind m bytes [] text rest tail Chunked t at (append-nil bytes ∙ e) in
    lacks_excludes body.0.0 tail rest body.0.1 (sym (append-nil tail) ∙ chunked_rest (print_chunked body.0.0) tail [] rest t.body_text body.1 body.0.3) lacks
