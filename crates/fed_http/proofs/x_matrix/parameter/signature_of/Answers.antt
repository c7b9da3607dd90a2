use Rattle.std.proofs.Common.{arith, ◌≡◌, ℕ, List, ◌++◌, length, drop, replicate, Option, None, OnOk, MatchOption, refl, sym, ◌∙◌, ap, subst}
use Rattle.base64.specs.Engines.{standard_no_pad}
use Rattle.base64.specs.GeneralPurpose.{IsBytes, decoded_bytes_of, decode_slice_of}
use Rattle.fed_event.proofs.DecodedSignatures.{decoded-slice, taken, taken-none, is_ok, length-decoded, taken-written}
use Rattle.fed_http.specs.XMatrix.{IsSignatureText}
use Rattle.fed_http.proofs.Signatures.{signature_in, answered, no_signature}
use Rattle.fed_http.proofs.x_matrix.parameter.signature_of.Goals as goal

pub returns-in_err-count : goal.returns-in_err-count
returns-in_err-count c =
    let text = c.args.text.now in
    let bytes = decoded_bytes_of standard_no_pad text in
    let answer : c.decode_slice.result ≡ decode_slice_of standard_no_pad text 64 = c.decode_slice.ensures.value in
    let none : signature_in text ≡ None = decoded-slice standard_no_pad text ∙ ap (λ r. taken r bytes) (sym answer) ∙ taken-none c.decode_slice.result bytes (sym c.ok.ensures.value ∙ c.in_err-count.was) in
    let P : Option (List ℕ) → Type 0 = λ r. MatchOption r ((signature : List ℕ) → IsSignatureText signature text → ⊥) (λ signature. IsSignatureText signature text) in
    subst P (sym c.from_residual.ensures) (no_signature text none)

pub returns : goal.returns
returns c =
    let text = c.args.text.now in
    let bytes = decoded_bytes_of standard_no_pad text in
    let answer : c.decode_slice.result ≡ decode_slice_of standard_no_pad text 64 = c.decode_slice.ensures.value in
    let ok = is_ok c.decode_slice.result c.in_ok-count.count (sym c.ok.ensures.value ∙ c.in_ok-count.was) in
    let size = length-decoded standard_no_pad text c.in_ok-count.count (sym answer ∙ ok) in
    let zeros : List ℕ = replicate 64 0 in
    let new = c.decode_slice.new.output in
    let written = subst (λ r. OnOk r (new ≡ bytes ++ drop (length bytes) zeros)) ok c.decode_slice.ensures.written in
    let whole : c.then_some.result ≡ signature_in text = c.then_some.ensures ∙ taken-written c.in_ok-count.count zeros new bytes size refl written ∙ sym (decoded-slice standard_no_pad text ∙ ap (λ r. taken r bytes) (sym answer ∙ ok)) in
    answered text c.then_some.result (λ i. omega (arith, c.type_inv.text i)) (subst (λ r. OnOk r (IsBytes bytes)) ok c.decode_slice.ensures.bytes) whole
