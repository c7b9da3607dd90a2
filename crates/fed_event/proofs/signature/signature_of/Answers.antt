use Rattle.std.proofs.Common.{◌≡◌, ℕ, List, ◌++◌, length, drop, replicate, Some, OnOk, refl, sym, ◌∙◌, ap, subst}
use Rattle.fed_json.specs.JsonRef.{seen}
use Rattle.base64.specs.Engines.{standard_no_pad}
use Rattle.base64.specs.GeneralPurpose.{decoded_bytes_of, decode_slice_of}
use Rattle.fed_event.proofs.DecodedSignatures.{taken, signature_in-text, taken-none, is_ok, length-decoded, taken-written}
use Rattle.fed_event.proofs.signature.signature_of.Goals as goal

pub returns-in_err-count : goal.returns-in_err-count
returns-in_err-count c =
    let text = c.as_bytes.result.now in
    let bytes = decoded_bytes_of standard_no_pad text in
    let answer : c.decode_slice.result ≡ decode_slice_of standard_no_pad text 64 = c.decode_slice.ensures.value in
    let whole = signature_in-text (seen c.args.value) text (ap Some c.as_bytes.ensures.value ∙ c.in_ok-text.ensures) in
    c.from_residual-in_err-count.ensures ∙ sym (whole ∙ ap (λ r. taken r bytes) (sym answer) ∙ taken-none c.decode_slice.result bytes (sym c.ok.ensures.value ∙ c.in_err-count.was))

pub returns : goal.returns
returns c =
    let text = c.as_bytes.result.now in
    let bytes = decoded_bytes_of standard_no_pad text in
    let answer : c.decode_slice.result ≡ decode_slice_of standard_no_pad text 64 = c.decode_slice.ensures.value in
    let whole = signature_in-text (seen c.args.value) text (ap Some c.as_bytes.ensures.value ∙ c.in_ok-text.ensures) in
    let ok = is_ok c.decode_slice.result c.in_ok-count.count (sym c.ok.ensures.value ∙ c.in_ok-count.was) in
    let size = length-decoded standard_no_pad text c.in_ok-count.count (sym answer ∙ ok) in
    let zeros : List ℕ = replicate 64 0 in
    let new = c.decode_slice.new.output in
    let written = subst (λ r. OnOk r (new ≡ bytes ++ drop (length bytes) zeros)) ok c.decode_slice.ensures.written in
    c.then_some.ensures ∙ taken-written c.in_ok-count.count zeros c.decode_slice.new.output bytes size refl written ∙ sym (whole ∙ ap (λ r. taken r bytes) (sym answer ∙ ok))
