-- The text of a signature.
use Rattle.std.proofs.Common.{◌≡◌, ℕ, List, length, Bool, true, false, cond, nat_eq, Option, Some, None, option_and_then, MatchOption, Ok, Err, arith, refl, sym, ◌∙◌, ap, subst}
use Rattle.std.proofs.lemmas.Bool.Decides.{nat_tests}
use Rattle.std.proofs.lemmas.List.{append-nil}
use Rattle.std.specs.Result.{result_ok}
use Rattle.std.specs.declared.result.Result.{Result}
use Rattle.base64.specs.declared.decode.DecodeError.{DecodeError}
use Rattle.base64.specs.Decode.{decode_outcome}
use Rattle.base64.specs.GeneralPurpose.{IsBytes, decode_of, decoded_of, decoded_bytes_of}
use Rattle.base64.specs.Engines.{standard_no_pad}
use Rattle.base64.proofs.EngineFacts.{decode_of_strict, decode_of-encode_of}
use Rattle.base64.proofs.RoundTrip.{length-encode_symbols}
use Rattle.fed_event.proofs.DecodedSignatures.{of_64}
use Rattle.fed_http.specs.XMatrix.{IsSignatureText}

abbrev pub signature_in : List ℕ → Option (List ℕ)
signature_in text = option_and_then of_64 (decoded_of standard_no_pad text)

pub length-text : (signature text : List ℕ) → IsSignatureText signature text → length text ≡ 86
length-text signature text is =
    ap length (is.text_is ∙ append-nil _) ∙ length-encode_symbols standard_no_pad.encode_table signature ∙ rw is.count

pub signature_in-text : (signature text : List ℕ) → IsSignatureText signature text → signature_in text ≡ Some signature
unfolding decoded_of
signature_in-text signature text is =
    let decodes : decode_of standard_no_pad text ≡ Ok signature = ap (decode_of standard_no_pad) is.text_is ∙ decode_of-encode_of standard_no_pad signature refl is.bytes in
    ap (λ r. option_and_then of_64 (result_ok r)) decodes ∙ ap (λ n. cond (nat_eq n 64) (Some signature) None) is.count

sized : (bytes signature : List ℕ) → of_64 bytes ≡ Some signature → (bytes ≡ signature) × (length signature ≡ 64)
sized bytes signature h = by (nat_eq (length bytes) 64) refl h
  where
    by : (b : Bool) → nat_eq (length bytes) 64 ≡ b → cond b (Some bytes) None ≡ Some signature → (bytes ≡ signature) × (length signature ≡ 64)
    by true is e =
        let same : bytes ≡ signature = cc in
        let size : length bytes ≡ 64 = grind (arith, nat_tests) in
        (same, ap length (sym same) ∙ size)
    by false is e = absurd (cc)

outcome : (x : Option DecodeError) (d b : List ℕ) → decode_outcome x d ≡ Ok b → d ≡ b
outcome None d b h = cc
outcome (Some e) d b h = absurd (cc)

of_result : (r : Result (List ℕ) DecodeError) (signature : List ℕ) → option_and_then of_64 (result_ok r) ≡ Some signature → (r ≡ Ok signature) × (length signature ≡ 64)
of_result (Ok bytes) signature h = let parts = sized bytes signature h in (ap Ok parts.0, parts.1)
of_result (Err e) signature h = absurd (cc)

pub text-signature_in : (signature text : List ℕ) → IsBytes text → IsBytes (decoded_bytes_of standard_no_pad text) → signature_in text ≡ Some signature → IsSignatureText signature text
unfolding decoded_of
text-signature_in signature text bytes decoded h =
    let parts = of_result (decode_of standard_no_pad text) signature h in
    record {
      bytes = subst IsBytes (outcome _ (decoded_bytes_of standard_no_pad text) signature parts.0) decoded;
      count = parts.1;
      text_is = decode_of_strict standard_no_pad text signature (refl, refl) bytes parts.0;
    }

pub no_signature : (text : List ℕ) → signature_in text ≡ None → (signature : List ℕ) → IsSignatureText signature text → ⊥
no_signature text none signature is = absurd (cc (none, signature_in-text signature text is))

-- an answer that is what the text decodes to
pub answered : (text : List ℕ) (answer : Option (List ℕ)) → IsBytes text → IsBytes (decoded_bytes_of standard_no_pad text) → answer ≡ signature_in text
    → MatchOption answer ((signature : List ℕ) → IsSignatureText signature text → ⊥) (λ signature. IsSignatureText signature text)
answered text None bytes decoded is = no_signature text (sym is)
answered text (Some signature) bytes decoded is = text-signature_in signature text bytes decoded (sym is)
