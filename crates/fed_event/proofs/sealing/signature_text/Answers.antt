use Rattle.std.proofs.Common.{◌≡◌, ℕ, List, length, Some, OnOk, arith, refl, subst}
use Rattle.serde_json.specs.Data.{string}
use Rattle.base64.specs.Engines.{standard_no_pad}
use Rattle.base64.specs.GeneralPurpose.{encode_of}
use Rattle.fed_event.specs.Signatures.{signature_in}
use Rattle.fed_event.proofs.DecodedSignatures.{decoded-encoded}
use Rattle.fed_event.proofs.sealing.signature_text.Goals as goal

pub returns-clause-decodes : goal.returns-clause-decodes
returns-clause-decodes g c =
    let bytes = c.sign-signature.result in
    let size : length bytes ≡ 64 = omega arith in
    let decodes = decoded-encoded c.encode.result bytes size c.encode.ensures.text (c.encode.ensures.round_trip refl) in
    let P : List ℕ → Type 0 = λ b. OnOk c.encode.result (signature_in (string (encode_of standard_no_pad b)) ≡ Some b) in
    subst P c.sign-signature.ensures decodes
