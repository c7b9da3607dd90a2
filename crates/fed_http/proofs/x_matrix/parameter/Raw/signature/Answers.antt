use Rattle.std.proofs.Common.{◌≡◌, ℕ, List, ◌<◌, length, Option, MatchOption, arith, sym, ap, subst, ◌∙◌, true, false}
use Rattle.fed_http.specs.XMatrix.{IsSignatureText}
use Rattle.fed_http.specs.XMatrixParts.{unescaped, value_of}
use Rattle.fed_http.proofs.Signatures.{length-text}
use Rattle.fed_http.proofs.Parameters.{value_in}
use Rattle.fed_http.proofs.x_matrix.parameter.Raw.signature.Goals as goal

pub returns-in_err-count : goal.returns-in_err-count
returns-in_err-count c =
    let raw = c.args.self in
    let long : 86 < length (unescaped false c.as_bytes-2.result.now) = c.in_err-count.ensures in
    let value : value_of raw ≡ unescaped false c.as_bytes-2.result.now = value_in raw true c.if-not-self.false ∙ ap (unescaped false) (sym c.as_bytes-2.ensures.value) in
    let size : length (value_of raw) ≡ length (unescaped false c.as_bytes-2.result.now) = ap length value in
    let P : Option (List ℕ) → Type 0 = λ r. MatchOption r ((signature : List ℕ) → IsSignatureText signature (value_of raw) → ⊥) (λ signature. IsSignatureText signature (value_of raw)) in
    subst P (sym c.from_residual.ensures) (λ signature is. let short : length (value_of raw) ≡ 86 = length-text signature (value_of raw) is in omega (arith, long, size, short))
