use Rattle.std.proofs.Common.{◌≡◌, ◌+◌, ◌++◌, ◌∷◌, length, take, arith, sym, ap, ◌∙◌, length-append, false}
use Rattle.std.proofs.lemmas.List.{length-take-le}
use Rattle.fed_http.specs.XMatrixParts.{unescaped}
use Rattle.fed_http.proofs.x_matrix.parameter.unescape.Goals as goal

pub returns-then-count-eq-SIGNATURE_TEXT : goal.returns-then-count-eq-SIGNATURE_TEXT
returns-then-count-eq-SIGNATURE_TEXT c =
    let done = take c.loop-byte.count c.loop-byte.buffer in
    let rest = unescaped false c.in-Some.rest.now in
    let whole : length (unescaped false c.args.text.now) ≡ length done + length (c.in-Some.byte ∷ rest) =
    ap length (sym c.loop-byte.invariant.text ∙ ap (λ t. done ++ t) c.in-Some.ensures.value) ∙ length-append done (c.in-Some.byte ∷ rest) in
    let size : length done ≡ c.loop-byte.count = length-take-le c.loop-byte.count c.loop-byte.buffer (omega (arith, c.loop-byte.invariant.room, c.loop-byte.invariant.size)) in
    omega (arith, whole, size, c.if-count-eq-SIGNATURE_TEXT.true)
