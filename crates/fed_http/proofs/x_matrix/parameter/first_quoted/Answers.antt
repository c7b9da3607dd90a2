use Rattle.std.proofs.Common.{◌≡◌, ◌+◌, ◌++◌, ◌∷◌, Some, length, take, drop, false, arith, refl, sym, ap, ◌∙◌}
use Rattle.std.proofs.lemmas.List.{length-take-le}
use Rattle.std.proofs.lemmas.Str.{IsCharBoundary-before_ascii, IsCharBoundary-after_ascii}
use Rattle.fed_http.specs.XMatrixParts.{quote_index}
use Rattle.fed_http.proofs.Runs.{front_range}
use Rattle.fed_http.proofs.Quotes.{quote_at, cut_at}
use Rattle.fed_http.proofs.x_matrix.parameter.first_quoted.Goals as goal

pub range-requires-clause-end_boundary : goal.range-requires-clause-end_boundary
range-requires-clause-end_boundary c =
    let text = c.args.text.now in
    let n = c.in_ok-end.end in
    let found : quote_index false text ≡ Some n = sym (ap (quote_index false) c.as_bytes.ensures.value) ∙ sym c.in_ok-end.ensures in
    let at = quote_at false text n found in
    IsCharBoundary-before_ascii text n at.within (omega (arith, at.quote))

pub range_from-requires : goal.range_from-requires
range_from-requires c =
    let text = c.args.text.now in
    let n = c.in_ok-end.end in
    let found : quote_index false text ≡ Some n = sym (ap (quote_index false) c.as_bytes.ensures.value) ∙ sym c.in_ok-end.ensures in
    let at = quote_at false text n found in
    λ _. IsCharBoundary-after_ascii text n c.utf8.text at.within (omega (arith, at.quote))

pub returns-clause-sound : goal.returns-clause-sound
returns-clause-sound c =
    let text = c.args.text.now in
    let n = c.in_ok-end.end in
    let found : quote_index false text ≡ Some n = sym (ap (quote_index false) c.as_bytes.ensures.value) ∙ sym c.in_ok-end.ensures in
    let at = quote_at false text n found in
    let size : length (take n text) ≡ n = length-take-le n text (omega (arith, at.within)) in
    let inner : c.range.result.now ≡ take n text = c.range.ensures.value ∙ front_range n text in
    (refl, found ∙ ap Some (sym (ap length inner ∙ size)), cut_at text n at ∙ ap (λ t. t ++ 34 ∷ drop (n + 1) text) (sym inner) ∙ ap (λ t. c.range.result.now ++ 34 ∷ t) (sym c.range_from.ensures.value))
