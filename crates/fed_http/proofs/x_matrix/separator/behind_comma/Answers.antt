use Rattle.std.proofs.Common.{◌++◌, ℕ, List, Option, Some, None, IfNone, Bor, arith, sym, subst}
use Rattle.fed_http.specs.XMatrixParts.{StartsWithComma}
use Rattle.std.proofs.lemmas.Str.Pattern.{strip_prefix_char}
use Rattle.fed_http.proofs.ParameterLists.{comma_behind, comma_of}
use Rattle.fed_http.proofs.x_matrix.separator.behind_comma.Goals as goal

pub returns-in_err-rest-clause-none : goal.returns-in_err-rest-clause-none
returns-in_err-rest-clause-none c =
    let text = c.args.text.now in
    let rest = c.without_white.result.now in
    let bare = strip_prefix_char 44 rest None c.in_err-rest.ensures.cases (omega arith) in
    let P : Option (Bor (List ℕ)) → Type 0 = λ r. IfNone r ((other : List ℕ) → StartsWithComma other text → ⊥) in
    subst P (sym c.from_residual.ensures) (λ other is. bare (is.behind ++ other) (comma_behind text rest other c.without_white.ensures is))

pub returns-clause-sound : goal.returns-clause-sound
returns-clause-sound c =
    let text = c.args.text.now in
    let rest = c.without_white.result.now in
    let comma = strip_prefix_char 44 rest (Some c.in_ok-rest.rest) c.in_ok-rest.ensures.cases (omega arith) in
    (comma_of text rest c.in_ok-rest.rest.now c.without_white-2.result.now c.without_white.ensures comma c.without_white-2.ensures, c.without_white-2.ensures.stops, c.without_white-2.utf8)
