use Rattle.std.proofs.Common.{◌++◌, ◌∷◌, Some, None, arith, sym, ap, subst, ◌∙◌}
use Rattle.std.proofs.lemmas.Bool.{false≢true}
use Rattle.std.proofs.lemmas.Str.Pattern.{split_parts}
use Rattle.fed_http.specs.XMatrix.{IsRunOf, is_name_char}
use Rattle.fed_http.proofs.Parameters.{behind_name, run_from_test, test_from_run, no_equals}
use Rattle.fed_http.proofs.x_matrix.parameter.first_parameter.Goals as goal

pub returns-in_err-name-clause-complete : goal.returns-in_err-name-clause-complete
returns-in_err-name-clause-complete c =
    let text = c.args.text.now in
    let lacks = split_parts 61 text None c.in_err-name.ensures.cases (omega arith) in
    λ first value rest is end. absurd (no_equals text first value rest lacks is)

pub returns-then-not-is_name-clause-complete : goal.returns-then-not-is_name-clause-complete
returns-then-not-is_name-clause-complete c =
    let text = c.args.text.now in
    let name = c.in_ok-name.name.now in
    let cut = split_parts 61 text (Some (c.in_ok-name.name, c.in_ok-name.behind)) c.in_ok-name.ensures.cases (omega arith) in
    λ first value rest is end.
    let same = behind_name name c.in_ok-name.behind.now text first value rest cut.0 cut.1 is in
    false≢true (sym c.if-not-is_name.true ∙ test_from_run is_name_char name c.is_name.result c.is_name.ensures (subst (IsRunOf is_name_char) (sym same.0) is.name_is))

pub returns-in_err-value-clause-complete : goal.returns-in_err-value-clause-complete
returns-in_err-value-clause-complete c =
    let text = c.args.text.now in
    let name = c.in_ok-name.name.now in
    let cut = split_parts 61 text (Some (c.in_ok-name.name, c.in_ok-name.behind)) c.in_ok-name.ensures.cases (omega arith) in
    λ first value rest is end.
    let same = behind_name name c.in_ok-name.behind.now text first value rest cut.0 cut.1 is in
    absurd (c.in_err-value.ensures.complete value rest same.1 end)

pub returns-clause-sound : goal.returns-clause-sound
returns-clause-sound c =
    let text = c.args.text.now in
    let name = c.in_ok-name.name.now in
    let cut = split_parts 61 text (Some (c.in_ok-name.name, c.in_ok-name.behind)) c.in_ok-name.ensures.cases (omega arith) in
    let value = c.in_ok-value.ensures.sound in
    record {
      written = value.written;
      name_is = run_from_test is_name_char name c.is_name.result c.is_name.ensures c.if-not-is_name.false;
      value_is = value.value_is;
      text_is = cut.0 ∙ ap (λ t. name ++ 61 ∷ t) value.text_is;
    }

pub returns-clause-complete : goal.returns-clause-complete
returns-clause-complete c =
    let text = c.args.text.now in
    let name = c.in_ok-name.name.now in
    let cut = split_parts 61 text (Some (c.in_ok-name.name, c.in_ok-name.behind)) c.in_ok-name.ensures.cases (omega arith) in
    λ first value rest is end.
    let same = behind_name name c.in_ok-name.behind.now text first value rest cut.0 cut.1 is in
    let found = c.in_ok-value.ensures.complete value rest same.1 end in
    (same.0, found.0, found.1)
