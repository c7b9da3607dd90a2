use Rattle.std.proofs.Common.{◌++◌, ◌∷◌, ℕ, List, map, Option, Some, None, IfNone, Bor, arith, sym, ap, subst, ◌∙◌}
use Rattle.fed_http.specs.XMatrixParts.{StartsWithScheme}
use Rattle.std.proofs.lemmas.Bool.{false≢true}
use Rattle.std.proofs.lemmas.Str.Pattern.{split_parts}
use Rattle.fed_http.proofs.ParameterLists.{scheme_behind, no_scheme}
use Rattle.std.specs.Char.{to_ascii_lowercase}
use Rattle.fed_http.proofs.x_matrix.separator.behind_scheme.Goals as goal

pub returns-in_err-scheme-clause-none : goal.returns-in_err-scheme-clause-none
returns-in_err-scheme-clause-none c =
    let text = c.args.text.now in
    let lacks = split_parts 32 text None c.in_err-scheme.ensures.cases (omega arith) in
    let P : Option (Bor (List ℕ)) → Type 0 = λ r. IfNone r ((other : List ℕ) → StartsWithScheme other text → ⊥) in
    subst P (sym c.from_residual.ensures) (λ other is. no_scheme text other lacks is)

pub returns-then-not-eq_ignore_ascii_case-clause-none : goal.returns-then-not-eq_ignore_ascii_case-clause-none
returns-then-not-eq_ignore_ascii_case-clause-none c =
    let text = c.args.text.now in
    let scheme = c.in_ok-scheme.scheme.now in
    let rest = c.in_ok-scheme.rest.now in
    let cut = split_parts 32 text (Some (c.in_ok-scheme.scheme, c.in_ok-scheme.rest)) c.in_ok-scheme.ensures.cases (omega arith) in
    λ other is.
    let same = scheme_behind text scheme rest other cut.0 cut.1 is in
    false≢true (sym c.if-not-eq_ignore_ascii_case.true ∙ c.eq_ignore_ascii_case.ensures.test.1 (ap (map to_ascii_lowercase) same.0 ∙ is.scheme_is))

pub returns-clause-sound : goal.returns-clause-sound
returns-clause-sound c =
    let text = c.args.text.now in
    let scheme = c.in_ok-scheme.scheme.now in
    let cut = split_parts 32 text (Some (c.in_ok-scheme.scheme, c.in_ok-scheme.rest)) c.in_ok-scheme.ensures.cases (omega arith) in
    let skips = c.without_spaces.ensures in (
      record {
        scheme = scheme;
        spaces = skips.run;
        scheme_is = c.eq_ignore_ascii_case.ensures.test.0 c.if-not-eq_ignore_ascii_case.false;
        spaces_are = skips.run_is;
        text_is = cut.0 ∙ ap (λ t. scheme ++ 32 ∷ t) skips.text_is;
      },
      skips.stops,
    )
