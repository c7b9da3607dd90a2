use Rattle.std.proofs.Common.{◌≡◌, ◌∷◌, Some, None, arith}
use Rattle.std.proofs.lemmas.Str.Pattern.{strip_prefix_char}
use Rattle.fed_http.proofs.Parameters.{quoted_sound, quoted_complete, plain_sound, plain_complete}
use Rattle.fed_http.proofs.x_matrix.parameter.first_value.Goals as goal

pub returns-in-Some-clause-sound : goal.returns-in-Some-clause-sound
returns-in-Some-clause-sound c =
    let text = c.args.text.now in
    let inner = c.in-Some.inner.now in
    let starts : text ≡ 34 ∷ inner = strip_prefix_char 34 text (Some c.in-Some.inner) c.in-Some.ensures.cases (omega arith) in
    quoted_sound c.first_quoted.result text inner starts c.first_quoted.ensures.sound

pub returns-in-Some-clause-complete : goal.returns-in-Some-clause-complete
returns-in-Some-clause-complete c =
    let text = c.args.text.now in
    let inner = c.in-Some.inner.now in
    let starts : text ≡ 34 ∷ inner = strip_prefix_char 34 text (Some c.in-Some.inner) c.in-Some.ensures.cases (omega arith) in
    λ value rest is end. quoted_complete c.first_quoted.result text inner starts c.first_quoted.ensures.sound c.first_quoted.ensures.none value rest is

pub returns-in-None-clause-sound : goal.returns-in-None-clause-sound
returns-in-None-clause-sound c = plain_sound c.first_plain.result c.args.text.now c.first_plain.ensures.sound

pub returns-in-None-clause-complete : goal.returns-in-None-clause-complete
returns-in-None-clause-complete c =
    let text = c.args.text.now in
    let bare = strip_prefix_char 34 text None c.in-None.ensures.cases (omega arith) in
    plain_complete c.first_plain.result text bare c.first_plain.ensures.sound c.first_plain.ensures.none
