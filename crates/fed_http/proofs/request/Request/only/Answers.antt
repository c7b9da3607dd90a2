use Rattle.std.proofs.Common.{◌≡◌, ◌+◌, ◌++◌, [], drop, refl, sym, ap, ◌∙◌, rules}
use Rattle.std.proofs.lemmas.Bool.{false≢true}
use Rattle.fed_http.specs.Framing.{values_of}
use Rattle.fed_http.proofs.Values.{found_list, one_more, as_before, two_found}
use Rattle.fed_http.proofs.OnlyValues.{named_there, unnamed_there, found_only, not_only, none_left}
use Rattle.fed_http.proofs.request.Request.only.Goals as goal
use Rattle.fed_http.proofs.request.Request.only.Goals.{then-eq_ignore_ascii_case+else-is_some, else-eq_ignore_ascii_case}

pub returns-then-is_some : goal.returns-then-is_some
returns-then-is_some c =
    let name = c.args.name.now in
    let fields = c.deref-field-items.result.now in
    let i = c.loop-field.field-index in
    let f = c.field-item.result in
    let hits = named_there name fields i f c.loop-field-test.true c.field-item.is (ap (λ n. Rattle.std.proofs.Common.map Rattle.std.specs.Char.to_ascii_lowercase n) (sym c.name.ensures) ∙ c.if-eq_ignore_ascii_case.ensures.test.0 refl) in
    not_only (values_of name c.args.self.now.fields)
    (two_found c.loop-field.found f.1 (values_of name (drop i fields)) (values_of name (drop (i + 1) fields)) (values_of name c.args.self.now.fields) (sym c.if-is_some.ensures) hits
    (c.loop-field.invariant ∙ ap (values_of name) (c.deref-field-items.ensures.value ∙ search rules)))

pub loop-field-preserved : goal.loop-field-preserved
loop-field-preserved c =
    let name = c.args.name.now in
    let fields = c.deref-field-items.result.now in
    let i = c.loop-field.field-index in
    let f = c.field-item.result in
    let rest = values_of name (drop i fields) in
    let more = values_of name (drop (i + 1) fields) in
    let all = values_of name fields in
    elim c.if-eq_ignore_ascii_case.branch [
      | then-eq_ignore_ascii_case+else-is_some w ↦
          one_more c.loop-field.found c.if-eq_ignore_ascii_case.found w.value.result f.1 rest more all (sym w.if-is_some.ensures) w.found-is w.value.ensures
          (named_there name fields i f c.loop-field-test.true c.field-item.is (ap (λ n. Rattle.std.proofs.Common.map Rattle.std.specs.Char.to_ascii_lowercase n) (sym c.name.ensures) ∙ w.if-eq_ignore_ascii_case.ensures.test.0 refl)) c.loop-field.invariant
      | else-eq_ignore_ascii_case w ↦
          as_before c.loop-field.found c.if-eq_ignore_ascii_case.found rest more all w.found-is
          (unnamed_there name fields i f c.loop-field-test.true c.field-item.is (λ same. false≢true (w.if-eq_ignore_ascii_case.ensures.test.1 (ap (λ n. Rattle.std.proofs.Common.map Rattle.std.specs.Char.to_ascii_lowercase n) c.name.ensures ∙ same)))) c.loop-field.invariant
    ]

pub returns : goal.returns
returns c =
    let name = c.args.name.now in
    let fields = c.deref-field-items.result.now in
    found_only c.loop-field.found (values_of name c.args.self.now.fields)
    (ap (λ vs. found_list c.loop-field.found ++ vs) (sym (none_left name fields c.loop-field.field-index c.loop-field-test.false))
    ∙ c.loop-field.invariant ∙ ap (values_of name) (c.deref-field-items.ensures.value ∙ search rules))
