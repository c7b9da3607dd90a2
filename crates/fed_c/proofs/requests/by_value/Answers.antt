use Rattle.std.proofs.Common.{◌<◌, Ok, length, ap, sym, subst, ◌∙◌}
use Rattle.fed_http.proofs.SignedTexts.{canonical_some}
use Rattle.fed_http.specs.XMatrixSigning.{Signable}
use Rattle.fed_c.specs.Requests.{with_content}
use Rattle.fed_c.specs.Texts.{of_value}
use Rattle.fed_c.proofs.requests.by_value.Goals as goal

pub returns-clause-ok : goal.returns-clause-ok
returns-clause-ok c =
    let json = c.in_ok-json.json in
    let text = c.deref.ensures.value ∙ c.in_ok-content.ensures.exact in
    let some = subst (λ t. 0 < length t) (sym text) (canonical_some json c.in_ok-content.ensures.profile.whole) in
    let asked : Signable = record { method = c.args.method.now; target = c.args.target.now; origin = c.args.origin.now; destination = c.args.destination.now; content = c.args.content.now } in
    ap (of_value (with_content asked)) c.in_ok-json.ensures.ok ∙ ap Ok (sym (c.in_ok-request_text.ensures.exact json some text))
