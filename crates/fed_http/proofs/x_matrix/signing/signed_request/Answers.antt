use Rattle.std.proofs.Common.{length, refl, ap, ◌∙◌}
use Rattle.fed_http.specs.XMatrixSigning.{SignableJson, Signable, sent_fields, header_for}
use Rattle.fed_http.specs.XMatrixWriting.{header_text}
use Rattle.fed_http.proofs.SignedTexts.{request_made, request_is}
use Rattle.fed_http.proofs.x_matrix.signing.signed_request.Goals as goal

pub returns-clause-signed : goal.returns-clause-signed
returns-clause-signed g c =
    let keys = c.args.keys.now in
    let key = g.K.Keys.own_key keys in
    let sign = g.K.Keys.own_signature keys in
    let s : Signable = record { method = c.args.method.now; target = c.args.target.now; origin = g.K.Keys.own_name keys; destination = c.args.destination.now; content = c.args.content.items } in
    let body = c.as_slice-body.ensures.value in
    let parts = ap (λ b. header_for (record { method = c.args.method.now; target = c.args.target.now; origin = g.K.Keys.own_name keys; destination = c.args.destination.now; content = b }) key sign) body in
    let header = c.deref.ensures.value ∙ c.in_ok-header.ensures.exact ∙ ap header_text (c.in_ok-sign.ensures.signed ∙ parts) in
    let fields = c.in_ok-fields.ensures ∙ ap (λ t. sent_fields s.destination t (length c.as_slice-body.result.now)) header ∙ ap (λ t. sent_fields s.destination (header_text (header_for s key sign)) (length t)) body in
    c.new.ensures ∙ request_made s key sign _ _ _ _ c.in_ok-method.ensures.ok c.in_ok-target.ensures.ok fields refl

pub returns-clause-of_value : goal.returns-clause-of_value
returns-clause-of_value g c = λ v some is.
    let keys = c.args.keys.now in
    let asked : SignableJson = record { method = c.args.method.now; target = c.args.target.now; origin = g.K.Keys.own_name keys; destination = c.args.destination.now; content = v } in
    returns-clause-signed g c ∙ request_is asked c.args.content.items (g.K.Keys.own_key keys) (g.K.Keys.own_signature keys) some is
