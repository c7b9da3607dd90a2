use Rattle.std.proofs.Common.{◌<◌, length, subst, sym, ◌∙◌}
use Rattle.fed_json.specs.CanonicalText.{IsCanonicalText}
use Rattle.fed_http.specs.XMatrixSigning.{SignableJson, Signable, signed_value}
use Rattle.fed_http.proofs.SignedTexts.{signed_parts, signed_is, signed_canonical, canonical_some}
use Rattle.fed_http.proofs.x_matrix.signing.request_text.Goals as goal

pub returns-clause-bytes : goal.returns-clause-bytes
returns-clause-bytes c =
    let s : Signable = record { method = c.args.method.now; target = c.args.target.now; origin = c.args.origin.now; destination = c.args.destination.now; content = c.args.content.now } in
    signed_parts s _ _ _ _ _ _ _ _ c.new-text.ensures.items c.in_ok-push.ensures.items c.in_ok-push_content.ensures
    c.in_ok-push_member.ensures c.in_ok-push_member-2.ensures c.in_ok-push_member-3.ensures c.in_ok-push_member-4.ensures c.in_ok-push-2.ensures.items

pub returns-clause-exact : goal.returns-clause-exact
returns-clause-exact c = λ v some is.
    let asked : SignableJson = record { method = c.args.method.now; target = c.args.target.now; origin = c.args.origin.now; destination = c.args.destination.now; content = v } in
    returns-clause-bytes c ∙ signed_is asked c.args.content.now some is

pub returns-clause-canonical : goal.returns-clause-canonical
returns-clause-canonical c = λ v profile is.
    let asked : SignableJson = record { method = c.args.method.now; target = c.args.target.now; origin = c.args.origin.now; destination = c.args.destination.now; content = v } in
    let some : 0 < length c.args.content.now = subst (λ t. 0 < length t) (sym is) (canonical_some v profile.whole) in
    subst (IsCanonicalText (signed_value asked)) (sym (returns-clause-exact c v some is)) (signed_canonical asked profile)
