use Rattle.std.proofs.Common.{◌≡◌, ◌<◌, ℕ, List, Bool, length, subst, sym, ◌∙◌}
use Rattle.std.proofs.lemmas.Result.{IfOk-weaker}
use Rattle.fed_http.specs.XMatrixSigning.{SignableJson, signed_text}
use Rattle.fed_http.proofs.SignedTexts.{canonical_some}
use Rattle.fed_inbox.proofs.vouching.SignedVouch.vouch.Goals as goal

pub returns : goal.returns
returns g c =
    let content = c.in_ok-content.content.items in
    let is = c.in_ok-content.ensures.exact in
    let some : 0 < length content = subst (λ t. 0 < length t) (sym is) (canonical_some c.args.body.now c.canonical.ensures.profile.whole) in
    let bytes = c.deref.ensures.value in
    let signed = c.is_signed.ensures.of_value c.args.body.now (subst (λ t. 0 < length t) (sym bytes) some) (bytes ∙ is) in
    let own = c.args.self.now.own.now in
    let header = c.args.self.now.header.now in
    let asked : List ℕ → List ℕ → SignableJson = λ method target. record { method = method; target = target; origin = header.origin; destination = own; content = c.args.body.now } in
    let checks : List ℕ → List ℕ → Bool = λ method target. g.K.Keys.checks c.args.self.now.keys.now header.origin header.key (signed_text (asked method target)) header.signature in
    let same : checks c.method.result.now c.target.result.now ≡ checks c.args.self.now.request.now.method c.args.self.now.request.now.target = λ i. checks (c.method.ensures i) (c.target.ensures i) in
    IfOk-weaker c.is_signed.result _ _ (λ checked is_checked. is_checked ∙ same) signed
