use Rattle.std.proofs.Common.{ap, ◌∙◌}
use Rattle.fed_http.specs.XMatrixSigning.{signed_text}
use Rattle.fed_http.proofs.x_matrix.laws.signed_requests_check.Goals as goal

pub returns : goal.returns
returns g c = λ keys asked own.
    ap (λ name. g.K.Keys.checks keys name (g.K.Keys.own_key keys) (signed_text asked) (g.K.Keys.own_signature keys (signed_text asked))) own ∙ g.met.K.Keys.signs keys (signed_text asked)
