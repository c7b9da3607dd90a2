use Rattle.std.proofs.Common.{ap, ◌∙◌}
use Rattle.fed_http.specs.XMatrixSigning.{signed_text}
use Rattle.fed_inbox.proofs.Incomings.{signed_read}
use Rattle.fed_inbox.proofs.laws.signed_requests_pass.Goals as goal

pub returns-clause-read : goal.returns-clause-read
returns-clause-read g c = signed_read

pub returns-clause-signed : goal.returns-clause-signed
returns-clause-signed g c = λ keys sent own.
    ap (λ name. g.K.Keys.checks keys name (g.K.Keys.own_key keys) (signed_text sent) (g.K.Keys.own_signature keys (signed_text sent))) own ∙ g.met.K.Keys.signs keys (signed_text sent)
