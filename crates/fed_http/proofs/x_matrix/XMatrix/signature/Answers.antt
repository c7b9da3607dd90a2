use Rattle.std.proofs.Common.{◌≡◌, length, subst}
use Rattle.base64.specs.GeneralPurpose.{IsBytes}
use Rattle.fed_http.specs.XMatrix.{XMatrixValue}
use Rattle.fed_http.proofs.x_matrix.XMatrix.signature.Goals as goal

pub returns-clause-bytes : goal.returns-clause-bytes
returns-clause-bytes c = subst (λ (h : XMatrixValue). IsBytes h.signature) c.self.view_is c.self.invariant.0

pub returns-clause-count : goal.returns-clause-count
returns-clause-count c = subst (λ (h : XMatrixValue). length h.signature ≡ 64) c.self.view_is c.self.invariant.1
