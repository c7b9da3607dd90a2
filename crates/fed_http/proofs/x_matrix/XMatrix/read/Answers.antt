use Rattle.std.proofs.Common.{ℕ, List, Option, MatchOption, subst, ◌∙◌}
use Rattle.fed_http.specs.declared.x_matrix.x_matrix_ref.XMatrixRef.{XMatrixRef}
use Rattle.fed_http.specs.XMatrix.{XMatrixValue, IsXMatrix}
use Rattle.fed_http.specs.XMatrixParts.{said_by}
use Rattle.fed_http.proofs.Headers.{same_header}
use Rattle.fed_http.proofs.x_matrix.XMatrix.read.Goals as goal

abbrev IsAnswer : List ℕ → Option XMatrixRef → Type 0
IsAnswer text r = MatchOption r ((h : XMatrixValue) → IsXMatrix text h → ⊥) (λ said. IsXMatrix text (said_by said))

pub returns-in_err-keep-clause-refuses : goal.returns-in_err-keep-clause-refuses
returns-in_err-keep-clause-refuses c = λ none.
    let is = subst (IsAnswer c.args.text.now) c.in_ok-said.ensures.ok_part c.of.ensures in
    absurd (none (said_by c.in_ok-said.said) is)

pub returns-clause-refuses : goal.returns-clause-refuses
returns-clause-refuses c = λ none.
    let is = subst (IsAnswer c.args.text.now) c.in_ok-said.ensures.ok_part c.of.ensures in
    absurd (none (said_by c.in_ok-said.said) is)

pub returns-clause-only : goal.returns-clause-only
returns-clause-only c = λ h is.
    let said = subst (IsAnswer c.args.text.now) c.in_ok-said.ensures.ok_part c.of.ensures in
    c.in_ok-keep.ensures ∙ same_header c.args.text.now (said_by c.in_ok-said.said) h said is
