use Rattle.std.proofs.Common.{◌≡◌, Result, Err, ap, inl, refl, sym}
use Rattle.fed_http.specs.XMatrix.{XMatrixValue}
use Rattle.fed_http.specs.declared.x_matrix.AuthFault.{AuthFault}
use Rattle.fed_http.specs.declared.x_matrix.AuthFault.TheVariants.{Memory, BadHeader}
use Rattle.fed_inbox.proofs.Incomings.{headless}
use Rattle.fed_inbox.proofs.incoming.header_of.Goals as goal

pub returns-in-Ok-clause-ok : goal.returns-in-Ok-clause-ok
returns-in-Ok-clause-ok c = (c.in-Some.text.now, sym c.in-Some.ensures, c.in-Ok.ensures.ok)

pub returns-in-Err-BadHeader-clause-fault : goal.returns-in-Err-BadHeader-clause-fault
returns-in-Err-BadHeader-clause-fault c = inl (refl, headless c.args.request.now c.in-Some.text.now (sym c.in-Some.ensures) (c.in-Err-BadHeader.ensures.bad (ap Err c.in-Err-BadHeader.field-0-is)))

pub returns-in-Ok-clause-refuses : goal.returns-in-Ok-clause-refuses
returns-in-Ok-clause-refuses c none = absurd (none c.in-Ok.header (c.in-Some.text.now, sym c.in-Some.ensures, c.in-Ok.ensures.ok))

pub returns-in-Err-Memory-clause-refuses : goal.returns-in-Err-Memory-clause-refuses
returns-in-Err-Memory-clause-refuses c none = absurd (apart c.in-Err-Memory.field-0 c.in-Err-Memory.field-0-is (c.in-Err-Memory.ensures.refuses (λ h is. none h (c.in-Some.text.now, sym c.in-Some.ensures, is))))
  where
    apart : (e : AuthFault) → e ≡ Memory → ◌≡◌ {A = Result XMatrixValue AuthFault} (Err e) (Err BadHeader) → ⊥
    apart Memory is says = absurd (cc says)
    apart BadHeader is says = absurd (cc is)
