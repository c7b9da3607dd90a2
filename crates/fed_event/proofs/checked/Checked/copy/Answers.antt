use Rattle.std.proofs.Common.{sym, subst}
use Rattle.fed_redaction.specs.Event.{Event}
use Rattle.fed_event.specs.Checked.{IsChecked}
use Rattle.fed_event.proofs.checked.Checked.copy.Goals as goal

pub invariant_of-result : goal.invariant_of-result
invariant_of-result c =
    let P : Event → Type 0 = λ event. IsChecked (record { event = event; authorised = c.self.inside.authorised }) in
    subst P (sym c.in_ok-try_clone.ensures) c.self.invariant
