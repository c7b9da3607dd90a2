use Rattle.std.proofs.Common.{subst}
use Rattle.fed_event.specs.Checked.{IsChecked}
use Rattle.fed_event.proofs.checked.Checked.event.Goals as goal

pub returns-clause-checked : goal.returns-clause-checked
returns-clause-checked c = subst IsChecked c.self.view_is c.self.invariant
