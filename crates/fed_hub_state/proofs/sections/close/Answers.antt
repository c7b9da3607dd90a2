use Rattle.std.proofs.Common.{ℕ, Bool, Result, refl}
use Rattle.fed_journal.specs.Offering as step
use Rattle.fed_hub_state.specs.declared.sending_journal.CloseFault.{CloseFault}
use Rattle.fed_hub_state.specs.Closing.{Closes, before, no_place, no_memory, full, now}
use Rattle.fed_hub_state.specs.Sections.{OutboxIsClosed}
use Rattle.fed_hub_state.specs.SendingJournal.{SendingState}
use Rattle.fed_hub_state.proofs.sections.close.Goals as goal

closed_so : (d : ℕ) (old : SendingState) (told : Result Bool CloseFault) (new : SendingState) → Closes d old told new → OutboxIsClosed d old told new
closed_so d old _ _ (before shut) = ((λ cause. step.IsClosing.before shut), refl)
closed_so d old _ _ (no_place running none) = ((λ cause. step.IsClosing.no_place running none), refl)
closed_so d old _ _ (no_memory running fits) = (running, refl)
closed_so d old _ _ (full wire running fits same) = (running, same, refl)
closed_so d old _ _ (now cause running fits) = (cause, (refl, step.IsClosing.closed running fits))

pub returns-clause-closed : goal.returns-clause-closed
returns-clause-closed g c = closed_so c.args.dest c.args.journal.now c.close.result c.close.new.self c.close.ensures.closed
