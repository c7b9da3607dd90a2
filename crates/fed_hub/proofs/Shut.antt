-- A journal that is shut down with success is shut down.
use Rattle.std.proofs.Common.{◌≡◌, ℕ, true, Result, Ok, refl}
use Rattle.fed_hub_state.specs.declared.sending_journal.CloseFault.{CloseFault}
use Rattle.fed_hub_state.specs.SendingJournal.{SendingState}
use Rattle.fed_hub_state.specs.ShuttingDown.{ShutsDown, before, no_place, no_memory, full, now}

pub is_shut_then : (count own : ℕ) (old new : SendingState) (told : Result (Unit {0}) CloseFault) → ShutsDown count own old told new → told ≡ Ok tt → new.is_shut ≡ true
is_shut_then count own old _ _ (before was) is = was
is_shut_then count own old _ _ (no_place runs none) is = absurd (cc)
is_shut_then count own old _ _ (no_memory runs has) is = absurd (cc)
is_shut_then count own old _ _ (full d runs has other) is = absurd (cc)
is_shut_then count own old _ _ (now entries runs are) is = refl
