-- What an answer to transaction n with this status makes of it.
use Rattle.std.specs.Prelude.{ℕ, ◌==◌, if◌then◌else◌}
use Rattle.fed_outbox.specs.Outbox.{OutboxState, has_number}
use Rattle.fed_outbox.specs.declared.settlement.Settlement as declared
use Rattle.fed_outbox.specs.declared.settlement.Settlement.TheVariants.{Settled, Ignored, Failed}

abbrev pub settlement : OutboxState → ℕ → ℕ → declared.Settlement
settlement o n status = if has_number o.unanswered n then (if status == 200 then Settled else Failed) else Ignored
