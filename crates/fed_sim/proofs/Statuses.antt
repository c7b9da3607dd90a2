-- A refusal for want of memory is not read as a reply with 200.
use Rattle.std.proofs.Common.{◌≡◌, ℕ, arith}
use Rattle.fed_inbox.specs.declared.refusal.Refusal.TheVariants.{OutOfMemory}
use Rattle.fed_inbox.specs.Reply.{refused}
use Rattle.fed_exchange.specs.Messages.{IsStatusIn}
use Rattle.fed_exchange.proofs.Statuses.{read_back}

pub no_memory_is_no_success : (status : ℕ) → IsStatusIn (refused OutOfMemory) status → status ≡ 200 → ⊥
no_memory_is_no_success status is e = absurd (omega (arith, e, read_back (refused OutOfMemory) status (record { final = omega arith; status = omega arith; body_fits = omega arith }) is))
