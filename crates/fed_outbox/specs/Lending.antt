-- What an outbox ends as where a call lends a part of it.
use Rattle.std.specs.Prelude.{◌≡◌, ⊤}
use Rattle.std.specs.Borrow.{MutBor, Fml, follows_so}
use mathlib.Core.Option.{none}
use Rattle.fed_outbox.specs.contracts.outbox.Outbox.{the_row}
use Rattle.fed_outbox.specs.Outbox.{OutboxState}

-- o is as `after` once what was lent of it is given back, and while it is lent
abbrev pub EndsAs : MutBor OutboxState → OutboxState → Fml
EndsAs o after = follows_so the_row the_row o.ghost_name none (λ _ _. ⊤) (λ n. n ≡ after)
