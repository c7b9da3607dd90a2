-- What contracts see of a client's token: how many of the parts of the ledgers it has, and of how many events and EDUs it was told.
use Rattle.std.specs.Prelude.{ℕ, ◌+◌}
use Rattle.fed_journal.specs.declared.offered.Offered.{Offered}
use Rattle.fed_journal.specs.declared.offered.Offered.TheVariants.{Event, Edu}

pub record ClientShare : Type 0 where
  pub parts : ℕ
  pub events : ℕ
  pub edus : ℕ

-- how many events, and how many EDUs, something that is offered is
abbrev pub event_count : Offered → ℕ
event_count (Event event) = 1
event_count (Edu edu) = 0

abbrev pub edu_count : Offered → ℕ
edu_count (Event event) = 0
edu_count (Edu edu) = 1

-- told of it too
abbrev pub with_told : ClientShare → Offered → ClientShare
with_told client offered = record { parts = client.parts; events = client.events + event_count offered; edus = client.edus + edu_count offered }
