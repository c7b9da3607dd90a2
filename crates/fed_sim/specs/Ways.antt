-- The way from a server to one destination, and what the server does there.
use Rattle.std.specs.Prelude.{◌≡◌, ◌+◌, ℕ, ◌==◌, ◌&&◌, nat_lt, Bool, not, List, [], ◌∷◌, ◌++◌, length, Option, None, set, slice_get, if◌then◌else◌}
use Rattle.std.specs.Option.{option_map_or}
use Rattle.fed_journal.specs.declared.entry.Entry.{Entry}
use Rattle.fed_journal.specs.Queues.{placed_beyond}
use Rattle.fed_outbox.specs.Answering.{failed_once, due_told, answered, answer_told}
use Rattle.fed_outbox.specs.Outbox.{OutboxState, cut}
use Rattle.fed_outbox.specs.Collecting.{Way, collected}
use Rattle.fed_sim.specs.declared.outcome.Outcome.{Outcome}
use Rattle.fed_sim.specs.declared.outcome.Outcome.TheVariants as outcome
use Rattle.fed_sim.specs.declared.way.Cut.{Cut}
use Rattle.fed_sim.specs.Way.{kind_told, cut_told}
use Rattle.fed_sim.specs.Server.{ServerState}

-- there is a way to each listed server other than the own one
abbrev pub has_way : ServerState → ℕ → Bool
has_way s d = not (d == s.own) && nat_lt d (length s.ways)

abbrev pub way_to : ServerState → ℕ → Option Way
way_to s d = if has_way s d then slice_get s.ways d else None

-- the server with this way to d
abbrev pub with_way : ServerState → ℕ → Way → ServerState
with_way s d way = record {
  own = s.own;
  name = s.name;
  rooms = s.rooms;
  arrivals = s.arrivals;
  journal = s.journal;
  ways = set s.ways d way;
  inbox = s.inbox;
}

-- the ways to the servers from place n on, each with the parcels that a journal places for that server beyond those of a front of it
abbrev pub ways_beyond : ℕ → List Entry → List Entry → List Way → List Way
ways_beyond n front entries [] = []
ways_beyond n front entries (way ∷ ways) = record { queue = way.queue ++ placed_beyond front entries n; outbox = way.outbox } ∷ ways_beyond (n + 1) front entries ways

-- What a server answers when something is done on the way to d, and what it is then. What is done says what is told, and what the way is then.
abbrev pub on_way : ℕ → (Way → Outcome × Way) → ServerState → Outcome × ServerState
on_way d step s = option_map_or (λ way. ((step way).0, with_way s d (step way).1)) (way_to s d) (outcome.NoSuchServer, s)

abbrev pub IsOnWay : ℕ → (Way → Outcome × Way) → ServerState → Outcome → ServerState → Type 0
IsOnWay d step old told new = (told, new) ≡ on_way d step old

abbrev pub with_outbox : Way → OutboxState → Way
with_outbox way outbox = record { queue = way.queue; outbox = outbox }

-- the first parcel of the queue goes into the outbox
abbrev pub collecting : Way → Outcome × Way
collecting way = (option_map_or outcome.Collected (kind_told way) outcome.NothingCollected, collected way)

-- a transaction is made
abbrev pub cutting : ℕ → Way → Outcome × Way
cutting now way = (option_map_or (λ (c : Cut). outcome.Cut c.number c.pdus c.edus) (cut_told way.outbox now) outcome.NoCut, with_outbox way (cut way.outbox now))

-- the sending of the unanswered transaction has failed
abbrev pub failing : ℕ → Way → Outcome × Way
failing now way = (option_map_or outcome.Due (due_told way.outbox now) outcome.NotFailed, with_outbox way (failed_once way.outbox now))

-- transaction n was answered with this status, or with what is no answer
abbrev pub settling : ℕ → Option ℕ → ℕ → Way → Outcome × Way
settling n status now way = (outcome.Settled (answer_told way.outbox n status), with_outbox way (answered way.outbox n status now))
