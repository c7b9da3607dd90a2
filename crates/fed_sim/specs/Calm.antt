-- That calm rounds deliver everything: a stated number of rounds in which nothing is lost, and no memory is refused, brings all that is addressed
-- from each server to each other one (Matrix, Server-Server API, "Transactions": a sender sends a transaction again until it is answered).
use Rattle.std.specs.Prelude.{◌≡◌, ◌≢◌, ◌<◌, ◌≤◌, ◌+◌, ◌-◌, ◌/◌, ℕ, max, length, Option, Some, None, slice_get}
use Rattle.fed_journal.specs.Journal.{addressed, addressed_edus}
use Rattle.fed_outbox.specs.Collecting.{Way}
use Rattle.fed_outbox.specs.Transaction.{TransactionValue}
use Rattle.fed_inbox.specs.Inbox.{taken_of, taken_edus_of}
use Rattle.fed_inbox.specs.Reply.{Answer}
use Rattle.fed_sim.specs.Headline.{event_texts, edu_texts}
use Rattle.fed_sim.specs.Packets.{packet_at}
use Rattle.fed_sim.specs.Server.{ServerState}
use Rattle.fed_sim.specs.Ways.{way_to}
use Rattle.fed_sim.specs.World.{answer, WorldState}

-- how many events, and EDUs, are addressed to d and not settled yet
abbrev pub unsettled : ServerState → ℕ → Way → ℕ
unsettled origin d way = length (addressed origin.journal d) - length way.outbox.settled

abbrev pub unsettled_edus : ServerState → ℕ → Way → ℕ
unsettled_edus origin d way = length (addressed_edus origin.journal d) - length way.outbox.settled_edus

-- how many parts of at most this size so many make
abbrev pub parts : ℕ → ℕ → ℕ
parts size count = (count + (size - 1)) / size

-- one round for a transaction that is unanswered
abbrev pub rounds_unanswered : Option TransactionValue → ℕ
rounds_unanswered None = 0
rounds_unanswered (Some t) = 1

-- How many rounds it takes from a server to d: one for a transaction that is unanswered, and then one for each 50 events and each 100 EDUs, which
-- go together.
abbrev pub rounds_for : ServerState → ℕ → Way → ℕ
rounds_for origin d way = max (parts 50 (unsettled origin d way)) (parts 100 (unsettled_edus origin d way)) + rounds_unanswered way.outbox.unanswered

-- an hour before the greatest moment: what failed most often is due again within an hour
abbrev pub last_start : ℕ
last_start = 9007199251140991

-- no memory was refused at an inbox: none of the answers that were added is of status 500
abbrev pub NoneFailed : WorldState → WorldState → Type 0
NoneFailed old new = (k server dest n : ℕ) (reply : Answer) → length old.packets < k → packet_at new.packets k ≡ Some (answer server dest n reply) → reply.status ≢ 500

-- All that the server `origin` addressed to another one, `dest`, at place d, was taken there, and counts as delivered.
pub record IsAllDelivered (origin dest : ServerState) (d : ℕ) (way : Way) : Type 0 where
  pub events : taken_of dest.inbox origin.name ≡ event_texts (addressed origin.journal d)
  pub edus : taken_edus_of dest.inbox origin.name ≡ edu_texts (addressed_edus origin.journal d)
  pub settled : length way.outbox.settled ≡ length (addressed origin.journal d)
  pub settled_edus : length way.outbox.settled_edus ≡ length (addressed_edus origin.journal d)

-- From a world to the one after so many rounds: between each two servers for which these are enough, all is delivered.
abbrev pub CalmDelivers : ℕ → WorldState → WorldState → Type 0
CalmDelivers rounds old new = old.now ≤ last_start → NoneFailed old new
    → (o d : ℕ) (before origin dest : ServerState) (earlier way : Way) → slice_get old.servers o ≡ Some before → way_to before d ≡ Some earlier → rounds_for before d earlier ≤ rounds
    → slice_get new.servers o ≡ Some origin → slice_get new.servers d ≡ Some dest → way_to origin d ≡ Some way → IsAllDelivered origin dest d way
