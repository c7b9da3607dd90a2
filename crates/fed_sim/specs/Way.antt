-- The way of parcels from the journal of a server to one destination.
use Rattle.std.specs.Prelude.{ℕ, List, [], ◌++◌, ◌∷◌, refl, Option, Some, None, option_map, length, map, if◌then◌else◌}
use Rattle.std.specs.Coded.{Coded, code_by, coded×, coded_ℕ, coded_list}
use Rattle.fed_journal.specs.Parcel.{parcel_code}
use Rattle.fed_journal.specs.declared.parcel.Load.{Load}
use Rattle.fed_journal.specs.declared.parcel.Load.TheVariants.{Event, Edu, End}
use Rattle.fed_journal.specs.declared.parcel.Parcel.{Parcel}
use Rattle.fed_outbox.specs.Answering.{transaction_cut}
use Rattle.fed_outbox.specs.Outbox.{OutboxState, new_outbox, outbox_code, fits}
use Rattle.fed_outbox.specs.Collecting.{Way}
use Rattle.fed_outbox.specs.Transaction.{TransactionValue}
use Rattle.fed_sim.specs.declared.way.Cut.{Cut}
use Rattle.fed_sim.specs.declared.outcome.Collected.{Collected}
use Rattle.fed_sim.specs.declared.outcome.Collected.TheVariants as collected

-- the queue and the outbox, and for how many more parcels there is room
pub record WayState : Type 0 where
  pub way : Way
  pub free : ℕ

-- the queues and the outboxes of ways
abbrev pub ways_of : List WayState → List Way
ways_of ways = map (λ (l : WayState). l.way) ways

abbrev pub new_way : ℕ → Way
new_way dest = record { queue = []; outbox = new_outbox dest }

-- with a parcel behind those that wait
abbrev pub with_parcel : Way → Parcel → Way
with_parcel way parcel = record { queue = way.queue ++ parcel ∷ []; outbox = way.outbox }

-- what a load holds
abbrev pub kind_of : Load → Collected
kind_of (Event event) = collected.Event
kind_of (Edu edu) = collected.Edu
kind_of End = collected.End

-- what is told of the first parcel of a queue: nothing where there is none, or the outbox does not accept it
abbrev pub kind_told : Way → Option Collected
kind_told way = by way.queue
  where
    by : List Parcel → Option Collected
    by [] = None
    by (parcel ∷ later) = if fits way.outbox parcel.place then Some (kind_of parcel.load) else None

-- what is told of a cut: the number, and how many events and EDUs the transaction has
abbrev pub cut_told : OutboxState → ℕ → Option Cut
cut_told outbox now = option_map (λ (t : TransactionValue). record { number = t.number; pdus = length t.pdus; edus = length t.edus }) (transaction_cut outbox now)

-- ---- how it is stored where a contract keeps one; nothing else is said of it

abbrev pub way_code : Coded Way
way_code = code_by (List Parcel × OutboxState) (coded× (coded_list parcel_code) outbox_code) (λ l. (l.queue, l.outbox)) (λ p. record { queue = p.0; outbox = p.1 }) (λ _. refl)

abbrev pub way_state_code : Coded WayState
way_state_code = code_by (Way × ℕ) (coded× way_code coded_ℕ) (λ l. (l.way, l.free)) (λ p. record { way = p.0; free = p.1 }) (λ _. refl)
