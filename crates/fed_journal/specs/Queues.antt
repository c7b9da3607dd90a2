-- What an entry sends to each destination: the queues of parcels that go from a journal to the outboxes. The standard says nothing of how
-- a server keeps what it offers.
use Rattle.std.specs.Prelude.{◌+◌, ℕ, List, ◌++◌, drop, Option, None, if◌then◌else◌}
use Rattle.std.specs.Option.{option_map, option_to_list}
use Rattle.fed_journal.specs.declared.entry.Entry.{Entry}
use Rattle.fed_journal.specs.declared.parcel.Load.{Load}
use Rattle.fed_journal.specs.declared.parcel.Parcel.{Parcel}
use Rattle.fed_journal.specs.Journal.{is_closed, placed, load_for, next_place, parcels}

-- what an entry places for d behind these entries: nothing where its outbox is closed
abbrev pub load_after : List Entry → Entry → ℕ → Option Load
load_after entries entry d = if is_closed entries d then None else load_for d entry

abbrev pub parcel_after : List Entry → Entry → ℕ → Option Parcel
parcel_after entries entry d = option_map (λ load. record { place = record { dest = d; number = placed entries d + 1 }; load = load }) (load_after entries entry d)

-- the queue of d with what the entry places for d
abbrev pub queue_after : List Entry → Entry → ℕ → List Parcel → List Parcel
queue_after entries entry d queue = queue ++ option_to_list (parcel_after entries entry d)

-- the parcels for d that a journal places beyond those of a front of it
abbrev pub placed_beyond : List Entry → List Entry → ℕ → List Parcel
placed_beyond front entries d = drop (placed front d) (parcels entries d)

-- a parcel for d with this load, where its outbox is open
abbrev pub parcel_to : List Entry → Load → ℕ → Option Parcel
parcel_to entries load d = option_map (λ place. record { place = place; load = load }) (next_place entries d)
