-- Which parcels an outbox has accepted, in the order of their places, events and EDUs together.
use Rattle.std.specs.Prelude.{◌≡◌, ◌+◌, ℕ, List, length, map}
use Rattle.std.specs.List.{list_any}
use Rattle.fed_journal.specs.declared.parcel.Parcel.{Parcel}
use Rattle.fed_journal.specs.Loads.{is_end}
use Rattle.fed_outbox.specs.Outbox.{OutboxState, accepted, accepted_edus, expected}
use Rattle.fed_outbox.specs.Runs.{events_of, edus_of, places_from}

-- just these parcels for d were accepted, in this order
pub record HasAccepted (d : ℕ) (parcels : List Parcel) (o : OutboxState) : Type 0 where
  pub dest : o.dest ≡ d
  -- they stand at the places from 1 on without a gap, and the next place is the one behind them
  pub places : map (λ parcel. parcel.place) parcels ≡ places_from d 1 (length parcels)
  pub next : expected o ≡ length parcels + 1
  pub events : accepted o ≡ events_of parcels
  pub edus : accepted_edus o ≡ edus_of parcels
  pub end : o.has_end ≡ list_any (λ parcel. is_end parcel.load) parcels
