-- How what a journal placed for a destination goes, in order, through the queue into the outbox.
use Rattle.std.specs.Prelude.{◌≡◌, ◌+◌, ℕ, List, ◌++◌, length}
use Rattle.std.specs.List.{list_any}
use Rattle.fed_journal.specs.declared.parcel.Parcel.{Parcel}
use Rattle.fed_journal.specs.Loads.{is_end}
use Rattle.fed_outbox.specs.Outbox.{accepted, accepted_edus, expected}
use Rattle.fed_outbox.specs.Runs.{events_of, edus_of}
use Rattle.fed_outbox.specs.Collecting.{Way}

-- what was placed for d is what its outbox has accepted, and then what waits in its queue
pub record Follows (d : ℕ) (placed : List Parcel) (way : Way) : Type 0 where
  pub collected : List Parcel
  pub all : placed ≡ collected ++ way.queue
  pub dest : way.outbox.dest ≡ d
  pub events : accepted way.outbox ≡ events_of collected
  pub edus : accepted_edus way.outbox ≡ edus_of collected
  pub next : expected way.outbox ≡ length collected + 1
  pub end : way.outbox.has_end ≡ list_any (λ parcel. is_end parcel.load) collected
