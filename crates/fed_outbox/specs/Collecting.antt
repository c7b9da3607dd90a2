-- What is collected of a queue: its first parcel goes into the outbox.
use Rattle.std.specs.Prelude.{List, [], ◌∷◌, if◌then◌else◌}
use Rattle.fed_journal.specs.declared.parcel.Parcel.{Parcel}
use Rattle.fed_outbox.specs.Outbox.{OutboxState, fits, with_load}

-- the way to a destination: the parcels that its outbox has not taken in yet, in order, and the outbox
pub record Way : Type 0 where
  pub queue : List Parcel
  pub outbox : OutboxState

-- with its first parcel in the outbox; as it is where there is none, or that one does not come next
abbrev pub collected_of : List Parcel → OutboxState → Way
collected_of [] outbox = record { queue = []; outbox = outbox }
collected_of (parcel ∷ parcels) outbox =
    if fits outbox parcel.place
    then record { queue = parcels; outbox = with_load outbox parcel.load }
    else record { queue = parcel ∷ parcels; outbox = outbox }

abbrev pub collected : Way → Way
collected way = collected_of way.queue way.outbox
