use Rattle.fed_journal.proofs.Placing.{parcels-more, parcels_end_last, parcels_beyond, nothing_beyond, parcel_offered, parcel_ending, parcel_losing}
use Rattle.fed_journal.proofs.laws.what_an_entry_places.Goals as goal

pub returns : goal.returns
returns c = record {
  parcels = parcels-more;
  end = parcels_end_last;
  beyond = parcels_beyond;
  nothing = nothing_beyond;
  offered = parcel_offered;
  closing = parcel_ending;
  losing = parcel_losing;
}
