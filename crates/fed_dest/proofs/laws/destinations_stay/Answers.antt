use Rattle.fed_dest.proofs.Stays.{joined_stay, places_stay, destinations_stay}
use Rattle.fed_dest.proofs.laws.destinations_stay.Goals as goal

pub returns : goal.returns
returns c = record {
  joined = λ events more state server named. joined_stay events more state named server;
  places = λ events more state servers place named. places_stay events more state named servers place;
  destinations = λ events more state servers own place named. destinations_stay events more state named servers own place;
}
