-- What a client's thread holds, and what it is told.
use Rattle.std.specs.Prelude.{◌≡◌, ◌++◌, ◌∷◌, [], ℕ, List, length}
use Rattle.std.specs.List.{All}
use Rattle.fed_hub_state.specs.ClientToken.{ClientShare}
use Rattle.fed_hub_told.specs.declared.told_edu.ToldEdu.{ToldEdu}
use Rattle.fed_hub_told.specs.declared.told_event.ToldEvent.{ToldEvent}
use Rattle.fed_hub_told.specs.Told.{ToldState}

-- its part of the ledgers, which has just what it was told
abbrev pub share_of : ToldState → ClientShare
share_of told = record { parts = 1; events = length told.events; edus = length told.edus }

abbrev pub client_new : ClientShare
client_new = record { parts = 1; events = 0; edus = 0 }

-- it was told of nothing
pub record IsNew (client : ToldState) : Type 0 where
  pub events : client.events ≡ []
  pub edus : client.edus ≡ []

-- as many clients as there are parts, which were told of nothing
pub record AreNew (parts : ℕ) (clients : List ToldState) : Type 0 where
  pub count : length clients ≡ parts
  pub each : All IsNew clients

-- it was told of nothing more; of this event more; of this EDU more
pub record IsToldNothing (old new : ToldState) : Type 0 where
  pub events : new.events ≡ old.events
  pub edus : new.edus ≡ old.edus

pub record IsToldOf (event : ToldEvent) (old new : ToldState) : Type 0 where
  pub events : new.events ≡ old.events ++ event ∷ []
  pub edus : new.edus ≡ old.edus

pub record IsToldOfEdu (edu : ToldEdu) (old new : ToldState) : Type 0 where
  pub events : new.events ≡ old.events
  pub edus : new.edus ≡ old.edus ++ edu ∷ []
