-- What contracts see of a hub.
use Rattle.std.specs.Prelude.{◌≡◌, ℕ, List}
use Rattle.fed_keys.specs.Keys.{Checks}
use Rattle.fed_hub.specs.Rooms.{RoomsShape}
use Rattle.fed_hub.specs.Setup.{has_room}

-- the listed servers, the place of the own one among them, its name, the epoch of its transaction ids, the ids of the rooms, and how many clients
-- and how many readers of the board it was made for
pub record HubShape : Type 0 where
  pub list : List (List ℕ)
  pub own : ℕ
  pub name : List ℕ
  pub epoch : ℕ
  pub rooms : List (List ℕ)
  pub clients : ℕ
  pub readers : ℕ

-- It serves by these names: its keys check as is said, its reception knows just its rooms, in the order of their places, and each room has a wire.
pub record ServesBy (checks : Checks) (wires : ℕ) (known : List (List ℕ)) (own_checks : Checks) (reception : List (List ℕ)) (rooms : RoomsShape) : Type 0 where
  pub same_checks : own_checks ≡ checks
  pub same_ids : reception ≡ known
  pub same_rooms : (id : List ℕ) → has_room rooms.ids id ≡ has_room known id
  pub each_wire : rooms.count ≡ wires

-- It has these listed servers, of which the one at this place, of this name, is the own one, this epoch, and rooms of just these ids; and it was made for
-- so many clients and readers.
pub record IsHubOf (servers : List (List ℕ)) (place : ℕ) (server : List ℕ) (epoch : ℕ) (ids : List (List ℕ)) (parts reading : ℕ) (hub : HubShape) : Type 0 where
  pub same_list : hub.list ≡ servers
  pub own_place : hub.own ≡ place
  pub own_name : hub.name ≡ server
  pub same_epoch : hub.epoch ≡ epoch
  pub each_room : (id : List ℕ) → has_room hub.rooms id ≡ has_room ids id
  pub each_client : hub.clients ≡ parts
  pub each_reader : hub.readers ≡ reading
