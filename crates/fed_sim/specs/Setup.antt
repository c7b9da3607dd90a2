-- What a world begins with, and why there is no world.
use Rattle.std.specs.Prelude.{ℕ, ◌++◌, ◌∷◌, [], ◌&&◌, ◌||◌, not, nat_le, is_none, Bool, true, false, List, length, map, bytes_eq, String, string_bytes, Option, Some, None, if◌then◌else◌}
use Rattle.std.specs.List.{list_any, list_all}
use Rattle.std.specs.declared.alloc.Global.{Global}
use Rattle.fed_event.specs.Ids.{domain_of, is_id_text, is_user_id}
use Rattle.fed_event.specs.Names.{is_one_of}
use Rattle.fed_dest.specs.List.{list_fault}
use Rattle.fed_sim.specs.declared.setup.RoomSetup.{RoomSetup}
use Rattle.fed_sim.specs.declared.setup.Setup.{Setup}
use Rattle.fed_sim.specs.declared.setup_check.RoomFault.{RoomFault}
use Rattle.fed_sim.specs.declared.setup_check.RoomFault.TheVariants.{Wrong, UnknownServer}
use Rattle.fed_room.specs.declared.start_fault.StartFault.{StartFault}
use Rattle.fed_room.specs.declared.start_fault.StartFault.TheVariants as start
use Rattle.fed_room.specs.declared.started_fault.StartedFault.{StartedFault}
use Rattle.fed_room.specs.declared.started_fault.StartedFault.TheVariants as started
use Rattle.fed_sim.specs.declared.setup.SimFault.{SimFault}
use Rattle.fed_sim.specs.declared.setup.SimFault.TheVariants.{Memory, BadSetup}

-- why there are no events that a room begins with
abbrev pub sim_fault_of_started : StartedFault → SimFault
sim_fault_of_started started.Memory = Memory
sim_fault_of_started started.NoUser = BadSetup
sim_fault_of_started (started.NoKeys place) = BadSetup
sim_fault_of_started (started.Bad fault) = BadSetup

-- why a room does not begin with them
abbrev pub sim_fault_of_start : StartFault → SimFault
sim_fault_of_start start.Memory = Memory
sim_fault_of_start start.Empty = BadSetup
sim_fault_of_start start.NotCreate = BadSetup
sim_fault_of_start start.Version = BadSetup
sim_fault_of_start (start.NotAccepted place receipt) = BadSetup

-- ---- a room

abbrev pub id_of : RoomSetup → List ℕ
id_of room = string_bytes room.id

abbrev pub users_of : RoomSetup → List (List ℕ)
users_of room = map string_bytes room.users.items

-- the id of a room (Matrix, appendix "Room IDs"): at most 255 bytes, `!`, which is 33, and a colon
abbrev pub is_room_id : List ℕ → Bool
is_room_id text = nat_le (length text) 255 && is_id_text 33 text

-- the id of one of the rooms
abbrev pub is_id_of_one : List RoomSetup → List ℕ → Bool
is_id_of_one rooms id = list_any (λ room. bytes_eq id (id_of room)) rooms

-- the first of these users is of the server of a room
abbrev pub is_of_first : List (String Global) → List ℕ → Bool
is_of_first [] id = false
is_of_first (first ∷ others) id = bytes_eq (domain_of (string_bytes first)) (domain_of id)

-- one of these users has this id
abbrev pub is_among : List (String Global) → List ℕ → Bool
is_among users id = list_any (λ user. bytes_eq id (string_bytes user)) users

-- the id of a user, and of none of these
abbrev pub is_new_user : String Global → List (String Global) → Bool
is_new_user user others = is_user_id (string_bytes user) && not (is_among others (string_bytes user))

-- ids of users, each once
abbrev pub are_users : List (String Global) → Bool
are_users [] = true
are_users (user ∷ users) = is_new_user user users && are_users users

-- the room cannot begin beside these, whatever servers there are
abbrev pub is_wrong : List RoomSetup → RoomSetup → Bool
is_wrong others room =
    ((not (is_room_id (id_of room)) || is_id_of_one others (id_of room)) || not (is_of_first room.users.items (id_of room))) || not (are_users room.users.items)

-- all of these users are of the servers
abbrev pub are_listed : List (List ℕ) → List (String Global) → Bool
are_listed servers users = list_all (λ user. is_one_of servers (domain_of (string_bytes user))) users

-- why a room cannot begin on these servers beside these others: the first of these that holds
abbrev pub room_fault_of : List (List ℕ) → List RoomSetup → RoomSetup → Option RoomFault
room_fault_of servers others room =
    if is_wrong others room then Some Wrong
    else if not (are_listed servers room.users.items) then Some UnknownServer
    else None

-- ---- the whole setup

-- none of the rooms has a fault beside those before it
abbrev pub are_rooms_beside : List (List ℕ) → List RoomSetup → List RoomSetup → Bool
are_rooms_beside servers others [] = true
are_rooms_beside servers others (room ∷ rooms) = is_none (room_fault_of servers others room) && are_rooms_beside servers (others ++ room ∷ []) rooms

abbrev pub are_rooms : List (List ℕ) → List RoomSetup → Bool
are_rooms servers rooms = are_rooms_beside servers [] rooms

-- the names make a list of servers, and none of the rooms has a fault
abbrev pub is_setup : Setup → Bool
is_setup setup = is_none (list_fault setup.servers.items) && are_rooms setup.servers.items setup.rooms.items
