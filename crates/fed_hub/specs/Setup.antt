-- Why there is no hub of a setup. That is this project's own.
use Rattle.std.specs.Prelude.{◌≡◌, ◌==◌, ◌||◌, not, is_some, ℕ, List, Bool, length, map, bytes_eq}
use Rattle.std.specs.FinMap as finite
use Rattle.std.specs.List.{list_any}
use Rattle.fed_dest.specs.List.{place_of, has_doubled}
use Rattle.fed_hub_state.specs.KeptRoom.{KeptState, id_of}
use Rattle.fed_inbox.specs.Inbox.{InboxState, new_inbox}
use Rattle.fed_inbox.specs.Receiver.{ReceiverState, new_receiver}

-- the own server is the only one listed, is not listed or is not the one that the keys sign as
abbrev pub has_own_fault : List (List ℕ) → List ℕ → List ℕ → Bool
has_own_fault list own signs_as = (length list == 1) || (not (is_some (place_of list own)) || not (bytes_eq own signs_as))

-- the ids of rooms
abbrev pub ids_of : List KeptState → List (List ℕ)
ids_of rooms = map (λ (room : KeptState). id_of room) rooms

-- a hub has a room of this id
abbrev pub has_room : List (List ℕ) → List ℕ → Bool
has_room ids id = list_any (bytes_eq id) ids

-- two rooms have one id, or the own server has one of those faults
abbrev pub is_bad_setup : List (List ℕ) → List ℕ → List ℕ → List KeptState → Bool
is_bad_setup list own signs_as rooms = has_own_fault list own signs_as || has_doubled (ids_of rooms)

-- what receives the requests of a server of this name, with these servers and these rooms; and its inbox, before any request
pub record IsReceptionOf (own : List ℕ) (servers rooms : List (List ℕ)) (receiver : ReceiverState) (beginning : InboxState) : Type 0 where
  pub receives : receiver ≡ new_receiver own servers rooms
  pub begins : beginning ≡ new_inbox finite.empty own servers rooms
