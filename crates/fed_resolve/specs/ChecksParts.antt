-- What an event is checked by, for the clauses of private functions.
use Rattle.std.specs.Prelude.{◌≡◌, ℕ, List, Bool, Option, None, Some, find, is_some, if◌then◌else◌}
use Rattle.std.specs.List.{list_any}
use Rattle.std.specs.FinMap as finite
use Rattle.std.specs.Ordering.{eq_by_cmp}
use Rattle.fed_event.specs.Tests.{holds}
use Rattle.fed_room_contract.specs.declared.graph.Stored.{Stored}
use Rattle.fed_room_contract.specs.State.{StateKey, StateMap, key_cmp, with_entry}
use Rattle.fed_room_contract.specs.Graph.{id_of}
use Rattle.fed_auth.specs.AuthState.{is_rejected, stands_at}

-- the id of an event that was not rejected
abbrev pub id_unless_rejected : Option Stored → Option (List ℕ)
id_unless_rejected None = None
id_unless_rejected (Some auth) = if is_rejected auth then None else Some (id_of auth)

-- what comes from these auth events at a key
abbrev pub auth_id_at : List Stored → StateKey → Option (List ℕ)
auth_id_at auths key = id_unless_rejected (find (stands_at key.0 key.1) auths)

-- what a state that is completed from these auth events has at a key that the rules look at
abbrev pub known_at : List Stored → StateMap → StateKey → Option (List ℕ)
known_at auths state key = if is_some (finite.get state key) then finite.get state key else auth_id_at auths key

-- a state with an entry, where there is one
abbrev pub with_known : StateMap → Option StateKey → Option (List ℕ) → StateMap
with_known state None id = state
with_known state (Some key) None = state
with_known state (Some key) (Some id) = with_entry state key.0 key.1 id

-- one of these keys is the key
abbrev pub has_selected : List (Option StateKey) → StateKey → Bool
has_selected keys key = list_any (holds (eq_by_cmp key_cmp key)) keys

-- a state has, of another one, what that has at some keys
pub record IsSelected (whole : StateMap) (keys : List (Option StateKey)) (state : StateMap) : Type 0 where
  pub each : (key : StateKey) → finite.get state key ≡ (if has_selected keys key then finite.get whole key else None)
