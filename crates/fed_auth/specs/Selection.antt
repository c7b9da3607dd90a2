-- The auth events that an event has (Matrix, Server-Server API v1.11, "Auth events selection"): the events that a state has at the keys
-- of the selection, each a type and a state key. They depend on four fields of the event, which an event has before it is sealed.
use Rattle.std.specs.Prelude.{ℕ, List, [], ◌∷◌, ◌++◌, Bool, true, false, not, ◌&&◌, Option, Some, None, filter, option_map, option_and_then, refl, codes, bytes_eq, if◌then◌else◌}
use Rattle.std.specs.List.{list_any, filter_map, position_or_len}
use Rattle.std.specs.Coded.{Coded, code_by, coded×, coded_ℕ, coded_list, coded_option}
use Rattle.serde_json.specs.Data.{Data}
use Rattle.fed_json.specs.Code.{coded_data}
use Rattle.fed_event.specs.Event.{Event}
use Rattle.fed_event.specs.Tests.{holds}
use Rattle.fed_event.specs.Fields.{content_of, kind_of, sender_of, state_key_of}
use Rattle.fed_event.specs.Checked.{authorising_user_in}
use Rattle.fed_room_contract.specs.State.{StateKey, StateMap, entry_at}
use Rattle.fed_auth.specs.declared.membership.Membership.{Membership}
use Rattle.fed_auth.specs.declared.membership.Membership.TheVariants.{Join, Invite, Knock}
use Rattle.fed_auth.specs.Membership.{membership_in}

-- the fields of an event that its auth events are selected by, and those of an event
pub record SelectorFields : Type 0 where
  pub kind : List ℕ
  pub sender : List ℕ
  pub state_key : Option (List ℕ)
  pub content : Data

abbrev pub fields_code : Coded SelectorFields
fields_code =
    code_by ((List ℕ × List ℕ) × (Option (List ℕ) × Data)) (coded× (coded× (coded_list coded_ℕ) (coded_list coded_ℕ)) (coded× (coded_option (coded_list coded_ℕ)) coded_data))
    (λ f. ((f.kind, f.sender), (f.state_key, f.content))) (λ p. record { kind = p.0.0; sender = p.0.1; state_key = p.1.0; content = p.1.1 }) (λ _. refl)

abbrev pub selector_of : Event → SelectorFields
selector_of event = record { kind = kind_of event; sender = sender_of event; state_key = state_key_of event; content = content_of event }

-- ---- the keys

abbrev pub is_of_member : SelectorFields → Bool
is_of_member fields = bytes_eq fields.kind (codes "m.room.member")

-- the memberships that the join rules decide on
abbrev pub is_by_join_rules : Membership → Bool
is_by_join_rules Join = true
is_by_join_rules Invite = true
is_by_join_rules Knock = true
is_by_join_rules membership = false

-- of a member event: its target, whether the join rules decide on it, and the user that authorises it
unfoldable pub target_of : SelectorFields → Option (List ℕ)
target_of fields = if is_of_member fields then fields.state_key else None

unfoldable pub needs_join_rules : SelectorFields → Bool
needs_join_rules fields = is_of_member fields && is_by_join_rules (membership_in fields.content)

unfoldable pub authoriser_of : SelectorFields → Option (List ℕ)
authoriser_of fields = if is_of_member fields then authorising_user_in fields.content else None

-- the keys of an event that a room has one of, and of the membership of a user
abbrev pub room_key : List ℕ → StateKey
room_key kind = (kind, [])

abbrev pub member_key : List ℕ → StateKey
member_key user = (codes "m.room.member", user)

-- in their order, with `None` for what is not selected: the create event, the power levels, the membership of the sender; of a member
-- event the membership of the target, the join rules, the membership of the authorising user
unfoldable pub selection_keys : SelectorFields → List (Option StateKey)
selection_keys fields =
    Some (room_key (codes "m.room.create"))
    ∷ Some (room_key (codes "m.room.power_levels"))
    ∷ Some (member_key fields.sender)
    ∷ option_map member_key (target_of fields)
    ∷ (if needs_join_rules fields then Some (room_key (codes "m.room.join_rules")) else None)
    ∷ option_map member_key (authoriser_of fields)
    ∷ []

-- a type and a state key that are a key of the selection
abbrev pub is_key : List ℕ → List ℕ → StateKey → Bool
is_key kind state_key key = bytes_eq key.0 kind && bytes_eq key.1 state_key

abbrev pub is_selected : SelectorFields → List ℕ → List ℕ → Bool
is_selected fields kind state_key = list_any (holds (is_key kind state_key)) (selection_keys fields)

-- ---- the selection

abbrev pub entry_of : StateMap → Option StateKey → Option (List ℕ)
entry_of state key = option_and_then (λ k. entry_at state k.0 k.1) key

-- the ids that the state has at these keys, in their order
abbrev pub ids_at : StateMap → List (Option StateKey) → List (List ℕ)
ids_at state keys = filter_map (entry_of state) keys

-- each id once, where it comes first
abbrev pub each_once : List (List ℕ) → List (List ℕ)
each_once [] = []
each_once (id ∷ ids) = id ∷ filter (λ other. not (bytes_eq id other)) (each_once ids)

abbrev pub selection_of : SelectorFields → StateMap → List (List ℕ)
selection_of fields state = each_once (ids_at state (selection_keys fields))

-- the ids with one more, where there is one and they lack it
unfoldable pub with_id : List (List ℕ) → Option (List ℕ) → List (List ℕ)
with_id ids None = ids
with_id ids (Some id) = if list_any (λ known. bytes_eq known id) ids then ids else ids ++ id ∷ []

-- ---- where an id comes from

abbrev pub is_at : StateMap → List ℕ → Option StateKey → Bool
is_at state id key = holds (λ held. bytes_eq held id) (entry_of state key)

-- the place of the first key of the selection at which the state has the id
abbrev pub first_place : SelectorFields → StateMap → List ℕ → ℕ
first_place fields state id = position_or_len (is_at state id) (selection_keys fields)
