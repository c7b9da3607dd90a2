-- Conditions of the authorization rules on an event alone, or beside the create event (Matrix, room version 10, "Authorization rules",
-- rules 3, 4.1, 4.2 and 8).
use Rattle.std.specs.Prelude.{ℕ, List, [], ◌∷◌, Bool, false, not, ◌&&◌, ◌==◌, Option, None, is_some, option_and_then, slice_index, codes, bytes_eq, if◌then◌else◌}
use Rattle.serde_json.specs.Data.{Data}
use Rattle.serde_json.specs.Find.{as_bool, as_str, get}
use Rattle.fed_event.specs.Event.{Event}
use Rattle.fed_event.specs.Tests.{holds}
use Rattle.fed_event.specs.Ids.{is_user_id}
use Rattle.fed_event.specs.Fields.{content_of, sender_of, state_key_of}
use Rattle.fed_event.specs.Checked.{CheckedEvent}
use Rattle.fed_auth.specs.CreateRules.{are_of_one_server}

-- the room is not federated, and the sender is of another server than the create event's
unfoldable pub is_unfederated : Event → Event → Bool
is_unfederated create event =
    holds not (option_and_then as_bool (get (codes "m.federate") (content_of create))) && not (are_of_one_server (sender_of event) (sender_of create))

-- the user that a member event is about: its state key, where it has one and a `membership`
unfoldable pub member_target : Event → Option (List ℕ)
member_target event = if is_some (get (codes "membership") (content_of event)) then state_key_of event else None

-- it names a user that authorises it, and that is no user id, or of a server that has not signed
abbrev pub is_user : Data → Bool
is_user value = holds is_user_id (as_str value)

unfoldable pub is_unauthorised : CheckedEvent → Bool
is_unauthorised checked =
    holds (λ value. not (is_user value && checked.authorised)) (get (codes "join_authorised_via_users_server") (content_of checked.event))

-- the state key begins with `@`, which is 64, and is another user than the sender
unfoldable pub is_of_other_user : Event → Bool
is_of_other_user event = holds (λ key. slice_index key 0 == 64 && not (bytes_eq key (sender_of event))) (state_key_of event)

-- a list of this id and nothing else
abbrev pub is_only : List ℕ → List (List ℕ) → Bool
is_only id [] = false
is_only id (one ∷ []) = bytes_eq one id
is_only id (one ∷ other ∷ ids) = false
