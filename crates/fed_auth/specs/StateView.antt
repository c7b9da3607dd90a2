-- What the state of a room says: the events that it names in the graph, and what the authorization rules read in them (Matrix, room
-- versions 10 and 11, "Authorization rules"). A room without a join rules event is for invited users.
use Rattle.std.specs.Prelude.{ℕ, int_le, List, [], Bool, ◌&&◌, Option, Some, find, option_map, option_and_then, unwrap_or, is_some, codes, bytes_eq, if◌then◌else◌}
use Rattle.std.specs.Option.{option_eq}
use Rattle.serde_json.specs.Data.{Data}
use Rattle.serde_json.specs.Find.{as_str, get}
use Rattle.fed_event.specs.Version.{names_creator}
use Rattle.fed_event.specs.Event.{Event}
use Rattle.fed_event.specs.Tests.{holds}
use Rattle.fed_event.specs.Fields.{content_of, kind_of, prev_events_of, sender_of, state_key_of}
use Rattle.fed_event.specs.EventId.{event_id_of}
use Rattle.fed_event.specs.Checked.{authorising_user_of}
use Rattle.fed_room_contract.specs.declared.graph.Stored.{Stored}
use Rattle.fed_room_contract.specs.State.{StateMap, entry_at}
use Rattle.fed_room_contract.specs.Graph.{stored_at}
use Rattle.fed_auth.specs.declared.membership.Membership.{Membership}
use Rattle.fed_auth.specs.declared.membership.Membership.TheVariants.{Other}
use Rattle.fed_auth.specs.declared.join_rule.JoinRule.{JoinRule}
use Rattle.fed_auth.specs.declared.join_rule.JoinRule.TheVariants.{Invite}
use Rattle.fed_auth.specs.declared.member_rules.MemberFacts.{MemberFacts}
use Rattle.fed_auth.specs.declared.member_rules.Member.{Member}
use Rattle.fed_auth.specs.Levels.{LevelsGiven, user_level, invite_level, kick_level, ban_level}
use Rattle.fed_auth.specs.Membership.{membership_in, is_joined}
use Rattle.fed_auth.specs.JoinRule.{join_rule_in}
use Rattle.fed_auth.specs.EventRules.{is_only}

-- the event, where there is one, that holds at a type and a state key
abbrev pub Look : Type 0
Look = List ℕ → List ℕ → Option Event

-- the one that the state names and the graph has
unfoldable pub event_in : List Stored → StateMap → Look
event_in events state kind key = option_map (λ stored. stored.event.event) (option_and_then (stored_at events) (entry_at state kind key))

-- an event of this type and state key
abbrev pub is_at : List ℕ → List ℕ → Event → Bool
is_at kind key event = bytes_eq kind (kind_of event) && option_eq bytes_eq (Some key) (state_key_of event)

-- the first of these that is
unfoldable pub event_among : List Event → Look
event_among events kind key = find (is_at kind key) events

-- the user that created the room, by its create event: the `creator` of its content, where the version has one, and else the sender
abbrev pub creator_in : Event → Option (List ℕ)
creator_in create =
    if names_creator create.version then option_and_then as_str (get (codes "creator") (content_of create)) else Some (sender_of create)

module _ (look : Look) where
  abbrev pub create_event : Option Event
  create_event = look (codes "m.room.create") []

  abbrev pub power_content : Option Data
  power_content = option_map content_of (look (codes "m.room.power_levels") [])

  unfoldable pub room_levels : LevelsGiven
  room_levels = record { content = power_content; creator = option_and_then creator_in create_event }

  unfoldable pub membership_of : List ℕ → Membership
  membership_of user = unwrap_or (option_map (λ event. membership_in (content_of event)) (look (codes "m.room.member") user)) Other

  unfoldable pub room_join_rule : JoinRule
  room_join_rule = unwrap_or (option_map (λ event. join_rule_in (content_of event)) (look (codes "m.room.join_rules") [])) Invite

  -- the event names a user that is joined and has the level to invite
  unfoldable pub is_authorised_in : LevelsGiven → Event → Bool
  is_authorised_in levels event =
      holds (λ user. is_joined (membership_of user) && int_le (invite_level levels) (user_level levels user)) (authorising_user_of event)

-- what the state says of a user
abbrev pub member_of : Look → LevelsGiven → List ℕ → Member
member_of look levels user = record { membership = membership_of look user; level = user_level levels user }

-- the event follows the create event alone, and its target is the creator
unfoldable pub is_first_join : Event → Event → List ℕ → Bool
is_first_join create event target = is_only (event_id_of create) (prev_events_of event) && holds (bytes_eq target) (creator_in create)

-- what the rules on a member event look at
unfoldable pub facts_of : Look → LevelsGiven → Event → Event → List ℕ → MemberFacts
facts_of look levels create event target = record {
  sender = member_of look levels (sender_of event);
  target = member_of look levels target;
  is_own = bytes_eq (sender_of event) target;
  is_first = is_first_join create event target;
  is_authorised = is_authorised_in look levels event;
  is_third_party = is_some (get (codes "third_party_invite") (content_of event));
  join_rule = room_join_rule look;
  needed = record { invite = invite_level levels; kick = kick_level levels; ban = ban_level levels };
}
