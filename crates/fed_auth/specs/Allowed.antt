-- Whether a room allows an event (Matrix, room version 10, "Authorization rules"): the rules in their order, by the state of the room
-- and the id of its first event. The first that holds decides. Rule 2, on the auth events, is apart, but that a state without a create
-- event allows nothing but a create event.
use Rattle.std.specs.Prelude.{ℕ, ℤ, int_lt, List, [], ◌∷◌, Bool, true, not, ⊤, Option, Result, option_map, unwrap_or, is_none, slice_get, codes, bytes_eq}
use Rattle.serde_json.specs.Data.{null}
use Rattle.fed_redaction.specs.declared.version.Version.TheVariants.{V10}
use Rattle.fed_event.specs.Event as versions
use Rattle.fed_event.specs.Event.{Event}
use Rattle.fed_event.specs.EventId.{event_id_of}
use Rattle.fed_event.specs.Fields.{content_of, kind_of, sender_of, state_key_of}
use Rattle.fed_event.specs.Checked.{CheckedEvent}
use Rattle.fed_room_contract.specs.declared.rule.Rule.{Rule}
use Rattle.fed_room_contract.specs.declared.graph.Stored.{Stored}
use Rattle.fed_room_contract.specs.State.{StateMap}
use Rattle.fed_room_contract.specs.Graph.{id_of}
use Rattle.fed_auth.specs.Table.{Row, rule, allow, reject, exactly, within, decide}
use Rattle.fed_auth.specs.Levels.{LevelsGiven, user_level, required_level, invite_level}
use Rattle.fed_auth.specs.Membership.{membership_in, is_joined}
use Rattle.fed_auth.specs.MemberRules.{table_of}
use Rattle.fed_auth.specs.CreateRules.{create_table}
use Rattle.fed_auth.specs.PowerRules.{power_table}
use Rattle.fed_auth.specs.EventRules.{is_unfederated, member_target, is_unauthorised, is_of_other_user}
use Rattle.fed_auth.specs.StateView.{Look, event_in, event_among, create_event, power_content, room_levels, membership_of, facts_of}

-- what stands for a create event where there is none
abbrev pub no_event : Event
no_event = versions.event_in V10 null

-- rule 4: m.room.member
unfoldable pub member_table : Look → LevelsGiven → Event → CheckedEvent → List Row
member_table look levels create checked =
    let event = checked.event in
    let target = unwrap_or (member_target event) [] in
    reject (rule 4 1 0) (is_none (member_target event))
    ∷ reject (rule 4 2 0) (is_unauthorised checked)
    ∷ table_of (membership_in (content_of event)) (facts_of look levels create event target)

unfoldable pub is_outside : Look → List ℕ → Bool
is_outside look user = not (is_joined (membership_of look user))

unfoldable pub lacks_invite_level : LevelsGiven → ℤ → Bool
lacks_invite_level levels level = int_lt level (invite_level levels)

unfoldable pub lacks_level : LevelsGiven → ℤ → Event → Bool
lacks_level levels level event = int_lt level (required_level levels (kind_of event) (state_key_of event))

-- rules 5 to 10
unfoldable pub other_table : Look → LevelsGiven → Event → List Row
other_table look levels event =
    let level = user_level levels (sender_of event) in
    reject (rule 5 0 0) (is_outside look (sender_of event))
    ∷ exactly (rule 6 0 0) (bytes_eq (kind_of event) (codes "m.room.third_party_invite")) (not (lacks_invite_level levels level))
    ∷ reject (rule 7 0 0) (lacks_level levels level event)
    ∷ reject (rule 8 0 0) (is_of_other_user event)
    ∷ within (bytes_eq (kind_of event) (codes "m.room.power_levels")) (power_table level (sender_of event) (power_content look) (content_of event))
    ∷ allow (rule 10 0 0) true
    ∷ []

-- rules 3 to 10, beside the create event
unfoldable pub room_table : Look → Event → CheckedEvent → List Row
room_table look create checked =
    reject (rule 3 0 0) (is_unfederated create checked.event)
    ∷ within (bytes_eq (kind_of checked.event) (codes "m.room.member")) (member_table look (room_levels look) create checked)
    ∷ other_table look (room_levels look) checked.event

-- all rules
unfoldable pub rule_table : Look → Option (List ℕ) → CheckedEvent → List Row
rule_table look first checked =
    within (bytes_eq (kind_of checked.event) (codes "m.room.create")) (create_table first checked.event)
    ∷ reject (rule 2 4 0) (is_none (create_event look))
    ∷ room_table look (unwrap_or (create_event look) no_event) checked

-- the id of the first event of a graph
abbrev pub first_id : List Stored → Option (List ℕ)
first_id events = option_map id_of (slice_get events 0)

-- allowed, or the rule that rejects it
abbrev pub allowed_of : List Stored → CheckedEvent → StateMap → Result ⊤ Rule
allowed_of events checked state = decide (rule_table (event_in events state) (first_id events) checked)

-- the same by the events of the state themselves, whose create event is the first of the room
abbrev pub allowed_by : List Event → CheckedEvent → Result ⊤ Rule
allowed_by events checked = decide (rule_table (event_among events) (option_map event_id_of (create_event (event_among events))) checked)
