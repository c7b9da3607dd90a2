-- What the fields of an event hold (Matrix, room version 10, "Event format"). A field that is not there, or of another kind, is
-- read as empty; of an event that has passed its tests only `state_key` can be missing.
use Rattle.std.specs.Prelude.{ℕ, ℤ, pos, List, [], Bool, true, false, Option, map, unwrap_or, option_and_then}
use Rattle.serde_json.specs.Data.{Data, null}
use Rattle.serde_json.specs.Find.{as_str}
use Rattle.fed_json.specs.JsonRef.{as_whole, as_items}
use Rattle.fed_event.specs.declared.field.Field.{Field}
use Rattle.fed_event.specs.declared.field.Field.TheVariants.{Event, AuthEvents, Content, Depth, Hashes, OriginServerTs, PrevEvents, RoomId, Sender, Signatures, StateKey, «Type»}
use Rattle.fed_redaction.specs.Event.{Event as RoomEvent}
use Rattle.fed_event.specs.Tests.{part}

-- the fields that no event lacks, and of these those that hold a text, a whole number and ids
abbrev pub is_needed : Field → Bool
is_needed Event = false
is_needed StateKey = false
is_needed field = true

abbrev pub has_text : Field → Bool
has_text RoomId = true
has_text Sender = true
has_text «Type» = true
has_text field = false

abbrev pub has_whole : Field → Bool
has_whole Depth = true
has_whole OriginServerTs = true
has_whole field = false

abbrev pub has_ids : Field → Bool
has_ids AuthEvents = true
has_ids PrevEvents = true
has_ids field = false

abbrev pub text_in : Data → List ℕ
text_in value = unwrap_or (as_str value) []

abbrev pub value_at : Field → Data → Data
value_at field event = unwrap_or (part field event) null

abbrev pub text_at : Field → Data → List ℕ
text_at field event = unwrap_or (option_and_then as_str (part field event)) []

abbrev pub whole_at : Field → Data → ℤ
whole_at field event = unwrap_or (option_and_then as_whole (part field event)) (pos 0)

abbrev pub texts_at : Field → Data → List (List ℕ)
texts_at field event = map text_in (unwrap_or (option_and_then as_items (part field event)) [])

-- ---- the fields of an event

abbrev pub auth_events_of : RoomEvent → List (List ℕ)
auth_events_of event = texts_at AuthEvents event.value

abbrev pub content_of : RoomEvent → Data
content_of event = value_at Content event.value

abbrev pub depth_of : RoomEvent → ℤ
depth_of event = whole_at Depth event.value

abbrev pub hashes_of : RoomEvent → Data
hashes_of event = value_at Hashes event.value

abbrev pub origin_server_ts_of : RoomEvent → ℤ
origin_server_ts_of event = whole_at OriginServerTs event.value

abbrev pub prev_events_of : RoomEvent → List (List ℕ)
prev_events_of event = texts_at PrevEvents event.value

abbrev pub room_id_of : RoomEvent → List ℕ
room_id_of event = text_at RoomId event.value

abbrev pub sender_of : RoomEvent → List ℕ
sender_of event = text_at Sender event.value

abbrev pub signatures_of : RoomEvent → Data
signatures_of event = value_at Signatures event.value

abbrev pub state_key_of : RoomEvent → Option (List ℕ)
state_key_of event = option_and_then as_str (part StateKey event.value)

-- the type
abbrev pub kind_of : RoomEvent → List ℕ
kind_of event = text_at «Type» event.value
