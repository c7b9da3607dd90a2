-- The names of the fields of an event (Matrix, room version 10, "Event format").
use Rattle.std.specs.Prelude.{ℕ, List, codes}
use Rattle.fed_event.specs.declared.field.Field.{Field}
use Rattle.fed_event.specs.declared.field.Field.TheVariants.{Event, AuthEvents, Content, Depth, Hashes, OriginServerTs, PrevEvents, RoomId, Sender, Signatures, StateKey, «Type»}

abbrev pub field_name : Field → List ℕ
field_name Event = codes "event"
field_name AuthEvents = codes "auth_events"
field_name Content = codes "content"
field_name Depth = codes "depth"
field_name Hashes = codes "hashes"
field_name OriginServerTs = codes "origin_server_ts"
field_name PrevEvents = codes "prev_events"
field_name RoomId = codes "room_id"
field_name Sender = codes "sender"
field_name Signatures = codes "signatures"
field_name StateKey = codes "state_key"
field_name «Type» = codes "type"
