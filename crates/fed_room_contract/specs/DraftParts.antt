-- What the fields of a `Draft` stand for.
use Rattle.std.specs.Prelude.{option_map, string_bytes}
use Rattle.fed_room_contract.specs.declared.draft.Draft.TheInside.{Inside}
use Rattle.fed_room_contract.specs.Draft.{DraftFields}

abbrev pub fields_of : Inside → DraftFields
fields_of d = record {
  room = string_bytes d.room;
  sender = string_bytes d.sender;
  kind = string_bytes d.kind;
  state_key = option_map string_bytes d.state_key;
  content = d.content;
  at_ms = d.at_ms;
}
