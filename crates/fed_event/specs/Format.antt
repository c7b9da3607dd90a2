-- What an event that passes its tests has (Matrix, room version 10, "Event format"; Client-Server API, "Size limits").
use Rattle.std.specs.Prelude.{◌≡◌, ℕ, ◌≤◌, true, IfSome, length, option_and_then}
use Rattle.serde_json.specs.Data.{Data, depth}
use Rattle.serde_json.specs.Find.{as_str}
use Rattle.fed_json.specs.CanonicalText.{canonical_text}
use Rattle.fed_json.specs.JsonRef.{as_items}
use Rattle.fed_event.specs.declared.field.Field.{Field}
use Rattle.fed_event.specs.declared.field.Field.TheVariants.{AuthEvents, PrevEvents, RoomId, Sender, StateKey, «Type»}
use Rattle.fed_event.specs.Tests.{part, has_kind, holds, is_object, is_text}
use Rattle.fed_event.specs.Fields.{is_needed}

-- a text there has at most 255 bytes
abbrev pub IsShort : Field → Data → Type 0
IsShort field event = IfSome (option_and_then as_str (part field event)) (λ text. length text ≤ 255)

-- an array there has at most this many items
abbrev pub HasAtMost : ℕ → Field → Data → Type 0
HasAtMost most field event = IfSome (option_and_then as_items (part field event)) (λ ids. length ids ≤ most)

-- an object of limited depth and size with every needed field, each of its kind and within its limit
pub record IsEvent (event : Data) : Type 0 where
  pub object : is_object event ≡ true
  pub levels : depth event ≤ 100
  pub size : length (canonical_text event) ≤ 65536
  pub needed : (field : Field) → is_needed field ≡ true → holds (has_kind field) (part field event) ≡ true
  pub state_key : IfSome (part StateKey event) (λ key. is_text key ≡ true)
  pub short_room_id : IsShort RoomId event
  pub short_sender : IsShort Sender event
  pub short_state_key : IsShort StateKey event
  pub short_type : IsShort «Type» event
  pub auth_events : HasAtMost 10 AuthEvents event
  pub prev_events : HasAtMost 20 PrevEvents event
