-- Where stored events stand: a place for each id, and none for an id that room was made for.
use Rattle.std.specs.Prelude.{ℕ, List, Option, Some, None, is_some, if◌then◌else◌}
use Rattle.std.specs.Coded.{Coded, coded_ℕ, coded_option}
use Rattle.std.specs.FinMap as finite
use Rattle.std.specs.Str.{bytes_eq}
use Rattle.fed_json.specs.TextMap.{TextMap, text_map_code}

abbrev pub PlaceMap : Type 0
PlaceMap = TextMap (Option ℕ)

abbrev pub places_code : Coded PlaceMap
places_code = text_map_code (coded_option coded_ℕ)

-- the place, where one is entered
abbrev pub place_in : Option (Option ℕ) → Option ℕ
place_in None = None
place_in (Some place) = place

abbrev pub place_at : PlaceMap → List ℕ → Option ℕ
place_at places id = place_in (finite.get places id)

-- room is made for an id that has none
abbrev pub with_room_for : PlaceMap → List ℕ → PlaceMap
with_room_for places id = if finite.contains_key places id then places else finite.insert places id None

-- the room for an id is taken back, unless a place is entered
abbrev pub without_room_for : PlaceMap → List ℕ → PlaceMap
without_room_for places id = if is_some (place_at places id) then places else finite.remove places id

-- room is made for an id, in place of that for the one before
abbrev pub with_room_in_place_of : PlaceMap → Option (List ℕ) → List ℕ → PlaceMap
with_room_in_place_of places None id = with_room_for places id
with_room_in_place_of places (Some before) id =
    if bytes_eq before id then with_room_for places id else without_room_for (with_room_for places id) before
