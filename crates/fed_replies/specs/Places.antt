-- Where the replies that are kept stand in a list: for each origin the place of the reply to each of its transactions.
use Rattle.std.specs.Prelude.{ℕ, List, [], map as map_list, slice_index_or, Option, unwrap_or}
use Rattle.std.specs.Coded.{Coded, coded_ℕ}
use Rattle.std.specs.FinMap as map
use Rattle.fed_json.specs.TextMap.{TextMap, text_map_code}
use Rattle.fed_replies.specs.Kept.{KeptReplies}

-- from the id of a transaction to a place
abbrev pub OriginPlaces : Type 0
OriginPlaces = TextMap ℕ

-- from an origin to its places
abbrev pub AllPlaces : Type 0
AllPlaces = TextMap OriginPlaces

abbrev pub origin_places_code : Coded OriginPlaces
origin_places_code = text_map_code coded_ℕ

abbrev pub all_places_code : Coded AllPlaces
all_places_code = text_map_code origin_places_code

-- the places of one origin: none where it has none
abbrev pub places_of : AllPlaces → List ℕ → OriginPlaces
places_of places origin = unwrap_or (map.get places origin) map.empty

-- the place of the reply to a transaction of an origin
abbrev pub place_at : AllPlaces → List ℕ → List ℕ → Option ℕ
place_at places origin txn = map.get (places_of places origin) txn

-- with one more place
abbrev pub with_place : AllPlaces → List ℕ → List ℕ → ℕ → AllPlaces
with_place places origin txn place = map.insert places origin (map.insert (places_of places origin) txn place)

-- the map with other values
abbrev pub map_values : {X Y : Type 0} → (X → Y) → TextMap X → TextMap Y
map_values f m = map.from_sorted (map_list (λ e. (e.0, f e.1)) (map.entries m))

-- the replies at these places of a list
abbrev pub replies_at : List (List ℕ) → AllPlaces → KeptReplies
replies_at replies places = map_values (map_values (λ place. slice_index_or replies place [])) places
