-- Lists of places, one after another in one vector.
use Rattle.std.specs.Prelude.{◌≡◌, ◌+◌, ◌<◌, ◌≤◌, ℕ, List, length, take, slice_index, vec_len, vec_capacity}
use Rattle.std.specs.List.{concat}
use Rattle.fed_room_contract.specs.declared.links.Links.{Links}

-- these lists, each from its start on
pub record AreLinks (lists : List (List ℕ)) (links : Links) : Type 0 where
  pub places : links.places.items ≡ concat lists
  pub long : length links.starts.items ≡ length lists
  pub starts : (index : ℕ) → index < length lists → slice_index links.starts.items index ≡ length (concat (take index lists))

-- there is room for one list more of so many places
pub record HasRoomFor (count : ℕ) (links : Links) : Type 0 where
  pub start : vec_len links.starts < vec_capacity links.starts
  pub places : vec_len links.places + count ≤ vec_capacity links.places
