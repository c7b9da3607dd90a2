-- What the walk over a value finds.
use Rattle.std.specs.Prelude.{◌≡◌, ℕ, true}
use Rattle.serde_json.specs.Data.{Data, Items, Members, depth, items_depth, members_depth}
use Rattle.fed_json.specs.Profile.{all_whole, items_whole, members_whole, keys_rise, items_rise, members_rise}

-- a value of the profile that nests n deep
pub record IsNesting (d : Data) (n : ℕ) : Type 0 where
  pub whole : all_whole d ≡ true
  pub rising : keys_rise d ≡ true
  pub deep : n ≡ depth d

pub record IsItemsNesting (ds : Items) (n : ℕ) : Type 0 where
  pub whole : items_whole ds ≡ true
  pub rising : items_rise ds ≡ true
  pub deep : n ≡ items_depth ds

pub record IsMembersNesting (ms : Members) (n : ℕ) : Type 0 where
  pub whole : members_whole ms ≡ true
  pub rising : members_rise ms ≡ true
  pub deep : n ≡ members_depth ms
