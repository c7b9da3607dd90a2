-- Names of servers as an array gives them, for the clauses of private functions.
use Rattle.std.specs.Prelude.{◌≡◌, ℕ, List, All, map}
use Rattle.serde_json.specs.Data.{Data, string}
use Rattle.fed_dest.specs.ServerName.{IsServerName}

-- the items are these names of servers
pub record AreNames (items : List Data) (names : List (List ℕ)) : Type 0 where
  pub texts : items ≡ map string names
  pub each : All IsServerName names

abbrev pub HasNoNames : List Data → Type 0
HasNoNames items = (names : List (List ℕ)) → ¬ AreNames items names

abbrev pub IsNoName : Data → Type 0
IsNoName item = (name : List ℕ) → item ≡ string name → ¬ IsServerName name
