-- The members that a `Members` has left.
use Rattle.std.specs.Prelude.{ℕ, List}
use Rattle.std.specs.Borrow.{Bor}
use Rattle.serde_json.specs.Data.{Data}
use Rattle.fed_json.specs.Tree.{members_view}
use Rattle.fed_json.specs.JsonRef.{seen, pairs_of}
use Rattle.fed_json.specs.declared.json_ref.JsonRef.{JsonRef}
use Rattle.fed_json.specs.declared.members.Members.{Members}

abbrev pub members_left : Members → List (List ℕ × Data)
members_left s = pairs_of (members_view s.entries.now)

abbrev pub pair_seen : Bor (List ℕ) × JsonRef → List ℕ × Data
pair_seen p = (p.0.now, seen p.1)
