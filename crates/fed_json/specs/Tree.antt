-- The value that a `Tree` stands for.
use Rattle.std.specs.Prelude.{◌≡◌, ℕ, List, ◌++◌, map, String, string_bytes}
use Rattle.std.specs.declared.alloc.Global.{Global}
use Rattle.serde_json.specs.Data.{Data, null, boolean, number, string, array, object, Items, Members}
use Rattle.serde_json.specs.Find.{of_integer}
use Rattle.serde_json.specs.View.{items_of, members_of}
use Rattle.fed_json.specs.declared.tree.Tree.{Tree, fold-Tree}
use Rattle.fed_json.specs.declared.tree.Tree.TheOpen.{Tree-F}

-- one level, with each part already seen as its value
abbrev pub view_step : Tree-F Data → Data
view_step Tree-F.Null = null
view_step (Tree-F.Bool b) = boolean b
view_step (Tree-F.Number n) = number (of_integer n)
view_step (Tree-F.String s) = string (string_bytes s)
view_step (Tree-F.Array v) = array (items_of v.items)
view_step (Tree-F.Object v) = object (members_of v.items)

abbrev pub view : Tree → Data
view = fold-Tree Data view_step

abbrev pub items_view : List Tree → Items
items_view ts = items_of (map view ts)

abbrev pub members_view : List (String Global × Tree) → Members
members_view ms = members_of (map (λ m. (m.0, view m.1)) ms)

-- the second list begins with the first
abbrev pub Begins : List ℕ → List ℕ → Type 0
Begins front whole = (rest : List ℕ) × (whole ≡ front ++ rest)
