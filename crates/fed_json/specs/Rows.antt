-- The types that a `Tree` holds, as the logic holds them, for the clauses on what a `&mut` lends.
use denote.RattleType.{RattleType}
use denote.Struct.Tuple.{Tuple}
use Rattle.std.specs.Prelude.{[], ◌∷◌}
use Rattle.std.specs.contracts.alloc.Global as global
use Rattle.std.specs.contracts.vec.Vec as vec
use Rattle.std.specs.contracts.string.String as text
use Rattle.std.specs.contracts.impls.GlobalAllocator.TheImpl.{ghosts}
use Rattle.fed_json.specs.contracts.tree.Tree.{the_row}

abbrev pub items_row : RattleType
items_row = vec.the_row the_row global.the_row ghosts

abbrev pub members_row : RattleType
members_row = vec.the_row (Tuple (text.the_row global.the_row ghosts ∷ the_row ∷ [])) global.the_row ghosts
