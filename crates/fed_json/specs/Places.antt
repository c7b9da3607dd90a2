-- Where a member stands among others in the order of their names.
use Rattle.std.specs.Prelude.{ℕ, List, String, string_bytes}
use Rattle.std.specs.declared.alloc.Global.{Global}
use Rattle.std.specs.declared.cmp.Ordering.{Ordering}
use Rattle.std.specs.Ordering.{nat_cmp}
use Rattle.std.specs.Cmp.Lexicographic.{slice_cmp}
use Rattle.fed_json.specs.declared.tree.Tree.{Tree}

abbrev pub Entry : Type 0
Entry = String Global × Tree

abbrev pub name_of : Entry → List ℕ
name_of e = string_bytes e.0

-- how the member's name stands to this one
abbrev pub asked : List ℕ → Entry → Ordering
asked name e = slice_cmp nat_cmp (name_of e) name
