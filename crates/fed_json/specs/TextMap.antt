-- A map from texts, as a finite map from the bytes of each text.
use Rattle.std.specs.Prelude.{List, map, String, string_bytes}
use Rattle.std.specs.declared.alloc.Global.{Global}
use Rattle.std.specs.Coded.{Coded, coded_ℕ, coded_list}
use Rattle.std.specs.FinMap as finite
use Rattle.std.specs.Ordering.{nat_cmp}
use Rattle.std.specs.Cmp.Lexicographic.{slice_cmp}

abbrev pub TextMap : Type 0 → Type 0
TextMap X = finite.FinMap (slice_cmp nat_cmp) X

abbrev pub text_map_code : {X : Type 0} → Coded X → Coded (TextMap X)
text_map_code values = finite.code (coded_list coded_ℕ) values

-- the map of entries in the order of their keys, each value seen as `seen` says
abbrev pub text_map : {V X : Type 0} → (V → X) → List (String Global × V) → TextMap X
text_map seen entries = finite.from_sorted (map (λ e. (string_bytes e.0, seen e.1)) entries)
