-- Texts of which nothing is escaped (appendix "Canonical JSON"): printable ASCII without `"` and `\`.
use Rattle.std.specs.Prelude.{◌≢◌, ℕ, ◌<◌, ◌≤◌, List}
use Rattle.std.specs.List.{All}

abbrev pub IsPlainByte : ℕ → Type 0
IsPlainByte x = (32 ≤ x) × (x < 127) × (x ≢ 34) × (x ≢ 92)

abbrev pub IsPlain : List ℕ → Type 0
IsPlain text = All IsPlainByte text
