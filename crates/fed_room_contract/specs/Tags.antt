-- Numbers by which texts are told apart.
use Rattle.std.specs.Prelude.{◌+◌, ◌*◌, ◌%◌, ℕ, List}
use Rattle.std.specs.List.{fold}

abbrev pub tag_step : ℕ → ℕ → ℕ
tag_step tag byte = tag % 65536 * 31 + byte

-- a number by which most texts are told apart, made from another number on
unfoldable pub tag_of_text : ℕ → List ℕ → ℕ
tag_of_text start text = fold tag_step start text
