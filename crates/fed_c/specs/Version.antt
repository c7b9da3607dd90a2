-- The number of the interface (c/wikzord.h, `WIKZORD_VERSION`).
use Rattle.std.specs.Prelude.{ℕ}

abbrev pub version : ℕ
version = 3
