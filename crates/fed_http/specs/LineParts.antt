-- Line ends at the front of bytes.
use Rattle.std.specs.Prelude.{◌≡◌, ◌≢◌, ℕ, zero, suc, ◌≤◌, List, ◌++◌, length, drop}
use Rattle.httparse.specs.Grammar.{LineEnd, print_end}

-- no line end is at the front
abbrev pub BeginsNoLine : List ℕ → Type 0
BeginsNoLine bytes = (e : LineEnd) (rest : List ℕ) → bytes ≢ print_end e ++ rest

-- a line end of so many bytes is at the front, or none
abbrev pub LineEndAt : List ℕ → ℕ → Type 0
LineEndAt bytes zero = BeginsNoLine bytes
LineEndAt bytes (suc n) = (suc n ≤ length bytes) × ((e : LineEnd) × (bytes ≡ print_end e ++ drop (suc n) bytes))
