-- The lines of a head and of a trailer, counted by the line feeds that end them (RFC 9112, section 2.2).
use Rattle.std.specs.Prelude.{ℕ, zero, suc, Bool, ◌||◌, ◌==◌, if◌then◌else◌, List, [], ◌∷◌}

-- how many lines end in bytes
abbrev pub line_feeds : List ℕ → ℕ
line_feeds [] = 0
line_feeds (b ∷ bytes) = if b == 10 then suc (line_feeds bytes) else line_feeds bytes

-- CR or LF
abbrev pub is_line_byte : ℕ → Bool
is_line_byte b = b == 13 || b == 10

-- bytes without the CR and LF in front
abbrev pub behind_ends : List ℕ → List ℕ
behind_ends [] = []
behind_ends (b ∷ bytes) = if is_line_byte b then behind_ends bytes else b ∷ bytes

-- how many lines of a head end in bytes, the empty ones in front left out: its first line and those of its fields
abbrev pub head_lines : List ℕ → ℕ
head_lines bytes = line_feeds (behind_ends bytes)

-- the first n lines of bytes, of which the last may have no end yet
abbrev pub first_lines : List ℕ → ℕ → List ℕ
first_lines [] n = []
first_lines (b ∷ bytes) zero = []
first_lines (b ∷ bytes) (suc n) = b ∷ first_lines bytes (if b == 10 then n else suc n)
