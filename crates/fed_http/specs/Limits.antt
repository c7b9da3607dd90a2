-- How large a message may be, where its standard sets no limit (RFC 9112, sections 2.3, 5.4 and 7.1.1; RFC 9110, section 5.4).
use Rattle.std.specs.Prelude.{ℕ, List, take}

-- the most bytes of a head, of a trailer, and of a chunk line with its line end
abbrev pub max_head : ℕ
max_head = 16384

-- the most fields of a head and of a trailer
abbrev pub max_fields : ℕ
max_fields = 64

-- the most bytes of a body
abbrev pub max_body : ℕ
max_body = 16777216

-- the most bytes that a reader keeps: a head or its parts, a chunk line or a trailer, and a body
abbrev pub max_held : ℕ
max_held = 16809984

-- the most digits of a body's length
abbrev pub max_length_digits : ℕ
max_length_digits = 19

-- the first bytes, in which a head, a trailer or a chunk line is looked for
abbrev pub window : List ℕ → List ℕ
window bytes = take max_head bytes
