-- Identifiers of users, rooms and events (Matrix, appendix "Common Namespace Format"): a sigil, then a localpart and, behind the
-- first colon, the name of a server.
use Rattle.std.specs.Prelude.{ℕ, List, ◌==◌, ◌&&◌, Bool, nat_le, length, slice_index}
use Rattle.std.specs.List.{list_any, after_first}

-- what follows the first colon, which is 58; nothing where there is none
abbrev pub domain_of : List ℕ → List ℕ
domain_of id = after_first (λ c. c == 58) id

-- a text that begins with this character and has a colon
abbrev pub is_id_text : ℕ → List ℕ → Bool
is_id_text sigil text = slice_index text 0 == sigil && list_any (λ c. c == 58) text

-- a user id: at most 255 bytes, `@`, which is 64, and a colon
abbrev pub is_user_id : List ℕ → Bool
is_user_id text = nat_le (length text) 255 && is_id_text 64 text
