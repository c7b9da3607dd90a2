-- The words of a line, as a request: the first two spaces end the origin and the transaction number, and the rest is the body.
use Rattle.std.specs.Prelude.{ℕ, List, Bool, ◌&&◌, ◌==◌, nat_lt, length, Option, Some, None, if◌then◌else◌}
use Rattle.std.specs.List.{before_first, after_first}
use Rattle.std.specs.Str.{is_utf8}
use Rattle.fed_inbox.specs.Answer.{SendRequest, request_of}

abbrev pub is_space : ℕ → Bool
is_space byte = byte == 32

-- what stands before the first space, and what stands after it: all and nothing where there is no space
abbrev pub first_word : List ℕ → List ℕ
first_word line = before_first is_space line

abbrev pub later_words : List ℕ → List ℕ
later_words line = after_first is_space line

abbrev pub has_bytes : List ℕ → Bool
has_bytes bytes = nat_lt 0 (length bytes)

-- a text that is not empty
abbrev pub is_word : List ℕ → Bool
is_word bytes = has_bytes bytes && is_utf8 bytes

-- the origin and the transaction number are words, and the body is not empty
abbrev pub are_words : SendRequest → Bool
are_words r = is_word r.origin && is_word r.txn && has_bytes r.body

abbrev pub parts_of : List ℕ → SendRequest
parts_of line = request_of (first_word line) (first_word (later_words line)) (later_words (later_words line))

abbrev pub words_of : List ℕ → Option SendRequest
words_of line = if are_words (parts_of line) then Some (parts_of line) else None
