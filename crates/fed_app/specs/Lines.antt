-- The lines of an input, and their words.
use Rattle.std.specs.Prelude.{ℕ, List, [], ◌∷◌, map, ◌==◌, Option, Some, None, is_none, if◌then◌else◌}
use Rattle.std.specs.List.{position_from}
use Rattle.fed_inbox.specs.Answer.{SendRequest}
use Rattle.fed_app.specs.Words.{words_of}

-- the lines, where this byte stands before the first of them
abbrev pub with_byte : ℕ → List (List ℕ) → List (List ℕ)
with_byte byte [] = (byte ∷ []) ∷ []
with_byte byte (line ∷ lines) = (byte ∷ line) ∷ lines

-- each line without its newline, which is byte 10; where the last line has none, the end of the input ends it too
abbrev pub lines_of : List ℕ → List (List ℕ)
lines_of [] = []
lines_of (byte ∷ bytes) = if byte == 10 then [] ∷ lines_of bytes else with_byte byte (lines_of bytes)

-- the words of each line, or None where it has not the right ones
abbrev pub words_in : List ℕ → List (Option SendRequest)
words_in input = map words_of (lines_of input)

-- the number, from 1, of the first line that has not the right words
abbrev pub wrong_line : List (Option SendRequest) → Option ℕ
wrong_line words = position_from is_none 1 words

-- the requests of the lines before that one
abbrev pub requests_of : List (Option SendRequest) → List SendRequest
requests_of [] = []
requests_of (None ∷ words) = []
requests_of (Some request ∷ words) = request ∷ requests_of words
