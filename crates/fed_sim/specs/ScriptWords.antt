-- The words of a line of a script. A word is not empty, and has no space, which is 32.
use Rattle.std.specs.Prelude.{ℕ, ◌==◌, ◌&&◌, not, nat_le, Bool, List, [], ◌∷◌, length, bytes_eq, Option, Some, None, if◌then◌else◌}
use Rattle.std.specs.List.{list_any, list_all, before_first, after_first}
use Rattle.std.specs.Option.{option_and_then}
use Rattle.std.specs.Char.{is_ascii_digit}
use Rattle.std.specs.Str.Parse.{digits_value}

abbrev pub is_space : ℕ → Bool
is_space byte = byte == 32

abbrev pub is_empty : List ℕ → Bool
is_empty text = length text == 0

-- a space stands in the text, and something before the first one
abbrev pub is_led_by_word : List ℕ → Bool
is_led_by_word text = list_any is_space text && not (is_empty (before_first is_space text))

-- the first of several words, and all that stands behind the space after it
unfoldable pub first_word : List ℕ → Option (List ℕ × List ℕ)
first_word text = if is_led_by_word text then Some (before_first is_space text, after_first is_space text) else None

-- a text that is one word
unfoldable pub only_word : List ℕ → Option (List ℕ)
only_word text = if not (is_empty text) && not (list_any is_space text) then Some text else None

-- a text that is two words
unfoldable pub two_words : List ℕ → Option (List ℕ × List ℕ)
two_words text = option_and_then (λ led. option_and_then (λ other. Some (led.0, other)) (only_word led.1)) (first_word text)

-- a text in which spaces are nothing special, and which is not empty
unfoldable pub whole_rest : List ℕ → Option (List ℕ)
whole_rest text = if is_empty text then None else Some text

-- the number that 1 to 16 decimal digits are
unfoldable pub number_of : List ℕ → Option ℕ
number_of text = if nat_le 1 (length text) && nat_le (length text) 16 && list_all is_ascii_digit text then Some (digits_value 10 text) else None

-- the key behind `=`, which is 61
abbrev pub key_behind : List ℕ → Option (Option (List ℕ))
key_behind [] = None
key_behind (sign ∷ key) = if sign == 61 then Some (Some key) else None

-- `-`, which is 45, for no state key, or `=` and the key, which may be empty
unfoldable pub state_key_of : List ℕ → Option (Option (List ℕ))
state_key_of word = if bytes_eq word (45 ∷ []) then Some None else key_behind word
