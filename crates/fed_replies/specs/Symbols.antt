-- The symbols of base64 with the URL-safe alphabet (RFC 4648, section 5), two by two.
use Rattle.std.specs.Prelude.{◌≡◌, ℕ, ◌/◌, ◌%◌, ◌<◌, List, [], ◌∷◌, length, slice_index, slice_index_or}
use Rattle.base64.specs.Engines.{url_safe_no_pad}

abbrev pub alphabet : List ℕ
alphabet = url_safe_no_pad.encode_table

-- the two symbols of a number of 12 bits
abbrev pub pair_of : ℕ → List ℕ
pair_of number = slice_index alphabet (number / 64) ∷ slice_index alphabet (number % 64) ∷ []

-- at each place stands its pair
abbrev pub ArePairs : List (List ℕ) → Type 0
ArePairs pairs = (number : ℕ) → number < length pairs → slice_index_or pairs number [] ≡ pair_of number
