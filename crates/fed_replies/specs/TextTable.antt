-- What holds inside of a table of texts, and what becomes of it where the number of a text is asked for.
use Rattle.std.specs.Prelude.{◌≡◌, ℕ, ◌<◌, ◌≤◌, List, [], length, slice_index_or, Option, Some, None, String}
use Rattle.std.specs.declared.alloc.Global.{Global}
use Rattle.std.specs.BTreeMap.{BTreeMap, IsOrdered, get_by_text}
use Rattle.std.specs.String.{string_cmp}
use Rattle.fed_replies.specs.Texts.{Texts, with_text}

-- the text stands at this place
abbrev pub IsTextAt : Texts → ℕ → List ℕ → Type 0
IsTextAt texts number text = (number < length texts) × (slice_index_or texts number [] ≡ text)

-- the map has for each text its place, and nothing else
pub record IsNumbered (texts : Texts) (numbers : BTreeMap (String Global) ℕ) : Type 0 where
  pub ordered : IsOrdered string_cmp numbers
  pub numbered : (number : ℕ) → number < length texts → get_by_text numbers (slice_index_or texts number []) ≡ Some number
  pub only : (text : List ℕ) (number : ℕ) → get_by_text numbers text ≡ Some number → IsTextAt texts number text
  pub few : length texts ≤ 65535

-- the text has this number in the table that has it; or it would be the 65,536th, and the table is as it was
abbrev pub IsNumberFor : Texts → List ℕ → Option ℕ → Texts → Type 0
IsNumberFor old text (Some number) new = (new ≡ with_text old text) × IsTextAt new number text
IsNumberFor old text None new = (new ≡ old) × (65535 < length (with_text old text))
