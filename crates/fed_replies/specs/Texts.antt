-- The texts of failed verdicts, each once.
use Rattle.std.specs.Prelude.{ℕ, List, [], ◌∷◌, ◌++◌, bytes_eq, if◌then◌else◌}
use Rattle.std.specs.List.{list_any}

abbrev pub Texts : Type 0
Texts = List (List ℕ)

-- with one more text, where it is a new one
abbrev pub with_text : Texts → List ℕ → Texts
with_text texts text = if list_any (bytes_eq text) texts then texts else texts ++ text ∷ []
