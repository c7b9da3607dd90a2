-- The text of a body, put together of its parts.
use Rattle.std.proofs.Common.{◌≡◌, ℕ, List, [], ◌∷◌, ◌++◌, refl, append_assoc, codes}
use Rattle.json.specs.Print.{escape_byte}
use Rattle.serde_json.specs.Data.{Data, string, number, unsigned, object, Members, no_members, member}
use Rattle.fed_json.specs.CanonicalText.{canonical_text}
use Rattle.fed_txn.specs.Writing.{list_value, with_edus, edus_text, header_text, pdus_text}

-- five texts put behind another one after another
pub joined_five : {x₁ x₂ x₃ x₄ x₅ : List ℕ} (t a b c d e : List ℕ) → x₁ ≡ t ++ a → x₂ ≡ x₁ ++ b → x₃ ≡ x₂ ++ c → x₄ ≡ x₃ ++ d → x₅ ≡ x₄ ++ e
    → x₅ ≡ t ++ (a ++ (b ++ (c ++ (d ++ e))))
joined_five t a b c d e p₁ p₂ p₃ p₄ p₅ = rw (p₅, p₄, p₃, p₂, p₁, append_assoc, append_assoc, append_assoc, append_assoc) refl

-- four texts put behind another one after another
pub joined_four : {x₁ x₂ x₃ x₄ : List ℕ} (t a b c d : List ℕ) → x₁ ≡ t ++ a → x₂ ≡ x₁ ++ b → x₃ ≡ x₂ ++ c → x₄ ≡ x₃ ++ d
    → x₄ ≡ t ++ (a ++ (b ++ (c ++ d)))
joined_four t a b c d p₁ p₂ p₃ p₄ = rw (p₄, p₃, p₂, p₁, append_assoc, append_assoc, append_assoc) refl

abbrev header : List ℕ → ℕ → Members → Members
header origin at_ms rest = member (codes "origin") (string origin) (member (codes "origin_server_ts") (number (unsigned at_ms)) rest)

-- the object of a body is its parts, one behind another
pub body_text : (edus pdus : List Data) (origin : List ℕ) (at_ms : ℕ)
    → codes "{" ++ (edus_text edus ++ (header_text origin at_ms ++ (pdus_text pdus ++ codes "}")))
    ≡ canonical_text (object (with_edus edus (header origin at_ms (member (codes "pdus") (list_value pdus) no_members))))
unfolding escape_byte
body_text [] pdus origin at_ms = simp append_assoc refl
body_text (edu ∷ edus) pdus origin at_ms = simp append_assoc refl
