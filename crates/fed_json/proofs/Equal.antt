-- Two values are the same exactly where their canonical texts are.
use Rattle.std.proofs.Common.{◌≡◌, ℕ, List, Bool, true, false, ◌↔◌, IsTrue, refl, ap, sym, bytes_eq}
use Rattle.std.specs.Cmp.Lexicographic.{same_text, other_text}
use Rattle.serde_json.specs.Data.{Data}
use Rattle.fed_json.specs.CanonicalText.{canonical_text, have_one_text}
use Rattle.fed_json.specs.Profile.{IsProfile}
use Rattle.fed_json.proofs.Injective.{compact_text_injective}

-- `false` is not true
is_not_false : IsTrue false → ⊥
is_not_false h = cc

-- whoever tells whether two values are one, tells whether their texts are, where a text belongs to one value alone
pub told_by_texts : {X : Type 0} (text : X → List ℕ) (told same : Bool) (x y : X) → (text x ≡ text y → x ≡ y) → (IsTrue told ↔ (x ≡ y)) → same ≡ bytes_eq (text x) (text y)
    → told ≡ same
told_by_texts text true true x y one means texts = refl
told_by_texts text false false x y one means texts = refl
told_by_texts text true false x y one means texts = absurd (other_text (text x) (text y) texts (ap text (means.0 refl)))
told_by_texts text false true x y one means texts = absurd (is_not_false (means.1 (one (same_text (text x) (text y) texts))))

-- a canonical text belongs to one value of the profile alone
pub value_of_text : (d e : Data) → IsProfile d → IsProfile e → canonical_text d ≡ canonical_text e → d ≡ e
value_of_text d e one another same = compact_text_injective d e one.whole another.whole same

pub value_by_texts : (d e : Data) → IsProfile d → IsProfile e → have_one_text d e ≡ true → d ≡ e
value_by_texts d e one another told = value_of_text d e one another (same_text (canonical_text d) (canonical_text e) (sym told))
