-- The quoted text is the one that the crate `json` writes.
use Rattle.std.proofs.Common.{◌≡◌, ℕ, List, [], ◌∷◌, ◌++◌, ◌⊎◌, inl, inr, flat_map, refl, sym, ap, ap₂, subst, ne_eqb}
use Rattle.std.proofs.lemmas.Bool.{cases_eq}
use Rattle.json.specs.Print.{escape, escape_byte, quoted}
use Rattle.fed_json.specs.Quoted.{escaped, in_quotes}

abbrev Agree : ℕ → Type 0
Agree x = escaped x ≡ escape_byte x

-- none of the characters with a short escape
plain : (x : ℕ) → (x ≡ 34 → ⊥) → (x ≡ 92 → ⊥) → (x ≡ 8 → ⊥) → (x ≡ 9 → ⊥) → (x ≡ 10 → ⊥) → (x ≡ 12 → ⊥) → (x ≡ 13 → ⊥) → Agree x
unfolding escaped escape_byte
plain x a b c d e f g = rw (ne_eqb x 34 a, ne_eqb x 92 b, ne_eqb x 8 c, ne_eqb x 9 d, ne_eqb x 10 e, ne_eqb x 12 f, ne_eqb x 13 g)

escaped-byte : (x : ℕ) → Agree x
unfolding escaped escape_byte
escaped-byte x = by (cases_eq x 34) (cases_eq x 92) (cases_eq x 8) (cases_eq x 9) (cases_eq x 10) (cases_eq x 12) (cases_eq x 13)
  where
    by : (x ≡ 34) ⊎ (x ≡ 34 → ⊥) → (x ≡ 92) ⊎ (x ≡ 92 → ⊥) → (x ≡ 8) ⊎ (x ≡ 8 → ⊥) → (x ≡ 9) ⊎ (x ≡ 9 → ⊥) → (x ≡ 10) ⊎ (x ≡ 10 → ⊥) → (x ≡ 12) ⊎ (x ≡ 12 → ⊥) → (x ≡ 13) ⊎ (x ≡ 13 → ⊥) → Agree x
    by (inl is) b c d e f g = subst Agree (sym is) refl
    by (inr a) (inl is) c d e f g = subst Agree (sym is) refl
    by (inr a) (inr b) (inl is) d e f g = subst Agree (sym is) refl
    by (inr a) (inr b) (inr c) (inl is) e f g = subst Agree (sym is) refl
    by (inr a) (inr b) (inr c) (inr d) (inl is) f g = subst Agree (sym is) refl
    by (inr a) (inr b) (inr c) (inr d) (inr e) (inl is) g = subst Agree (sym is) refl
    by (inr a) (inr b) (inr c) (inr d) (inr e) (inr f) (inl is) = subst Agree (sym is) refl
    by (inr a) (inr b) (inr c) (inr d) (inr e) (inr f) (inr g) = plain x a b c d e f g

escaped-all : (s : List ℕ) → flat_map escaped s ≡ escape s
escaped-all [] = refl
escaped-all (x ∷ s) = ap₂ (λ a b. a ++ b) (escaped-byte x) (escaped-all s)

pub in_quotes-quoted : (s : List ℕ) → in_quotes s ≡ quoted s
in_quotes-quoted s = ap (λ t. 34 ∷ (t ++ 34 ∷ [])) (escaped-all s)
