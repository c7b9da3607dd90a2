-- A text whose bytes each stand as they are stands as it is.
use Rattle.std.proofs.Common.{rules, ◌≡◌, ◌≤◌, ◌+◌, ℕ, suc, false, nat_lt, List, [], ◌∷◌, ◌++◌, length, slice_index_or, inl, inr, refl, ap₂, arith}
use Rattle.std.proofs.lemmas.Bool.{cases_lt}
use Rattle.std.proofs.lemmas.Simd.{none_from_empty_mask}
use Rattle.std.specs.Prelude.{◌==◌}
use lib.Lanes.{chunk}
use Rattle.json.specs.Print.{escape, escape_byte}
use Rattle.fed_json.specs.PlainTexts.{ArePlain, HasNone}

pub plain_text : (text : List ℕ) → ArePlain text (length text) → escape text ≡ text
plain_text [] plain = refl
plain_text (x ∷ text) plain = ap₂ (λ a b. a ++ b) (plain 0 (omega arith)) (plain_text text (λ at within. plain (suc at) (omega arith)))

plain_byte : (x : ℕ) → (x == 34) ≡ false → (x == 92) ≡ false → nat_lt x 32 ≡ false → escape_byte x ≡ x ∷ []
unfolding escape_byte
plain_byte x quote backslash control = search rules

-- a run that was looked at at once, behind bytes that are plain
pub plain_run : (text : List ℕ) (from count : ℕ) → from + count ≤ length text → ArePlain text from
    → HasNone (λ x. x == 34) (chunk from count text) → HasNone (λ x. x == 92) (chunk from count text) → HasNone (λ x. nat_lt x 32) (chunk from count text)
    → ArePlain text (from + count)
plain_run text from count within before quotes backslashes controls at near =
    elim (cases_lt at from) [
      | inl lt ↦ before at lt
      | inr le ↦ plain_byte (slice_index_or text at 0)
          (none_from_empty_mask (λ x. x == 34) text from count 0 within quotes at le near)
          (none_from_empty_mask (λ x. x == 92) text from count 0 within backslashes at le near)
          (none_from_empty_mask (λ x. nat_lt x 32) text from count 0 within controls at le near)
    ]
