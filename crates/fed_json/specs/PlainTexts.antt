-- Texts that stand in quotes as they are. Only the crate's private clauses cite it.
use Rattle.std.specs.Prelude.{◌≡◌, ◌<◌, ℕ, Bool, List, [], ◌∷◌, map, slice_index_or}
use Rattle.std.specs.Simd.Lanes.{mask_l}
use Rattle.json.specs.Print.{escape_byte}

-- the bytes before this place
abbrev pub ArePlain : List ℕ → ℕ → Type 0
ArePlain text end = (at : ℕ) → at < end → escape_byte (slice_index_or text at 0) ≡ slice_index_or text at 0 ∷ []

-- no lane passes the test
abbrev pub HasNone : (ℕ → Bool) → List ℕ → Type 0
HasNone test lanes = mask_l (map test lanes) ≡ 0
