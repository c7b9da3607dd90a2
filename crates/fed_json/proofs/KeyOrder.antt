-- The bytes of UTF-8 keep the order of the characters.
use Rattle.std.proofs.Common.{◌≡◌, ℕ, ◌+◌, ◌/◌, ◌<◌, ◌≤◌, List, [], ◌∷◌, ◌++◌, Ordering, Less, Equal, Greater, nat_cmp, IsUtf8, ◌⊎◌, inl, inr, refl, sym, ap, ◌∙◌, arith, lt-ltb, le-ltb}
use Rattle.std.proofs.lemmas.Bool.{cases_lt}
use Rattle.std.proofs.lemmas.Cmp.{nat_list_cmp_total, nat_cmp_total, tied_itself}
use Rattle.std.specs.Cmp.{nat_cmp_is}
use Rattle.std.proofs.lemmas.Str.{encodes-chars}
use Rattle.std.specs.Ordering.{ordering_reverse}
use Rattle.std.specs.Str.{chars}
use Rattle.std.specs.Cmp.Lexicographic.{slice_cmp}
use lib.Utf8.{encode, encodes, next}

abbrev order : List ℕ → List ℕ → Ordering
order = slice_cmp nat_cmp

-- the first bytes decide, and where they are equal the rest does
decides : (a b : ℕ) (x y : List ℕ) → a ≤ b → (a ≡ b → order x y ≡ Less) → order (a ∷ x) (b ∷ y) ≡ Less
decides a b x y h rest = by (cases_lt a b)
  where
    by : (a < b) ⊎ (b ≤ a) → order (a ∷ x) (b ∷ y) ≡ Less
    by (inl less) = let first : nat_cmp a b ≡ Less = sym (nat_cmp_is a b Less less) in rw first
    by (inr more) =
        let same : a ≡ b = omega arith in
        let first : nat_cmp a b ≡ Equal = sym (nat_cmp_is a b Equal same) in
        rw first (rest same)

lower : (a b : ℕ) (x y : List ℕ) → a < b → order (a ∷ x) (b ∷ y) ≡ Less
lower a b x y h = let first : nat_cmp a b ≡ Less = sym (nat_cmp_is a b Less h) in rw first

-- how many bytes a character takes
data Sized (c : ℕ) : Type 0 where
  one : c < 128 → Sized c
  two : 128 ≤ c → c < 2048 → Sized c
  three : 2048 ≤ c → c < 65536 → Sized c
  four : 65536 ≤ c → Sized c

sized : (c : ℕ) → Sized c
sized c = by (cases_lt c 128) (cases_lt c 2048) (cases_lt c 65536)
  where
    by : (c < 128) ⊎ (128 ≤ c) → (c < 2048) ⊎ (2048 ≤ c) → (c < 65536) ⊎ (65536 ≤ c) → Sized c
    by (inl h) q r = one h
    by (inr p) (inl h) r = two p h
    by (inr p) (inr q) (inl h) = three q h
    by (inr p) (inr q) (inr r) = four r

encode_one : (c : ℕ) → c < 128 → encode c ≡ c ∷ []
unfolding encode
encode_one c h = rw (lt-ltb c 128 h)

encode_two : (c : ℕ) → 128 ≤ c → c < 2048 → encode c ≡ (192 + c / 64) ∷ next c ∷ []
unfolding encode
encode_two c l h = rw (le-ltb c 128 l, lt-ltb c 2048 h)

encode_three : (c : ℕ) → 2048 ≤ c → c < 65536 → encode c ≡ (224 + c / 4096) ∷ next (c / 64) ∷ next c ∷ []
unfolding encode
encode_three c l h = rw (le-ltb c 128 (omega arith), le-ltb c 2048 l, lt-ltb c 65536 h)

encode_four : (c : ℕ) → 65536 ≤ c → encode c ≡ (240 + c / 262144) ∷ next (c / 4096) ∷ next (c / 64) ∷ next c ∷ []
unfolding encode
encode_four c l = rw (le-ltb c 128 (omega arith), le-ltb c 2048 (omega arith), le-ltb c 65536 l)

two_bytes : (a c d : ℕ) (x y : List ℕ) → c < d → c / 64 ≤ d / 64 → order ((a + c / 64) ∷ next c ∷ x) ((a + d / 64) ∷ next d ∷ y) ≡ Less
two_bytes a c d x y h l = decides (a + c / 64) (a + d / 64) (next c ∷ x) (next d ∷ y) (omega arith) (λ e. lower (next c) (next d) x y (omega arith))

three_bytes : (a c d : ℕ) (x y : List ℕ) → c < d → order ((a + c / 4096) ∷ next (c / 64) ∷ next c ∷ x) ((a + d / 4096) ∷ next (d / 64) ∷ next d ∷ y) ≡ Less
three_bytes a c d x y h =
    decides (a + c / 4096) (a + d / 4096) (next (c / 64) ∷ next c ∷ x) (next (d / 64) ∷ next d ∷ y) (omega arith)
    (λ e. decides (next (c / 64)) (next (d / 64)) (next c ∷ x) (next d ∷ y) (omega arith)
    (λ f. lower (next c) (next d) x y (omega arith)))

four_bytes : (c d : ℕ) (x y : List ℕ) → c < d → order ((240 + c / 262144) ∷ next (c / 4096) ∷ next (c / 64) ∷ next c ∷ x) ((240 + d / 262144) ∷ next (d / 4096) ∷ next (d / 64) ∷ next d ∷ y) ≡ Less
four_bytes c d x y h =
    decides (240 + c / 262144) (240 + d / 262144) (next (c / 4096) ∷ next (c / 64) ∷ next c ∷ x) (next (d / 4096) ∷ next (d / 64) ∷ next d ∷ y) (omega arith)
    (λ e. decides (next (c / 4096)) (next (d / 4096)) (next (c / 64) ∷ next c ∷ x) (next (d / 64) ∷ next d ∷ y) (omega arith)
    (λ f. decides (next (c / 64)) (next (d / 64)) (next c ∷ x) (next d ∷ y) (omega arith)
    (λ g. lower (next c) (next d) x y (omega arith))))

smaller : (c d : ℕ) (x y : List ℕ) → Sized c → Sized d → c < d → order (encode c ++ x) (encode d ++ y) ≡ Less
smaller c d x y (one p) (one q) h = rw (encode_one c p, encode_one d q) (lower c d x y h)
smaller c d x y (one p) (two q r) h = rw (encode_one c p, encode_two d q r) (lower c (192 + d / 64) x (next d ∷ y) (omega arith))
smaller c d x y (one p) (three q r) h = rw (encode_one c p, encode_three d q r) (lower c (224 + d / 4096) x (next (d / 64) ∷ next d ∷ y) (omega arith))
smaller c d x y (one p) (four q) h = rw (encode_one c p, encode_four d q) (lower c (240 + d / 262144) x (next (d / 4096) ∷ next (d / 64) ∷ next d ∷ y) (omega arith))
smaller c d x y (two o p) (one q) h = absurd (omega arith)
smaller c d x y (two o p) (two q r) h = rw (encode_two c o p, encode_two d q r) (two_bytes 192 c d x y h (omega arith))
smaller c d x y (two o p) (three q r) h = rw (encode_two c o p, encode_three d q r) (lower (192 + c / 64) (224 + d / 4096) (next c ∷ x) (next (d / 64) ∷ next d ∷ y) (omega arith))
smaller c d x y (two o p) (four q) h = rw (encode_two c o p, encode_four d q) (lower (192 + c / 64) (240 + d / 262144) (next c ∷ x) (next (d / 4096) ∷ next (d / 64) ∷ next d ∷ y) (omega arith))
smaller c d x y (three o p) (one q) h = absurd (omega arith)
smaller c d x y (three o p) (two q r) h = absurd (omega arith)
smaller c d x y (three o p) (three q r) h = rw (encode_three c o p, encode_three d q r) (three_bytes 224 c d x y h)
smaller c d x y (three o p) (four q) h = rw (encode_three c o p, encode_four d q) (lower (224 + c / 4096) (240 + d / 262144) (next (c / 64) ∷ next c ∷ x) (next (d / 4096) ∷ next (d / 64) ∷ next d ∷ y) (omega arith))
smaller c d x y (four o) (one q) h = absurd (omega arith)
smaller c d x y (four o) (two q r) h = absurd (omega arith)
smaller c d x y (four o) (three q r) h = absurd (omega arith)
smaller c d x y (four o) (four q) h = rw (encode_four c o, encode_four d q) (four_bytes c d x y h)

-- what two lists begin with alike does not decide
same_start : (p x y : List ℕ) → order (p ++ x) (p ++ y) ≡ order x y
same_start [] x y = refl
same_start (a ∷ p) x y = let first : nat_cmp a a ≡ Equal = tied_itself nat_cmp_total a in rw first (same_start p x y)

starts : (c : ℕ) (x : List ℕ) → Sized c → order [] (encode c ++ x) ≡ Less
starts c x (one p) = rw (encode_one c p)
starts c x (two o p) = rw (encode_two c o p)
starts c x (three o p) = rw (encode_three c o p)
starts c x (four o) = rw (encode_four c o)

reversed : (x y : List ℕ) → order x y ≡ Less → order y x ≡ Greater
reversed x y h = nat_list_cmp_total.antisymm y x ∙ ap ordering_reverse h

-- two texts compare as their first characters do, and else as the rest
next_character : (c d : ℕ) (cs ds : List ℕ) → order (encodes cs) (encodes ds) ≡ order cs ds → order (encode c ++ encodes cs) (encode d ++ encodes ds) ≡ order (c ∷ cs) (d ∷ ds)
next_character c d cs ds rest = by (cases_lt c d) (cases_lt d c)
  where
    by : (c < d) ⊎ (d ≤ c) → (d < c) ⊎ (c ≤ d) → order (encode c ++ encodes cs) (encode d ++ encodes ds) ≡ order (c ∷ cs) (d ∷ ds)
    by (inl h) q = smaller c d (encodes cs) (encodes ds) (sized c) (sized d) h ∙ sym (lower c d cs ds h)
    by (inr p) (inl h) =
        reversed (encode d ++ encodes ds) (encode c ++ encodes cs) (smaller d c (encodes ds) (encodes cs) (sized d) (sized c) h) ∙ sym (reversed (d ∷ ds) (c ∷ cs) (lower d c ds cs h))
    by (inr p) (inr q) =
        let same : c ≡ d = omega arith in
        let first : nat_cmp d d ≡ Equal = tied_itself nat_cmp_total d in
        rw (same, first) (same_start (encode d) (encodes cs) (encodes ds) ∙ rest)

pub bytes_order : (cs ds : List ℕ) → order (encodes cs) (encodes ds) ≡ order cs ds
bytes_order [] [] = refl
bytes_order [] (d ∷ ds) = starts d (encodes ds) (sized d)
bytes_order (c ∷ cs) [] = reversed [] (encode c ++ encodes cs) (starts c (encodes cs) (sized c))
bytes_order (c ∷ cs) (d ∷ ds) = next_character c d cs ds (bytes_order cs ds)

-- of two texts
pub chars_order : (s t : List ℕ) → IsUtf8 s → IsUtf8 t → order (chars s) (chars t) ≡ order s t
chars_order s t hs ht = sym (bytes_order (chars s) (chars t)) ∙ rw (encodes-chars s hs, encodes-chars t ht)
