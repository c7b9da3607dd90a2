-- The first line of what is left is what stands before the first newline.
use Rattle.std.proofs.Common.{rules, get_or, ◌≡◌, ℕ, suc, List, [], ◌∷◌, ◌++◌, ◌+◌, ◌-◌, ◌<◌, ◌≤◌, min, Option, None, Some, IfSome, is_some, is_none, Ok, Bool, true, false, true≢false, cond, not, ◌||◌, ◌==◌, nat_lt, ltb-true, ltb-false, position, length, take, drop, slice_range, length-take, length-drop, take_all, drop-drop, drop_of_length-le, one-add, append_assoc, append-nil, refl, sym, ap, ◌∙◌, arith}
use Rattle.std.proofs.lemmas.List.{drop-take, drop_min, length-append}
use Rattle.std.proofs.lemmas.List.Sums.{split_at_first}
use Rattle.std.proofs.lemmas.List.Folds.{list_any-append}
use Rattle.std.proofs.lemmas.List.Quantifiers.{position-Some}
use Rattle.std.specs.List.{list_any, before_first, after_first, position_or_len}
use Rattle.std.specs.Io.KnownBytes.{prepend_known, Keeps, IsAtEnd}
use Rattle.fed_app.specs.Input.{is_newline}
use Rattle.fed_app.specs.Lines.{lines_of, with_byte}
use Rattle.fed_app.specs.Steps.{TakesLine}

by_bool : (b : Bool) (P : Bool → Type 0) → (b ≡ true → P true) → (b ≡ false → P false) → P b
by_bool true P h k = h refl
by_bool false P h k = k refl

abbrev value_or : List ℕ → Option (List ℕ) → List ℕ
value_or other None = other
value_or other (Some bytes) = bytes

some-injective : (a b : List ℕ) → Some a ≡ Some b → a ≡ b
some-injective a b e = ap (value_or a) e

none_is_not : (a : List ℕ) → None ≡ Some a → ⊥
none_is_not a e = true≢false (ap is_none e)

-- ---- slices

drop_front : (k n : ℕ) (xs : List ℕ) → drop (min k n) (take k xs) ≡ drop n (take k xs)
drop_front k n xs =
    let front = take k xs in
    let same : min (min k n) (length front) ≡ min n (length front) = omega (arith, length-take k xs) in
    sym (drop_min (min k n) front) ∙ ap (λ m. drop m front) same ∙ drop_min n front

slice_from : (xs : List ℕ) (a e n : ℕ) → slice_range xs (a + min (e - a) n) e ≡ drop n (slice_range xs a e)
slice_from xs a e n =
    let m = min (e - a) n in
    let whole : m + (e - (a + m)) ≡ e - a = omega arith in
    ap (take (e - (a + m))) (sym (drop-drop m a xs)) ∙ sym (drop-take m (e - (a + m)) (drop a xs))
    ∙ ap (λ k. drop m (take k (drop a xs))) whole ∙ drop_front (e - a) n (drop a xs)

-- a slice without its first n is the slice that ends there and has the rest's length
pub slice_end : (xs : List ℕ) (a e n : ℕ) → a ≤ e → e ≤ length xs → slice_range xs (e - length (drop n (slice_range xs a e))) e ≡ drop n (slice_range xs a e)
slice_end xs a e n ordered within =
    let s = slice_range xs a e in
    let whole : length s ≡ e - a = omega (arith, ordered, within, length-take (e - a) (drop a xs), length-drop a xs) in
    let at : e - length (drop n s) ≡ a + min (e - a) n = omega (arith, ordered, whole, length-drop n s) in
    ap (λ k. slice_range xs k e) at ∙ slice_from xs a e n

-- ---- newlines

before_plain : (xs : List ℕ) → list_any is_newline (before_first is_newline xs) ≡ false
before_plain [] = refl
before_plain (x ∷ xs) =
    by_bool (x == 10) (λ q. list_any is_newline (take (cond (not q) (1 + position_or_len is_newline xs) 0) (x ∷ xs)) ≡ false)
    (λ e. refl)
    (λ e. rw (one-add (position_or_len is_newline xs)) (ap (λ b. b || list_any is_newline (before_first is_newline xs)) e ∙ before_plain xs))

none_past : (xs : List ℕ) → is_some (position is_newline xs) ≡ false → length xs ≤ position_or_len is_newline xs
none_past xs =
    let n = position_or_len is_newline xs in
    by_bool (nat_lt n (length xs)) (λ q. is_some (cond q (Some n) None) ≡ false → length xs ≤ n)
    (λ e h. absurd (true≢false h))
    (λ e h. ltb-false n (length xs) e)

before_none : (xs : List ℕ) → is_some (position is_newline xs) ≡ false → before_first is_newline xs ≡ xs
before_none xs h = take_all (position_or_len is_newline xs) xs (none_past xs h)

after_none : (xs : List ℕ) → is_some (position is_newline xs) ≡ false → after_first is_newline xs ≡ []
after_none xs h = let past = none_past xs h in drop_of_length-le xs (omega (arith, past))

some_within : (xs : List ℕ) → is_some (position is_newline xs) ≡ true → position_or_len is_newline xs < length xs
some_within xs =
    let n = position_or_len is_newline xs in
    by_bool (nat_lt n (length xs)) (λ q. is_some (cond q (Some n) None) ≡ true → n < length xs)
    (λ e h. ltb-true n (length xs) e)
    (λ e h. absurd (true≢false (sym h)))

newline_is : (x : ℕ) → is_newline x ≡ true → x ≡ 10
newline_is x h = search (arith, rules, h)

at_newline : (xs : List ℕ) → is_some (position is_newline xs) ≡ true → xs ≡ before_first is_newline xs ++ 10 ∷ after_first is_newline xs
at_newline xs h =
    let within = some_within xs h in
    let n = position_or_len is_newline xs in
    let less : nat_lt n (length xs) ≡ true = search (arith, within) in
    let found : position is_newline xs ≡ Some n = ap (λ q. cond q (Some n) None) less in
    let byte = newline_is (get_or xs n 0) (position-Some is_newline xs n 0 found).1 in
    split_at_first is_newline xs 0 within ∙ ap (λ b. before_first is_newline xs ++ b ∷ after_first is_newline xs) byte

line_first : (line rest : List ℕ) → list_any is_newline line ≡ false → lines_of (line ++ 10 ∷ rest) ≡ line ∷ lines_of rest
line_first [] rest plain = refl
line_first (x ∷ xs) rest plain =
    by_bool (x == 10) (λ q. (q || list_any is_newline xs) ≡ false → cond q ([] ∷ lines_of (xs ++ 10 ∷ rest)) (with_byte x (lines_of (xs ++ 10 ∷ rest))) ≡ (x ∷ xs) ∷ lines_of rest)
    (λ e h. absurd (true≢false h))
    (λ e h. rw (line_first xs rest h) refl)
    plain

line_last : (line : List ℕ) → list_any is_newline line ≡ false → 0 < length line → lines_of line ≡ line ∷ []
line_last [] plain some = absurd (omega (arith, some))
line_last (x ∷ []) plain some =
    by_bool (x == 10) (λ q. (q || false) ≡ false → cond q ([] ∷ []) ((x ∷ []) ∷ []) ≡ (x ∷ []) ∷ [])
    (λ e h. absurd (true≢false h))
    (λ e h. refl)
    plain
line_last (x ∷ y ∷ ys) plain some =
    by_bool (x == 10) (λ q. (q || list_any is_newline (y ∷ ys)) ≡ false → cond q ([] ∷ lines_of (y ∷ ys)) (with_byte x (lines_of (y ∷ ys))) ≡ (x ∷ y ∷ ys) ∷ [])
    (λ e h. absurd (true≢false h))
    (λ e h. rw (line_last (y ∷ ys) h (omega arith)) refl)
    plain

-- ---- what a line has so far

-- what was left is the line so far and what is left now
abbrev pub Holds : Option (List ℕ) → Option (List ℕ) → List ℕ → Type 0
Holds known left line = IfSome known (λ bytes. (rest : List ℕ) × (left ≡ Some rest) × (bytes ≡ line ++ rest))

pub holds_first : (known : Option (List ℕ)) → Holds known known []
holds_first None = tt
holds_first (Some bytes) = (bytes, refl, refl)

-- a piece goes to the line
pub holds_more : (known reader : Option (List ℕ)) (line ahead piece later : List ℕ) → ahead ≡ piece ++ later → Holds known (prepend_known ahead reader) line
    → Holds known (prepend_known later reader) (line ++ piece)
holds_more None reader line ahead piece later split h = tt
holds_more (Some bytes) None line ahead piece later split h = absurd (none_is_not h.0 h.1)
holds_more (Some bytes) (Some given) line ahead piece later split h =
    let (rest, left, is) = h in
    let from : rest ≡ (piece ++ later) ++ given = sym (some-injective (ahead ++ given) rest left) ∙ ap (λ l. l ++ given) split in
    (later ++ given, refl, is ∙ ap (λ l. line ++ l) (from ∙ append_assoc piece later given) ∙ sym (append_assoc line piece (later ++ given)))

pub holds_all : (known reader : Option (List ℕ)) (line ahead : List ℕ) → is_some (position is_newline ahead) ≡ false → Holds known (prepend_known ahead reader) line
    → Holds known (prepend_known (after_first is_newline ahead) reader) (line ++ before_first is_newline ahead)
holds_all known reader line ahead none h =
    let split : ahead ≡ before_first is_newline ahead ++ after_first is_newline ahead = sym (append-nil ahead) ∙ ap (λ l. l ++ []) (sym (before_none ahead none)) ∙ ap (λ l. before_first is_newline ahead ++ l) (sym (after_none ahead none)) in
    holds_more known reader line ahead (before_first is_newline ahead) (after_first is_newline ahead) split h

pub holds_on : (known left then : Option (List ℕ)) (line : List ℕ) → Keeps left then → Holds known left line → Holds known then line
holds_on None left then line kept h = tt
holds_on (Some bytes) None then line kept h = absurd (none_is_not h.0 h.1)
holds_on (Some bytes) (Some given) None line kept h = absurd kept
holds_on (Some bytes) (Some given) (Some more) line kept h =
    let (rest, is_left, is) = h in (rest, ap Some kept ∙ is_left, is)

pub plain_more : (line ahead : List ℕ) → list_any is_newline line ≡ false → list_any is_newline (line ++ before_first is_newline ahead) ≡ false
plain_more line ahead plain = list_any-append is_newline line (before_first is_newline ahead) ∙ ap (λ b. b || list_any is_newline (before_first is_newline ahead)) plain ∙ before_plain ahead

-- ---- the two ends of a line

pub taken_to_newline : (E : Type 0) (known reader : Option (List ℕ)) (line ahead : List ℕ) → list_any is_newline line ≡ false → is_some (position is_newline ahead) ≡ true → Holds known (prepend_known ahead reader) line
    → IfSome known (λ bytes. TakesLine {E = E} bytes (prepend_known (after_first is_newline ahead) reader) (line ++ before_first is_newline ahead) (Ok true))
taken_to_newline E None reader line ahead plain some h = tt
taken_to_newline E (Some bytes) None line ahead plain some h = absurd (none_is_not h.0 h.1)
taken_to_newline E (Some bytes) (Some given) line ahead plain some h =
    let (rest, left, is) = h in
    let piece = before_first is_newline ahead in
    let later = after_first is_newline ahead in
    let from : rest ≡ (piece ++ 10 ∷ later) ++ given = sym (some-injective (ahead ++ given) rest left) ∙ ap (λ l. l ++ given) (at_newline ahead some) in
    let whole : bytes ≡ (line ++ piece) ++ 10 ∷ (later ++ given) = is ∙ ap (λ l. line ++ l) (from ∙ append_assoc piece (10 ∷ later) given) ∙ sym (append_assoc line piece (10 ∷ (later ++ given))) in
    (later ++ given, refl, ap lines_of whole ∙ line_first (line ++ piece) (later ++ given) (plain_more line ahead plain))

-- where nothing is left, the line so far is the last one, unless it is empty
pub taken_at_end : (E : Type 0) (known left : Option (List ℕ)) (line : List ℕ) (more : Bool) → more ≡ nat_lt 0 (length line) → list_any is_newline line ≡ false → IsAtEnd left → Holds known left line
    → IfSome known (λ bytes. TakesLine {E = E} bytes left line (Ok more))
taken_at_end E None left line more more_is plain end h = tt
taken_at_end E (Some bytes) None line more more_is plain end h = absurd (none_is_not h.0 h.1)
taken_at_end E (Some bytes) (Some given) [] true more_is plain end h = absurd (true≢false more_is)
taken_at_end E (Some bytes) (Some given) [] false more_is plain end h =
    let (rest, is_left, is) = h in is ∙ sym (some-injective given rest is_left) ∙ end
taken_at_end E (Some bytes) (Some given) (x ∷ xs) false more_is plain end h =
    let some : nat_lt 0 (suc (length xs)) ≡ true = search arith in
    absurd (true≢false (sym some ∙ sym more_is))
taken_at_end E (Some bytes) (Some given) (x ∷ xs) true more_is plain end h =
    let (rest, is_left, is) = h in
    let none : rest ≡ [] = sym (some-injective given rest is_left) ∙ end in
    let whole : bytes ≡ x ∷ xs = is ∙ ap (λ l. (x ∷ xs) ++ l) none ∙ append-nil (x ∷ xs) in
    ([], ap Some end, ap lines_of whole ∙ line_last (x ∷ xs) plain (omega arith))

-- ---- all that is left

-- a text has grown by what was taken of the known bytes, and these are left
abbrev pub Grows : Option (List ℕ) → Option (List ℕ) → List ℕ → List ℕ → Type 0
Grows known left old new = IfSome known (λ bytes. (rest : List ℕ) × (left ≡ Some rest) × (new ++ rest ≡ old ++ bytes))

pub grows_first : (known : Option (List ℕ)) (text : List ℕ) → Grows known known text text
grows_first None text = tt
grows_first (Some bytes) text = (bytes, refl, refl)

-- all that was read goes to the text
pub grows_more : (known reader : Option (List ℕ)) (old new ahead : List ℕ) → Grows known (prepend_known ahead reader) old new → Grows known (prepend_known [] reader) old (new ++ ahead)
grows_more None reader old new ahead h = tt
grows_more (Some bytes) None old new ahead h = absurd (none_is_not h.0 h.1)
grows_more (Some bytes) (Some given) old new ahead h =
    let (rest, left, is) = h in
    let from : ahead ++ given ≡ rest = some-injective (ahead ++ given) rest left in
    (given, refl, append_assoc new ahead given ∙ ap (λ l. new ++ l) from ∙ is)

pub grows_on : (known left then : Option (List ℕ)) (old new : List ℕ) → Keeps left then → Grows known left old new → Grows known then old new
grows_on None left then old new kept h = tt
grows_on (Some bytes) None then old new kept h = absurd (none_is_not h.0 h.1)
grows_on (Some bytes) (Some given) None old new kept h = absurd kept
grows_on (Some bytes) (Some given) (Some more) old new kept h =
    let (rest, is_left, is) = h in (rest, ap Some kept ∙ is_left, is)

-- nothing is left
pub grown_at_end : (known left : Option (List ℕ)) (old new : List ℕ) → IsAtEnd left → Grows known left old new → IfSome known (λ bytes. new ≡ old ++ bytes)
grown_at_end None left old new end h = tt
grown_at_end (Some bytes) None old new end h = absurd (none_is_not h.0 h.1)
grown_at_end (Some bytes) (Some given) old new end h =
    let (rest, is_left, is) = h in
    let none : rest ≡ [] = sym (some-injective given rest is_left) ∙ end in
    sym (append-nil new) ∙ ap (λ l. new ++ l) (sym none) ∙ is

pub grown_within : (known : Option (List ℕ)) (old new : List ℕ) (room left : ℕ) → IfSome known (λ bytes. new ≡ old ++ bytes) → length new + left ≤ length old + room → IfSome known (λ bytes. length bytes ≤ room)
grown_within None old new room left is within = tt
grown_within (Some bytes) old new room left is within = let longer = ap length is ∙ length-append old bytes in omega (arith, longer, within)
