-- Texts that are cut at the first character of some kind.
use Rattle.std.proofs.Common.{◌≡◌, ◌≢◌, ℕ, zero, suc, ◌+◌, ◌<◌, ◌≤◌, ◌==◌, Bool, true, false, cond, not, ◌&&◌, List, [], ◌∷◌, ◌++◌, length, take, drop, get_or, IsUtf8, refl, sym, ap, subst, ◌∙◌, arith}
use Rattle.std.proofs.lemmas.Bool.{false≢true}
use Rattle.std.proofs.lemmas.Bool.Decides.{nat_tests}
use Rattle.std.proofs.lemmas.List.{get_or-drop, length-drop, take-append-drop}
use Rattle.std.proofs.lemmas.Str.{IsUtf8-from_ascii, IsCharBoundary-from_take}
use Rattle.std.proofs.lemmas.Str.Ascii.{IsAscii-nil, IsAscii-cons}
use Rattle.std.specs.List.{list_all, prefix_len, slice_range}
use Rattle.std.specs.Str.{IsAscii, IsCharBoundary}
use Rattle.fed_http.specs.XMatrix.{is_white, is_delimiter, is_plain, IsRunOf}
use Rattle.fed_http.specs.XMatrixParts.{BeginsWithout, IsEnd, SkipsRun}

-- ---- the characters in front that pass

pub record Cut (test : ℕ → Bool) (text : List ℕ) (n : ℕ) : Type 0 where
  pub within : n ≤ length text
  pub run : list_all test (take n text) ≡ true
  pub stops : BeginsWithout test (drop n text)

pub cut : (test : ℕ → Bool) (text : List ℕ) → Cut test text (prefix_len test text)
cut test [] = record { within = omega arith; run = refl; stops = tt }
cut test (x ∷ text) = by (cut test text) (test x) refl
  where
    by : Cut test text (prefix_len test text) → (b : Bool) → test x ≡ b → Cut test (x ∷ text) (cond b (1 + prefix_len test text) 0)
    by rest true is =
        let more : suc (prefix_len test text) ≡ 1 + prefix_len test text = omega arith in
        let longer : Cut test (x ∷ text) (suc (prefix_len test text)) = record { within = omega (arith, rest.within); run = rw is rest.run; stops = rest.stops } in
        subst (Cut test (x ∷ text)) more longer
    by rest false is = record { within = omega arith; run = refl; stops = is }

pub front : (p q : Bool) → (p && q) ≡ true → p ≡ true
front true q h = refl
front false q h = h

pub back : (p q : Bool) → (p && q) ≡ true → q ≡ true
back true q h = h
back false q h = absurd (cc)

-- a text is cut in one way where a run ends
pub run_unique : (test : ℕ → Bool) (u v x y : List ℕ) → list_all test u ≡ true → list_all test v ≡ true → BeginsWithout test x → BeginsWithout test y → u ++ x ≡ v ++ y → (u ≡ v) × (x ≡ y)
run_unique test [] [] x y all each stops ends e = (refl, e)
run_unique test [] (b ∷ v) [] y all each stops ends e = absurd (cc)
run_unique test [] (b ∷ v) (a ∷ x) y all each stops ends e =
    let same : a ≡ b = cc in
    absurd (false≢true (sym stops ∙ ap test same ∙ front (test b) (list_all test v) each))
run_unique test (a ∷ u) [] x [] all each stops ends e = absurd (cc)
run_unique test (a ∷ u) [] x (b ∷ y) all each stops ends e =
    let same : a ≡ b = cc in
    absurd (false≢true (sym ends ∙ ap test (sym same) ∙ front (test a) (list_all test u) all))
run_unique test (a ∷ u) (b ∷ v) x y all each stops ends e =
    let tails : u ++ x ≡ v ++ y = cc in
    let same = run_unique test u v x y (back (test a) (list_all test u) all) (back (test b) (list_all test v) each) stops ends tails in
    (cc, same.1)

-- ---- where a text is cut at a character

-- no such character stands in the text
abbrev pub Lacks : ℕ → List ℕ → Type 0
Lacks c text = (i : ℕ) → i < length text → get_or text i 0 ≢ c

pub holds_it : (c : ℕ) (front back : List ℕ) → Lacks c (front ++ c ∷ back) → ⊥
holds_it c [] back lacks = lacks 0 (omega arith) refl
holds_it c (x ∷ front) back lacks = holds_it c front back (λ i within. lacks (suc i) (omega arith))

pub first_at : (c : ℕ) (front back other rest : List ℕ) → Lacks c front → Lacks c other → front ++ c ∷ back ≡ other ++ c ∷ rest → (front ≡ other) × (back ≡ rest)
first_at c [] back [] rest free clear e = (refl, cc)
first_at c [] back (y ∷ other) rest free clear e = let same : y ≡ c = cc in absurd (clear 0 (omega arith) same)
first_at c (x ∷ front) back [] rest free clear e = let same : x ≡ c = cc in absurd (free 0 (omega arith) same)
first_at c (x ∷ front) back (y ∷ other) rest free clear e =
    let tails : front ++ c ∷ back ≡ other ++ c ∷ rest = cc in
    let same = first_at c front back other rest (λ i within. free (suc i) (omega arith)) (λ i within. clear (suc i) (omega arith)) tails in
    (cc, same.1)

-- a text of characters that pass lacks one that does not
pub lacks_other : (test : ℕ → Bool) (c : ℕ) (text : List ℕ) → test c ≡ false → list_all test text ≡ true → Lacks c text
lacks_other test c [] fails all = λ i within. absurd (omega arith)
lacks_other test c (x ∷ text) fails all = by (lacks_other test c text fails (back (test x) (list_all test text) all))
  where
    by : Lacks c text → (k : ℕ) → k < length (x ∷ text) → get_or (x ∷ text) k 0 ≢ c
    by others zero h = λ is. false≢true (sym fails ∙ ap test (sym is) ∙ front (test x) (list_all test text) all)
    by others (suc k) h = others k (omega arith)

-- ---- where a text may be cut

ascii_run : (test : ℕ → Bool) → ((c : ℕ) → test c ≡ true → c < 128) → (text : List ℕ) → list_all test text ≡ true → IsAscii text
ascii_run test each [] all = IsAscii-nil
ascii_run test each (x ∷ text) all = IsAscii-cons x text (each x (front (test x) (list_all test text) all)) (ascii_run test each text (back (test x) (list_all test text) all))

pub behind_ascii : (test : ℕ → Bool) → ((c : ℕ) → test c ≡ true → c < 128) → (text : List ℕ) → IsUtf8 text → IsCharBoundary text (prefix_len test text)
behind_ascii test each text utf8 =
    let n = prefix_len test text in
    let parts = cut test text in
    IsCharBoundary-from_take text n utf8 parts.within (IsUtf8-from_ascii (take n text) (ascii_run test each (take n text) parts.run))

pub white_ascii : (c : ℕ) → is_white c ≡ true → c < 128
white_ascii c h = grind (arith, nat_tests)

pub space_ascii : (c : ℕ) → (c == 32) ≡ true → c < 128
space_ascii c h = grind (arith, nat_tests)

delimiter_ascii : (c : ℕ) → is_plain c ≡ false → c < 128
delimiter_ascii c h = grind (arith, nat_tests)

begins_ascii : (rest : List ℕ) → BeginsWithout is_plain rest → 0 < length rest → get_or rest 0 0 < 128
begins_ascii [] stops some = absurd (omega arith)
begins_ascii (c ∷ rest) stops some = delimiter_ascii c stops

pub at_delimiter : (text : List ℕ) → IsCharBoundary text (prefix_len is_plain text)
at_delimiter text =
    let n = prefix_len is_plain text in
    let parts = cut is_plain text in
    let at : n < length text → get_or text n 0 < 128 = λ some. subst (λ c. c < 128) (get_or-drop n text 0 0 ∙ ap (λ k. get_or text k 0) (omega arith)) (begins_ascii (drop n text) parts.stops (rw length-drop (omega arith))) in
    (parts.within, λ some high. absurd (omega (arith, at some)))

-- what begins without a plain character is an end
pub end_from_stop : (text : List ℕ) → BeginsWithout is_plain text → IsEnd text
end_from_stop [] h = tt
end_from_stop (c ∷ text) h = by (is_delimiter c) h
  where
    by : (b : Bool) → not b ≡ false → b ≡ true
    by true h = refl
    by false h = absurd (cc)

pub stop_from_end : (text : List ℕ) → IsEnd text → BeginsWithout is_plain text
stop_from_end [] h = tt
stop_from_end (c ∷ text) h = ap not h

pub skips : (test : ℕ → Bool) (text : List ℕ) → SkipsRun test text (drop (prefix_len test text) text)
skips test text =
    let parts = cut test text in
    record { run = take (prefix_len test text) text; run_is = parts.run; text_is = sym (take-append-drop (prefix_len test text) text); stops = parts.stops }

pub front_range : (n : ℕ) (text : List ℕ) → slice_range text 0 n ≡ take n text
front_range n text = ap (λ k. take k text) (omega arith)

-- a run of at least one character
pub run_taken : (test : ℕ → Bool) (n : ℕ) (text : List ℕ) → 0 < n → n ≤ length text → list_all test (take n text) ≡ true → IsRunOf test (take n text)
run_taken test zero text some within all = absurd (omega arith)
run_taken test (suc n) [] some within all = absurd (omega arith)
run_taken test (suc n) (x ∷ text) some within all = all
