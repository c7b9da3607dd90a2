-- A parameter stands at the front of a text in one way.
use Rattle.std.proofs.Common.{◌≡◌, ◌≢◌, ℕ, suc, ◌&&◌, Bool, true, false, cond, nat_lt, List, [], ◌∷◌, ◌++◌, length, Option, Some, None, IfSome, IfNone, IsSomeAnd, Bor, refl, sym, ap, subst, ◌∙◌, inl, inr, arith, append_assoc}
use Rattle.std.proofs.lemmas.Bool.{false≢true}
use Rattle.std.proofs.lemmas.Bool.Decides.{nat_tests}
use Rattle.std.specs.List.{list_all}
use Rattle.fed_http.specs.declared.x_matrix.parameter.Raw.{Raw}
use Rattle.fed_http.specs.XMatrix.{is_plain, is_name_char, IsRunOf, IsEscaped, IsWritten}
use Rattle.fed_http.specs.XMatrixParts.{quote_index, unescaped, value_of, IsEnd, StartsWith, StartsWithValue}
use Rattle.fed_http.proofs.Runs.{front, back, run_unique, stop_from_end, Lacks, first_at, holds_it, lacks_other}
use Rattle.fed_http.proofs.Quotes.{index-escaped, unescaped-escaped, escaped-index}

-- ---- values

abbrev pub Answer : Type 0
Answer = Option (Raw × Bor (List ℕ))

abbrev pub IsFirstQuoted : Answer → List ℕ → Type 0
IsFirstQuoted r text = IfSome r (λ first. (first.0.quoted ≡ true) × (quote_index false text ≡ Some (length first.0.text.now)) × (text ≡ first.0.text.now ++ 34 ∷ first.1.now))

abbrev pub IsFirstPlain : Answer → List ℕ → Type 0
IsFirstPlain r text = IfSome r (λ first. (first.0.quoted ≡ false) × IsRunOf is_plain first.0.text.now × (text ≡ first.0.text.now ++ first.1.now) × IsEnd first.1.now)

pub value_in : (raw : Raw) (b : Bool) → raw.quoted ≡ b → value_of raw ≡ cond b (unescaped false raw.text.now) raw.text.now
value_in raw b is = ap (λ q. cond q (unescaped false raw.text.now) raw.text.now) is

pub quoted_sound : (r : Answer) (text inner : List ℕ) → text ≡ 34 ∷ inner → IsFirstQuoted r inner → IfSome r (λ first. StartsWithValue (value_of first.0) first.1.now text)
quoted_sound None text inner starts h = tt
quoted_sound (Some (raw, rest)) text inner starts (quoted, ends, cut) = record {
  written = 34 ∷ (raw.text.now ++ 34 ∷ []);
  value_is = inl (raw.text.now, subst (λ v. IsEscaped v raw.text.now) (sym (value_in raw true quoted)) (escaped-index raw.text.now rest.now (ap (quote_index false) (sym cut) ∙ ends)), refl);
  text_is = starts ∙ ap (λ t. 34 ∷ t) (cut ∙ sym (append_assoc raw.text.now (34 ∷ []) rest.now));
}

pub plain_sound : (r : Answer) (text : List ℕ) → IsFirstPlain r text → IfSome r (λ first. StartsWithValue (value_of first.0) first.1.now text)
plain_sound None text h = tt
plain_sound (Some (raw, rest)) text (plain, run, cut, end) =
    let value : value_of raw ≡ raw.text.now = value_in raw false plain in
    record { written = raw.text.now; value_is = inr (subst (IsRunOf is_plain) (sym value) run, sym value); text_is = cut }

-- the first character of a run passes
pub starts_plain : (c : ℕ) (value text rest : List ℕ) → IsRunOf is_plain value → c ∷ text ≡ value ++ rest → is_plain c ≡ true
starts_plain c [] text rest run e = absurd run
starts_plain c (x ∷ value) text rest run e = let same : c ≡ x = cc in ap is_plain same ∙ front (is_plain x) (list_all is_plain value) run

behind_quote : (value rest inner written text : List ℕ) → text ≡ 34 ∷ inner → IsWritten value written → text ≡ written ++ rest → (other : List ℕ) × IsEscaped value other × (inner ≡ other ++ 34 ∷ rest)
behind_quote value rest inner written text starts (inl (other, is, quoted)) cut =
    let whole : 34 ∷ inner ≡ (34 ∷ (other ++ 34 ∷ [])) ++ rest = sym starts ∙ cut ∙ ap (λ w. w ++ rest) quoted in
    let tails : inner ≡ (other ++ 34 ∷ []) ++ rest = cc in
    (other, is, tails ∙ append_assoc other (34 ∷ []) rest)
behind_quote value rest inner written text starts (inr (run, plain)) cut =
    absurd (false≢true (starts_plain 34 value inner rest run (sym starts ∙ cut ∙ ap (λ w. w ++ rest) plain)))

same_length : (a b x y : List ℕ) → length a ≡ length b → a ++ x ≡ b ++ y → (a ≡ b) × (x ≡ y)
same_length [] [] x y size e = (refl, e)
same_length [] (v ∷ b) x y size e = absurd (omega arith)
same_length (u ∷ a) [] x y size e = absurd (omega arith)
same_length (u ∷ a) (v ∷ b) x y size e =
    let tails : a ++ x ≡ b ++ y = cc in
    let same = same_length a b x y (omega arith) tails in
    (cc, same.1)

pub escaped_unique : (v w a b x y : List ℕ) → IsEscaped v a → IsEscaped w b → a ++ 34 ∷ x ≡ b ++ 34 ∷ y → (v ≡ w) × (x ≡ y)
escaped_unique v w a b x y is also e =
    let found : Some (length a) ≡ Some (length b) = sym (index-escaped v a x is) ∙ ap (quote_index false) e ∙ index-escaped w b y also in
    let size : length a ≡ length b = cc in
    let same = same_length a b (34 ∷ x) (34 ∷ y) size e in
    let tails : x ≡ y = cc (same.1) in
    (sym (unescaped-escaped v a is) ∙ ap (unescaped false) same.0 ∙ unescaped-escaped w b also, tails)

pub quoted_complete : (r : Answer) (text inner : List ℕ) → text ≡ 34 ∷ inner → IsFirstQuoted r inner → IfNone r (quote_index false inner ≡ None)
    → (value rest : List ℕ) → StartsWithValue value rest text → IsSomeAnd r (λ first. (value_of first.0 ≡ value) × (first.1.now ≡ rest))
quoted_complete None text inner starts sound none value rest is =
    let other = behind_quote value rest inner is.written text starts is.value_is is.text_is in
    let found : None ≡ Some (length other.0) = sym none ∙ ap (quote_index false) other.2 ∙ index-escaped value other.0 rest other.1 in
    absurd (cc found)
quoted_complete (Some (raw, behind)) text inner starts (quoted, ends, cut) none value rest is =
    let other = behind_quote value rest inner is.written text starts is.value_is is.text_is in
    let raw_is = escaped-index raw.text.now behind.now (ap (quote_index false) (sym cut) ∙ ends) in
    let same = escaped_unique (unescaped false raw.text.now) value raw.text.now other.0 behind.now rest raw_is other.1 (sym cut ∙ other.2) in
    (value_in raw true quoted ∙ same.0, same.1)

without_quote : (value rest written text : List ℕ) → ((inner : List ℕ) → text ≢ 34 ∷ inner) → IsWritten value written → text ≡ written ++ rest → IsRunOf is_plain value × (text ≡ value ++ rest)
without_quote value rest written text bare (inl (inner, is, quoted)) cut = absurd (bare _ (cut ∙ ap (λ w. w ++ rest) quoted))
without_quote value rest written text bare (inr (run, plain)) cut = (run, cut ∙ ap (λ w. w ++ rest) plain)

pub is_run : (test : ℕ → Bool) (text : List ℕ) → IsRunOf test text → list_all test text ≡ true
is_run test [] h = absurd h
is_run test (c ∷ text) h = h

-- a run, by a test
pub run_from_test : (test : ℕ → Bool) (text : List ℕ) (b : Bool) → b ≡ (nat_lt 0 (length text) && list_all test text) → b ≡ true → IsRunOf test text
run_from_test test [] b is h = absurd (false≢true (sym is ∙ h))
run_from_test test (c ∷ text) b is h = back (nat_lt 0 (suc (length text))) (list_all test (c ∷ text)) (sym is ∙ h)

pub test_from_run : (test : ℕ → Bool) (text : List ℕ) (b : Bool) → b ≡ (nat_lt 0 (length text) && list_all test text) → IsRunOf test text → b ≡ true
test_from_run test [] b is h = absurd h
test_from_run test (c ∷ text) b is h = grind (arith, nat_tests)

no_value : (value rest : List ℕ) → IsRunOf is_plain value → IsEnd (value ++ rest) → ⊥
no_value [] rest run end = run
no_value (c ∷ value) rest run end = false≢true (sym (stop_from_end (c ∷ (value ++ rest)) end) ∙ front (is_plain c) (list_all is_plain value) run)

pub plain_complete : (r : Answer) (text : List ℕ) → ((inner : List ℕ) → text ≢ 34 ∷ inner) → IsFirstPlain r text → IfNone r (IsEnd text)
    → (value rest : List ℕ) → StartsWithValue value rest text → IsEnd rest → IsSomeAnd r (λ first. (value_of first.0 ≡ value) × (first.1.now ≡ rest))
plain_complete None text bare sound none value rest is end =
    let plain = without_quote value rest is.written text bare is.value_is is.text_is in
    absurd (no_value value rest plain.0 (subst IsEnd plain.1 none))
plain_complete (Some (raw, behind)) text bare (unquoted, run, cut, stops) none value rest is end =
    let plain = without_quote value rest is.written text bare is.value_is is.text_is in
    let same = run_unique is_plain raw.text.now value behind.now rest (is_run is_plain raw.text.now run) (is_run is_plain value plain.0) (stop_from_end behind.now stops) (stop_from_end rest end) (sym cut ∙ plain.1) in
    (value_in raw false unquoted ∙ same.0, same.1)

-- ---- names

pub name_lacks : (name : List ℕ) → IsRunOf is_name_char name → Lacks 61 name
name_lacks name run = lacks_other is_name_char 61 name refl (is_run is_name_char name run)

-- what stands behind the `=`
pub behind_name : (name behind text : List ℕ) (first value rest : List ℕ) → text ≡ name ++ 61 ∷ behind → Lacks 61 name → StartsWith first value rest text → (name ≡ first) × StartsWithValue value rest behind
behind_name name behind text first value rest cut lacks is =
    let same = first_at 61 name behind first (is.written ++ rest) lacks (name_lacks first is.name_is) (sym cut ∙ is.text_is) in
    (same.0, record { written = is.written; value_is = is.value_is; text_is = same.1 })

pub no_equals : (text first value rest : List ℕ) → Lacks 61 text → StartsWith first value rest text → ⊥
no_equals text first value rest lacks is = holds_it 61 first (is.written ++ rest) (subst (Lacks 61) is.text_is lacks)
