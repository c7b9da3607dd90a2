-- Lists of parameters, one parameter after another.
use Rattle.std.proofs.Common.{◌≡◌, ◌≢◌, ℕ, ◌==◌, Bool, false, not, List, [], ◌∷◌, ◌++◌, length, map, get_or, codes, refl, sym, ap, subst, ◌∙◌, arith, append_assoc, inl, inr}
use Rattle.std.proofs.lemmas.Bool.{false≢true}
use Rattle.std.proofs.lemmas.Bool.Decides.{nat_tests}
use Rattle.std.proofs.lemmas.List.{get_or-map, length-map}
use Rattle.std.specs.Char.{to_ascii_lowercase}
use Rattle.std.specs.List.{list_all}
use Rattle.fed_http.specs.declared.x_matrix.named_values.NamedValues.{NamedValues}
use Rattle.fed_http.specs.XMatrix.{XMatrixValue, is_white, is_plain, is_name_char, IsRunOf, IsWhite, IsWritten, IsParameter, Parameter, AreFurther, AreParameters, Says}
use Rattle.fed_http.specs.XMatrixParts.{BeginsWithout, DoesNotSay, Holds, IsEnd, SkipsRun, StartsWith, StartsWithComma, StartsWithScheme}
use Rattle.fed_http.proofs.Runs.{front, run_unique, stop_from_end, Lacks, first_at, holds_it, lacks_other}
use Rattle.fed_http.proofs.Parameters.{starts_plain, escaped_unique, is_run, name_lacks}

-- ---- separators

abbrev IsMoreWhite : List ℕ → List ℕ → Type 0
IsMoreWhite run rest = IsWhite run × BeginsWithout is_white rest

pub comma_unique : (first rest text : List ℕ) → StartsWithComma first text → BeginsWithout is_white first → StartsWithComma rest text → BeginsWithout is_white rest → first ≡ rest
comma_unique first rest text a stops b ends =
    let front = run_unique is_white a.before b.before (44 ∷ (a.behind ++ first)) (44 ∷ (b.behind ++ rest)) a.before_is b.before_is refl refl (sym a.text_is ∙ b.text_is) in
    let tails : a.behind ++ first ≡ b.behind ++ rest = cc (front.1) in
    (run_unique is_white a.behind b.behind first rest a.behind_is b.behind_is stops ends tails).1

-- what stands behind white space in front of a comma is that comma
pub comma_behind : (text rest other : List ℕ) → SkipsRun is_white text rest → (is : StartsWithComma other text) → rest ≡ 44 ∷ (is.behind ++ other)
comma_behind text rest other skips is =
    (run_unique is_white skips.run is.before rest (44 ∷ (is.behind ++ other)) skips.run_is is.before_is skips.stops refl (sym skips.text_is ∙ is.text_is)).1

pub comma_of : (text rest behind last : List ℕ) → SkipsRun is_white text rest → rest ≡ 44 ∷ behind → SkipsRun is_white behind last → StartsWithComma last text
comma_of text rest behind last skips comma more = record {
  before = skips.run;
  behind = more.run;
  before_is = skips.run_is;
  behind_is = more.run_is;
  text_is = skips.text_is ∙ ap (λ t. skips.run ++ t) (comma ∙ ap (λ t. 44 ∷ t) more.text_is);
}

pub scheme_lacks : (scheme : List ℕ) → map to_ascii_lowercase scheme ≡ codes "x-matrix" → Lacks 32 scheme
scheme_lacks scheme is i within here =
    let lower : get_or (map to_ascii_lowercase scheme) i 0 ≡ 32 = get_or-map to_ascii_lowercase scheme i 0 0 within ∙ ap to_ascii_lowercase here in
    let size : length scheme ≡ length (codes "x-matrix") = sym (length-map scheme to_ascii_lowercase) ∙ ap length is in
    lacks_other (λ c. not (c == 32)) 32 (codes "x-matrix") refl refl i (omega (arith, size)) (ap (λ t. get_or t i 0) (sym is) ∙ lower)

pub scheme_behind : (text scheme rest other : List ℕ) → text ≡ scheme ++ 32 ∷ rest → Lacks 32 scheme → (is : StartsWithScheme other text) → (scheme ≡ is.scheme) × (rest ≡ is.spaces ++ other)
scheme_behind text scheme rest other cut lacks is = first_at 32 scheme rest is.scheme (is.spaces ++ other) lacks (scheme_lacks is.scheme is.scheme_is) (sym cut ∙ is.text_is)

pub no_scheme : (text other : List ℕ) → Lacks 32 text → StartsWithScheme other text → ⊥
no_scheme text other lacks is = holds_it 32 is.scheme (is.spaces ++ other) (subst (Lacks 32) is.text_is lacks)

-- ---- lists

starts_name : (name behind : List ℕ) → IsRunOf is_name_char name → BeginsWithout is_white (name ++ behind)
starts_name [] behind run = absurd run
starts_name (c ∷ name) behind run = let passes = front (is_name_char c) (list_all is_name_char name) run in grind (arith, nat_tests)

starts_parameter : (p : Parameter) (text rest : List ℕ) → IsParameter p text → BeginsWithout is_white (text ++ rest)
starts_parameter p text rest (written, name, value, e) =
    subst (BeginsWithout is_white) (ap (λ t. t ++ rest) (sym e)) (subst (BeginsWithout is_white) (sym (append_assoc p.0 (61 ∷ written) rest)) (starts_name p.0 ((61 ∷ written) ++ rest) name))

pub parameters_begin : (ps : List Parameter) (text : List ℕ) → AreParameters ps text → BeginsWithout is_white text
parameters_begin [] text h = absurd h
parameters_begin (p ∷ ps) text (parameter, rest, is, further, e) = subst (BeginsWithout is_white) (sym e) (starts_parameter p parameter rest is)

white_end : (before rest : List ℕ) → IsWhite before → IsEnd (before ++ 44 ∷ rest)
white_end [] rest white = refl
white_end (c ∷ before) rest white = let passes = front (is_white c) (list_all is_white before) white in grind (arith, nat_tests)

further_end : (ps : List Parameter) (text : List ℕ) → AreFurther ps text → IsEnd text
further_end [] text e = subst IsEnd (sym e) tt
further_end (p ∷ ps) text (before, behind, parameter, rest, white, more, is, further, e) = subst IsEnd (sym e) (white_end before (behind ++ (parameter ++ rest)) white)

-- behind the first parameter
pub record Later (ps : List Parameter) (text : List ℕ) (name value behind : List ℕ) : Type 0 where
  pub later : List Parameter
  pub whole : ps ≡ (name, value) ∷ later
  pub further : AreFurther later behind

-- what is known of the first parameter of a text
abbrev pub IsOnly : List ℕ → List ℕ → List ℕ → List ℕ → Type 0
IsOnly name value behind text = (n v rest : List ℕ) → StartsWith n v rest text → IsEnd rest → (name ≡ n) × (value ≡ v) × (behind ≡ rest)

starts_with : (p : Parameter) (parameter rest text : List ℕ) → IsParameter p parameter → text ≡ parameter ++ rest → StartsWith p.0 p.1 rest text
starts_with p parameter rest text (written, name, value, e) cut =
    record { written = written; name_is = name; value_is = value; text_is = cut ∙ ap (λ t. t ++ rest) e ∙ append_assoc p.0 (61 ∷ written) rest }

pub later_of : (ps : List Parameter) (text name value behind : List ℕ) → IsOnly name value behind text → AreParameters ps text → Later ps text name value behind
later_of [] text name value behind only h = absurd h
later_of ((n, v) ∷ ps) text name value behind only (parameter, rest, is, further, e) =
    let same = only n v rest (starts_with (n, v) parameter rest text is e) (further_end ps rest further) in
    record { later = ps; whole = cc (same.0, same.1); further = subst (AreFurther ps) (sym same.2) further }

pub no_parameter : (ps : List Parameter) (text : List ℕ) → ((n v rest : List ℕ) → StartsWith n v rest text → IsEnd rest → ⊥) → AreParameters ps text → ⊥
no_parameter [] text none h = h
no_parameter ((n, v) ∷ ps) text none (parameter, rest, is, further, e) = none n v rest (starts_with (n, v) parameter rest text is e) (further_end ps rest further)

pub with_first : (ps : List Parameter) (text name value behind : List ℕ) → StartsWith name value behind text → AreFurther ps behind → AreParameters ((name, value) ∷ ps) text
with_first ps text name value behind is further =
    (name ++ 61 ∷ is.written, behind, (is.written, is.name_is, is.value_is, refl), further, is.text_is ∙ sym (append_assoc name (61 ∷ is.written) behind))

-- behind a comma stand parameters again
pub further_of : (ps : List Parameter) (text rest : List ℕ) → StartsWithComma rest text → AreParameters ps rest → AreFurther ps text
further_of [] text rest comma h = absurd h
further_of (p ∷ ps) text rest comma (parameter, last, is, further, e) =
    (comma.before, comma.behind, parameter, last, comma.before_is, comma.behind_is, is, further, comma.text_is ∙ ap (λ t. comma.before ++ 44 ∷ (comma.behind ++ t)) e)

pub record Behind (ps : List Parameter) (text : List ℕ) : Type 0 where
  pub rest : List ℕ
  pub comma : StartsWithComma rest text
  pub parameters : AreParameters ps rest

pub behind_of : (ps : List Parameter) (text : List ℕ) → text ≢ [] → AreFurther ps text → Behind ps text
behind_of [] text some h = absurd (some h)
behind_of (p ∷ ps) text some (before, behind, parameter, rest, white, more, is, further, e) = record {
  rest = parameter ++ rest;
  comma = record { before = before; behind = behind; before_is = white; behind_is = more; text_is = e };
  parameters = (parameter, rest, is, further, refl);
}

-- ---- the scan

-- these parameters are scanned, and the rest of the text is left
pub record Scanned (text left : List ℕ) (found : NamedValues) : Type 0 where
  pub done : List Parameter
  pub holds : Holds done found
  pub back : (ps : List Parameter) → AreParameters ps left → AreParameters (done ++ ps) text
  pub only : (all : List Parameter) → AreParameters all text → (ps : List Parameter) × (all ≡ done ++ ps) × AreParameters ps left

pub scanned_nothing : (text : List ℕ) (found : NamedValues) → Holds [] found → Scanned text text found
scanned_nothing text found holds = record { done = []; holds = holds; back = λ ps h. h; only = λ all h. (all, refl, h) }

pub scanned_more : (text left behind rest name value : List ℕ) (found next : NamedValues) → (s : Scanned text left found) → StartsWith name value behind left → IsOnly name value behind left
    → Holds (s.done ++ (name, value) ∷ []) next → behind ≢ [] → StartsWithComma rest behind → BeginsWithout is_white rest → Scanned text rest next
scanned_more text left behind rest name value found next s is alone holds some comma stops = record {
  done = s.done ++ (name, value) ∷ [];
  holds = holds;
  back = λ ps h. subst (λ all. AreParameters all text) (sym (append_assoc s.done ((name, value) ∷ []) ps)) (s.back ((name, value) ∷ ps) (with_first ps left name value behind is (further_of ps behind rest comma h)));
  only = λ all h. split all (s.only all h);
}
  where
    split : (all : List Parameter) → ((ps : List Parameter) × (all ≡ s.done ++ ps) × AreParameters ps left) → (ps : List Parameter) × (all ≡ (s.done ++ (name, value) ∷ []) ++ ps) × AreParameters ps rest
    split all (ps, whole, h) =
        let later = later_of ps left name value behind alone h in
        let after = behind_of later.later behind some later.further in
        let same = comma_unique rest after.rest behind comma stops after.comma (parameters_begin later.later after.rest after.parameters) in (
          later.later,
          whole ∙ ap (λ t. s.done ++ t) later.whole ∙ sym (append_assoc s.done ((name, value) ∷ []) later.later),
          subst (AreParameters later.later) (sym same) after.parameters,
        )

pub scanned_all : (text left behind name value : List ℕ) (found : NamedValues) → (s : Scanned text left found) → StartsWith name value behind left → behind ≡ [] → AreParameters (s.done ++ (name, value) ∷ []) text
scanned_all text left behind name value found s is none = s.back ((name, value) ∷ []) (with_first [] left name value behind is none)

pub none_first : (text left : List ℕ) (found : NamedValues) → Scanned text left found → ((n v rest : List ℕ) → StartsWith n v rest left → IsEnd rest → ⊥) → (ps : List Parameter) (h : XMatrixValue) → AreParameters ps text → Says ps h → ⊥
none_first text left found s none ps h are says = let (left_ps, whole, rest) = s.only ps are in no_parameter left_ps left none rest

pub none_says : (text left behind name value : List ℕ) (found : NamedValues) → (s : Scanned text left found) → IsOnly name value behind left → DoesNotSay (s.done ++ (name, value) ∷ [])
    → (ps : List Parameter) (h : XMatrixValue) → AreParameters ps text → Says ps h → ⊥
none_says text left behind name value found s alone silent ps h are says =
    let (left_ps, whole, rest) = s.only ps are in
    let later = later_of left_ps left name value behind alone rest in
    silent later.later h (subst (λ all. Says all h) (whole ∙ ap (λ t. s.done ++ t) later.whole ∙ sym (append_assoc s.done ((name, value) ∷ []) later.later)) says)

pub none_behind : (text left behind name value : List ℕ) (found : NamedValues) → (s : Scanned text left found) → IsOnly name value behind left → behind ≢ [] → ((rest : List ℕ) → StartsWithComma rest behind → ⊥)
    → (ps : List Parameter) (h : XMatrixValue) → AreParameters ps text → Says ps h → ⊥
none_behind text left behind name value found s alone some none ps h are says =
    let (left_ps, whole, rest) = s.only ps are in
    let later = later_of left_ps left name value behind alone rest in
    let after = behind_of later.later behind some later.further in
    none after.rest after.comma

pub not_empty : (text : List ℕ) (empty : Bool) → empty ≡ (length text == 0) → empty ≡ false → text ≢ []
not_empty text empty is some none =
    let size : length text ≡ 0 = ap length none in
    grind (arith, nat_tests, size)

-- ---- one text, one list of parameters

values_unique : (v w r t a b : List ℕ) → IsWritten v a → IsWritten w b → IsEnd r → IsEnd t → a ++ r ≡ b ++ t → (v ≡ w) × (r ≡ t)
values_unique v w r t a b (inl (x, is, p)) (inl (y, also, q)) end stops e =
    let whole : (34 ∷ (x ++ 34 ∷ [])) ++ r ≡ (34 ∷ (y ++ 34 ∷ [])) ++ t = sym (ap (λ u. u ++ r) p) ∙ e ∙ ap (λ u. u ++ t) q in
    let tails : (x ++ 34 ∷ []) ++ r ≡ (y ++ 34 ∷ []) ++ t = cc (whole) in
    escaped_unique v w x y r t is also (sym (append_assoc x (34 ∷ []) r) ∙ tails ∙ append_assoc y (34 ∷ []) t)
values_unique v w r t a b (inl (x, is, p)) (inr (run, q)) end stops e =
    absurd (false≢true (starts_plain 34 w ((x ++ 34 ∷ []) ++ r) t run (sym (ap (λ u. u ++ r) p) ∙ e ∙ ap (λ u. u ++ t) q)))
values_unique v w r t a b (inr (run, p)) (inl (y, also, q)) end stops e =
    absurd (false≢true (starts_plain 34 v ((y ++ 34 ∷ []) ++ t) r run (sym (ap (λ u. u ++ t) q) ∙ sym e ∙ ap (λ u. u ++ r) p)))
values_unique v w r t a b (inr (run, p)) (inr (also, q)) end stops e =
    run_unique is_plain v w r t (is_run is_plain v run) (is_run is_plain w also) (stop_from_end r end) (stop_from_end t stops) (sym (ap (λ u. u ++ r) p) ∙ e ∙ ap (λ u. u ++ t) q)

starts_unique : (n v r m w t text : List ℕ) → StartsWith n v r text → IsEnd r → StartsWith m w t text → IsEnd t → (n ≡ m) × (v ≡ w) × (r ≡ t)
starts_unique n v r m w t text a end b stops =
    let names = first_at 61 n (a.written ++ r) m (b.written ++ t) (name_lacks n a.name_is) (name_lacks m b.name_is) (sym a.text_is ∙ b.text_is) in
    let values = values_unique v w r t a.written b.written a.value_is b.value_is end stops names.1 in
    (names.0, values.0, values.1)

nothing : (before rest : List ℕ) → [] ≡ before ++ 44 ∷ rest → ⊥
nothing [] rest e = absurd (cc)
nothing (c ∷ before) rest e = absurd (cc)

further_unique : (ps qs : List Parameter) (text : List ℕ) → AreFurther ps text → AreFurther qs text → ps ≡ qs
further_unique [] [] text a b = refl
further_unique [] (q ∷ qs) text a (before, behind, parameter, rest, white, more, is, further, e) = absurd (nothing before (behind ++ (parameter ++ rest)) (sym a ∙ e))
further_unique (p ∷ ps) [] text (before, behind, parameter, rest, white, more, is, further, e) b = absurd (nothing before (behind ++ (parameter ++ rest)) (sym b ∙ e))
further_unique ((n, v) ∷ ps) ((m, w) ∷ qs) text (before, behind, parameter, rest, white, more, is, further, e) (front, back, other, last, blank, still, also, later, f) =
    let comma = comma_unique (parameter ++ rest) (other ++ last) text
    (record { before = before; behind = behind; before_is = white; behind_is = more; text_is = e }) (starts_parameter (n, v) parameter rest is)
    (record { before = front; behind = back; before_is = blank; behind_is = still; text_is = f }) (starts_parameter (m, w) other last also) in
    let same = starts_unique n v rest m w last (parameter ++ rest) (starts_with (n, v) parameter rest (parameter ++ rest) is refl) (further_end ps rest further) (starts_with (m, w) other last (parameter ++ rest) also comma) (further_end qs last later) in
    let others = further_unique ps qs rest further (subst (AreFurther qs) (sym same.2) later) in
    cc (same.0, same.1, others)

pub parameters_unique : (ps qs : List Parameter) (text : List ℕ) → AreParameters ps text → AreParameters qs text → ps ≡ qs
parameters_unique [] qs text a b = absurd a
parameters_unique (p ∷ ps) [] text a b = absurd b
parameters_unique ((n, v) ∷ ps) ((m, w) ∷ qs) text (parameter, rest, is, further, e) (other, last, also, later, f) =
    let same = starts_unique n v rest m w last text (starts_with (n, v) parameter rest text is e) (further_end ps rest further) (starts_with (m, w) other last text also f) (further_end qs last later) in
    let others = further_unique ps qs rest further (subst (AreFurther qs) (sym same.2) later) in
    cc (same.0, same.1, others)
