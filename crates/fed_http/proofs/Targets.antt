-- Where bytes end inside the target of a request.
use Rattle.std.proofs.Common.{arith, ◌≡◌, ◌≢◌, ℕ, zero, suc, ◌+◌, ◌<◌, Bool, true, false, cond, IsTrue, List, [], ◌∷◌, ◌++◌, length, take, drop, get_or, refl, sym, ap, subst, ◌∙◌, append_assoc, length-append, length-take-le, drop-cons, take-append-drop}
use Rattle.std.proofs.lemmas.List.Sums.{AllPass-from_list_all, list_all-from_AllPass}
use Rattle.std.specs.List.{prefix_len, list_all}
use Rattle.std.proofs.lemmas.Bool.{false≢true}
use Rattle.std.proofs.lemmas.List.Elements.{All-head, All-tail, All-nil, All-cons}
use Rattle.httparse.specs.Grammar.{LineEnd, crlf, lf, print_end, print_blank, IsToken, AllPass, is_token_byte, is_uri_byte, EndsInTarget}
use Rattle.httparse.proofs.PieceLemmas.{space_ends_token}
use Rattle.fed_http.specs.LineParts.{LineEndAt, BeginsNoLine}

pub snoc_blank : (blank : List LineEnd) (e : LineEnd) → print_blank (blank ++ e ∷ []) ≡ print_blank blank ++ print_end e
snoc_blank [] crlf = refl
snoc_blank [] lf = refl
snoc_blank (b ∷ blank) e = ap (λ v. print_end b ++ v) (snoc_blank blank e) ∙ sym (append_assoc (print_end b) (print_blank blank) (print_end e))

-- one empty line more
pub one_more : (bytes rest next : List ℕ) (len : ℕ) → ((blank : List LineEnd) × (bytes ≡ print_blank blank ++ rest)) → LineEndAt rest len → len ≢ 0 → next ≡ drop len rest → (blank : List LineEnd) × (bytes ≡ print_blank blank ++ next)
one_more bytes rest next zero at none some is = absurd (some refl)
one_more bytes rest next (suc n) (blank, split) (fits, (e, ends)) some is =
    (blank ++ e ∷ [], split ∙ ap (λ v. print_blank blank ++ v) (ends ∙ ap (λ v. print_end e ++ v) (sym is)) ∙ sym (append_assoc (print_blank blank) (print_end e) next) ∙ ap (λ v. v ++ next) (sym (snoc_blank blank e)))

-- ---- the line behind the empty ones

-- a method, a space and a part of a target
pub record IsInTarget (line : List ℕ) : Type 0 where
  pub method : List ℕ
  pub target : List ℕ
  pub is_method : IsToken method
  pub is_target : AllPass is_uri_byte target
  pub whole : line ≡ method ++ 32 ∷ target

strip : (blank other : List LineEnd) (line rest : List ℕ) → BeginsNoLine line → BeginsNoLine rest → print_blank blank ++ line ≡ print_blank other ++ rest → line ≡ rest
strip [] [] line rest p q e = e
strip [] (f ∷ other) line rest p q e = absurd (p f (print_blank other ++ rest) (e ∙ append_assoc (print_end f) (print_blank other) rest))
strip (f ∷ blank) [] line rest p q e = absurd (q f (print_blank blank ++ line) (sym e ∙ append_assoc (print_end f) (print_blank blank) line))
strip (crlf ∷ blank) (crlf ∷ other) line rest p q e = let same : print_blank blank ++ line ≡ print_blank other ++ rest = cc in strip blank other line rest p q same
strip (crlf ∷ blank) (lf ∷ other) line rest p q e = absurd (cc)
strip (lf ∷ blank) (crlf ∷ other) line rest p q e = absurd (cc)
strip (lf ∷ blank) (lf ∷ other) line rest p q e = let same : print_blank blank ++ line ≡ print_blank other ++ rest = cc in strip blank other line rest p q same

token_is_no : (b c : ℕ) → is_token_byte c ≡ false → IsTrue (is_token_byte b) → b ≢ c
token_is_no b c other is same = false≢true (sym other ∙ ap is_token_byte (sym same) ∙ is)

cr_token : is_token_byte 13 ≡ false
unfolding is_token_byte
cr_token = refl

lf_token : is_token_byte 10 ≡ false
unfolding is_token_byte
lf_token = refl

token_begins_no_line : (method more : List ℕ) → IsToken method → BeginsNoLine (method ++ more)
token_begins_no_line [] more is e rest same = omega (arith, is.0)
token_begins_no_line (c ∷ method) more is crlf rest same = token_is_no c 13 cr_token (All-head (λ b. IsTrue (is_token_byte b)) c method is.1) (cc)
token_begins_no_line (c ∷ method) more is lf rest same = token_is_no c 10 lf_token (All-head (λ b. IsTrue (is_token_byte b)) c method is.1) (cc)

pub target_in_line : (bytes line : List ℕ) → ((blank : List LineEnd) × (bytes ≡ print_blank blank ++ line)) → BeginsNoLine line → EndsInTarget bytes → IsInTarget line
target_in_line bytes line (blank, split) ended (other, method, target, is_method, is_target, is) = record {
  method = method;
  target = target;
  is_method = is_method;
  is_target = is_target;
  whole = strip blank other line (method ++ 32 ∷ target) ended (token_begins_no_line method (32 ∷ target) is_method) (sym split ∙ is ∙ append_assoc (print_blank other) method (32 ∷ target));
}

pub line_in_target : (bytes line : List ℕ) → ((blank : List LineEnd) × (bytes ≡ print_blank blank ++ line)) → IsInTarget line → EndsInTarget bytes
line_in_target bytes line (blank, split) t =
    (blank, t.method, t.target, t.is_method, t.is_target, split ∙ ap (λ v. print_blank blank ++ v) t.whole ∙ sym (append_assoc (print_blank blank) t.method (32 ∷ t.target)))

-- ---- the run of a token

run_of : (method more : List ℕ) → AllPass is_token_byte method → prefix_len is_token_byte (method ++ 32 ∷ more) ≡ length method
run_of [] more all = ap (λ b. cond b (1 + prefix_len is_token_byte more) 0) space_ends_token
run_of (c ∷ method) more all =
    ap (λ b. cond b (1 + prefix_len is_token_byte (method ++ 32 ∷ more)) 0) (All-head (λ b. IsTrue (is_token_byte b)) c method all)
    ∙ omega (arith, run_of method more (All-tail (λ b. IsTrue (is_token_byte b)) c method all))

pub method_run : (line : List ℕ) (n : ℕ) (t : IsInTarget line) → n ≡ prefix_len is_token_byte line → n ≡ length t.method
method_run line n t is = is ∙ ap (prefix_len is_token_byte) t.whole ∙ run_of t.method t.target t.is_method.1

pub method_some : (line : List ℕ) (n : ℕ) → n ≡ prefix_len is_token_byte line → IsInTarget line → (0 < n) × (n < length line)
method_some line n is t =
    let count = method_run line n t is in
    (omega (arith, count, t.is_method.0), omega (arith, count, ap length t.whole, length-append t.method (32 ∷ t.target)))

space_at : (method target : List ℕ) → get_or (method ++ 32 ∷ target) (length method) 0 ≡ 32
space_at [] target = refl
space_at (c ∷ method) target = space_at method target

behind_space : (method target : List ℕ) → drop (suc (length method)) (method ++ 32 ∷ target) ≡ target
behind_space [] target = refl
behind_space (c ∷ method) target = behind_space method target

pub space_behind : (line : List ℕ) (n : ℕ) → n ≡ prefix_len is_token_byte line → IsInTarget line → get_or line n 0 ≡ 32
space_behind line n is t = ap (get_or line n) refl ∙ (λ i. get_or (t.whole i) (method_run line n t is i) 0) ∙ space_at t.method t.target

-- what is behind it is all target
pub target_passes : (line rest : List ℕ) (n : ℕ) → n ≡ prefix_len is_token_byte line → rest ≡ drop (n + 1) line → IsInTarget line → list_all is_uri_byte rest ≡ true
target_passes line rest n is cut t =
    let count : n + 1 ≡ suc (length t.method) = omega (arith, method_run line n t is) in
    let same : rest ≡ t.target = cut ∙ (λ i. drop (count i) (t.whole i)) ∙ behind_space t.method t.target in
    ap (list_all is_uri_byte) same ∙ list_all-from_AllPass is_uri_byte t.target t.is_target

run_passes : (test : ℕ → Bool) (xs : List ℕ) → AllPass test (take (prefix_len test xs) xs)
run_passes test [] = All-nil (λ b. IsTrue (test b))
run_passes test (x ∷ xs) =
    let P : Bool → Type 0 = λ b. test x ≡ b → AllPass test (take (cond b (1 + prefix_len test xs) 0) (x ∷ xs)) in
    let one : suc (prefix_len test xs) ≡ 1 + prefix_len test xs = omega arith in
    let more : AllPass test (x ∷ take (prefix_len test xs) xs) → AllPass test (take (1 + prefix_len test xs) (x ∷ xs)) = subst (λ n. AllPass test (take n (x ∷ xs))) one in
    elim (test x) as P [
      | true ↦ λ passes. more (All-cons (λ b. IsTrue (test b)) x (take (prefix_len test xs) xs) passes (run_passes test xs))
      | false ↦ λ fails. All-nil (λ b. IsTrue (test b))
    ] refl

pub passes_target : (line rest : List ℕ) (n : ℕ) → n ≡ prefix_len is_token_byte line → n ≢ 0 → n < length line → get_or line n 0 ≡ 32 → rest ≡ drop (n + 1) line → list_all is_uri_byte rest ≡ true → IsInTarget line
passes_target line rest n is some inside space cut all =
    let next : n + 1 ≡ suc n = omega arith in
    record {
      method = take n line;
      target = rest;
      is_method = (omega (arith, length-take-le n line (omega (arith, inside)), some), subst (λ k. AllPass is_token_byte (take k line)) (sym is) (run_passes is_token_byte line));
      is_target = AllPass-from_list_all is_uri_byte rest all;
      whole = sym (take-append-drop n line) ∙ ap (λ v. take n line ++ v) (drop-cons line n 0 inside ∙ ap (λ b. b ∷ drop (suc n) line) space ∙ ap (λ k. 32 ∷ drop k line) (sym next) ∙ ap (λ v. 32 ∷ v) (sym cut));
    }
