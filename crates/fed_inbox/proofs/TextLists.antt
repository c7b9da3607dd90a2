-- Texts that lie one after another in one buffer.
use Rattle.std.proofs.Common.{arith, suc, ◌≡◌, ℕ, ◌+◌, ◌==◌, ◌≤◌, List, [], ◌∷◌, ◌++◌, Bor, false, Option, None, Some, MatchOption, take, drop, sum, length, refl, sym, ap, ◌∙◌}
use Rattle.std.proofs.lemmas.Bool.{false≢true}
use Rattle.std.proofs.lemmas.List.{take-append-le, drop-append-le, length-drop}
use Rattle.std.proofs.lemmas.List.Sums.{sum_by-cons}
use Rattle.std.proofs.Math.Seq.{take-length}
use Rattle.fed_inbox.specs.TextList.{texts_in}

-- one more text at the end
pub texts_in-push : (lengths bytes text : List ℕ) → sum lengths ≡ length bytes → texts_in (lengths ++ length text ∷ []) (bytes ++ text) ≡ texts_in lengths bytes ++ text ∷ []
texts_in-push [] [] text whole = ap (λ t. t ∷ []) (take-length text)
texts_in-push [] (b ∷ bytes) text whole = absurd (omega arith)
texts_in-push (n ∷ lengths) bytes text whole =
    let more : sum (n ∷ lengths) ≡ n + sum lengths = sum_by-cons (λ k. k) n lengths in
    let within : n ≤ length bytes = omega (arith, more, whole) in
    let left : sum lengths ≡ length (drop n bytes) = omega (arith, more, whole, length-drop n bytes) in
    ap (λ t. t ∷ texts_in (lengths ++ length text ∷ []) (drop n (bytes ++ text))) (take-append-le n bytes text within)
    ∙ ap (λ d. take n bytes ∷ texts_in (lengths ++ length text ∷ []) d) (drop-append-le n bytes text within)
    ∙ ap (λ ts. take n bytes ∷ ts) (texts_in-push lengths (drop n bytes) text left)

pub texts_in-length : (lengths bytes : List ℕ) → length (texts_in lengths bytes) ≡ length lengths
texts_in-length [] bytes = refl
texts_in-length (n ∷ lengths) bytes = ap suc (texts_in-length lengths (drop n bytes))

-- a text of the list at hand, and the lists after it
pub one_further : (before texts after rest : List (List ℕ)) (r : Option (Bor (List ℕ))) → before ≡ texts ++ rest → (length texts == 0) ≡ false
    → MatchOption r ((texts ≡ []) × (after ≡ [])) (λ x. texts ≡ x.now ∷ after) → MatchOption r ((before ≡ []) × (after ++ rest ≡ [])) (λ x. before ≡ x.now ∷ (after ++ rest))
one_further before texts after rest None is some gives = absurd (false≢true (sym some ∙ ap (λ t. length t == 0) gives.0))
one_further before texts after rest (Some x) is some gives = is ∙ ap (λ t. t ++ rest) gives
