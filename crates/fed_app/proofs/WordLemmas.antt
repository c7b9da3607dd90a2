-- Whether bytes are a word, and the words of a line part by part.
use Rattle.std.proofs.Common.{◌≡◌, ℕ, List, Option, None, Some, Result, Ok, Err, Bool, true, false, ◌&&◌, refl, Bor}
use Rattle.std.specs.Prelude.{MatchResult, MatchOption}
use Rattle.std.specs.Result.{result_ok}
use Rattle.std.specs.Str.{IsUtf8, is_utf8}
use Rattle.std.proofs.lemmas.Str.{IsUtf8-from_is_utf8, is_utf8-from_IsUtf8}
use Rattle.fed_inbox.specs.Answer.{request_of}
use Rattle.fed_app.specs.Words.{has_bytes, is_word, first_word, later_words, words_of}

not_true : (b : Bool) → (b ≡ true → ⊥) → b ≡ false
not_true true h = absurd (h refl)
not_true false h = refl

abbrev IsWordOf : List ℕ → Option (Bor (List ℕ)) → Type 0
IsWordOf bytes r = MatchOption r (is_word bytes ≡ false) (λ word. (word.now ≡ bytes) × (is_word bytes ≡ true))

pub word_of_text : {E : Type 0} (F : E → Type 0) (bytes : List ℕ) (r : Result (Bor (List ℕ)) E) → has_bytes bytes ≡ true
    → MatchResult r (λ s. (s.now ≡ bytes) × IsUtf8 bytes) (λ e. ¬ (IsUtf8 bytes) × F e) → IsWordOf bytes (result_ok r)
word_of_text F bytes (Ok s) some is = (is.0, rw some (is_utf8-from_IsUtf8 bytes is.1))
word_of_text F bytes (Err e) some is = rw some (not_true (is_utf8 bytes) (λ t. is.0 (IsUtf8-from_is_utf8 bytes t)))

and_false : (a : Bool) → (a && false) ≡ false
and_false true = refl
and_false false = refl

-- what stops a line from having words
pub no_origin : (line : List ℕ) → is_word (first_word line) ≡ false → None ≡ words_of line
no_origin line e = rw e refl

pub no_txn : (line : List ℕ) → is_word (first_word (later_words line)) ≡ false → None ≡ words_of line
no_txn line e = rw e (rw (and_false (is_word (first_word line))) refl)

pub no_body : (line : List ℕ) → has_bytes (later_words (later_words line)) ≡ false → None ≡ words_of line
no_body line e = rw e (rw (and_false (is_word (first_word line) && is_word (first_word (later_words line)))) refl)

pub words_are : (line origin txn body : List ℕ) → origin ≡ first_word line → txn ≡ first_word (later_words line) → body ≡ later_words (later_words line)
    → is_word (first_word line) ≡ true → is_word (first_word (later_words line)) ≡ true → has_bytes (later_words (later_words line)) ≡ true
    → Some (request_of origin txn body) ≡ words_of line
words_are line origin txn body o t b some_origin some_txn some_body = rw (o, t, b) (rw (some_origin, some_txn, some_body) refl)
