use Rattle.std.proofs.Common.{◌≡◌, ℕ, List, Bool, true, false, Some, Result, Ok, Err, IsUtf8, MatchResult, Bor, option_map, refl, ap, ◌∙◌}
use Rattle.std.proofs.lemmas.Str.{is_utf8-from_IsUtf8, IsUtf8-from_is_utf8}
use Rattle.std.specs.Result.{result_ok}
use Rattle.std.specs.Str.{is_utf8}
use Rattle.fed_http.specs.Framing.{if_text}
use Rattle.fed_http.proofs.request.text_of.Goals as goal

not_true : (b : Bool) → ¬ (b ≡ true) → b ≡ false
not_true true h = absurd (h refl)
not_true false h = refl

-- the text, or bytes that are none
text_or_none : {E : Type 0} (V : E → Type 0) (bytes : List ℕ) (r : Result (Bor (List ℕ)) E) → MatchResult r (λ s. (s.now ≡ bytes) × IsUtf8 bytes) (λ e. ¬ (IsUtf8 bytes) × V e) → option_map (λ (s : Bor (List ℕ)). s.now) (result_ok r) ≡ if_text bytes
text_or_none V bytes (Ok s) is = rw (is_utf8-from_IsUtf8 bytes is.1) (ap Some is.0)
text_or_none V bytes (Err e) is = rw (not_true (is_utf8 bytes) (λ t. is.0 (IsUtf8-from_is_utf8 bytes t))) refl

pub returns : goal.returns
returns c = ap (option_map (λ (s : Bor (List ℕ)). s.now)) c.ok.ensures.value ∙ text_or_none _ c.args.bytes.now c.from_utf8.result c.from_utf8.ensures.cases
