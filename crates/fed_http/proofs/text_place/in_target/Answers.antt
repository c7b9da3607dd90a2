use Rattle.std.proofs.Common.{arith, ◌≡◌, ◌<◌, [], ◌∷◌, ◌++◌, length, sym, subst, ◌∙◌}
use Rattle.std.specs.Prelude.{IsUtf8, ℕ, List, true, false, ◌==◌, Result, Ok, Err, MatchResult}
use Rattle.std.specs.Borrow.{Bor}
use Rattle.std.specs.Result.{is_ok}
use Rattle.std.proofs.lemmas.Bool.{false≢true}
use Rattle.fed_http.specs.TextPlaces.{IsHeadPlace}
use Rattle.fed_http.specs.declared.text_place.TextPlace.TheVariants.{Version}
use Rattle.fed_http.specs.declared.message.Kind.TheVariants.{Requests}
use Rattle.fed_http.proofs.PlaceStarts.{target_ends, target_is}
use Rattle.fed_http.proofs.text_place.in_target.Goals as goal

text_of : {E : Type 0} (F : E → Type 0) (bytes : List ℕ) (r : Result (Bor (List ℕ)) E) → MatchResult r (λ s. (s.now ≡ bytes) × IsUtf8 bytes) (λ e. ¬ (IsUtf8 bytes) × F e) → is_ok r ≡ true → IsUtf8 bytes
text_of F bytes (Ok s) cases is = cases.1
text_of F bytes (Err e) cases is = absurd (false≢true is)

some_of : (xs : List ℕ) → (length xs == 0) ≡ false → 0 < length xs
some_of [] none = absurd (false≢true (sym none))
some_of (x ∷ xs) none = omega arith

pub returns-then-is_ok : goal.returns-then-is_ok
returns-then-is_ok c bytes t is =
    let same : c.args.target.now ≡ t.target = is ∙ target_is c.args.start bytes t in
    let some : 0 < length t.target = subst (λ v. 0 < length v) same (some_of c.args.target.now (sym c.is_empty.ensures ∙ c.if-not-is_empty.true)) in
    let text : IsUtf8 t.target = subst IsUtf8 same (text_of _ c.args.target.now c.from_utf8.result c.from_utf8.ensures.cases (sym c.is_ok.ensures.value ∙ c.if-is_ok.true)) in
    subst (λ b. IsHeadPlace Requests (bytes ++ b ∷ []) (Version 0)) (sym c.if-byte-eq32.true) (record { few = tt; late = tt; behind = target_ends c.args.start bytes t some text })
