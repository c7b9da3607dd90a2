use Rattle.std.proofs.Common.{◌≡◌, ◌++◌, ℕ, List, Vec, true, None, Some, Result, Ok, Err, IsOk, IfOk, IsUtf8, String, option_map, string_bytes, refl, sym, ap, ◌∙◌, ◌⊎◌, inl, inr, false}
use Rattle.std.proofs.lemmas.Bool.{cases_Bool}
use Rattle.std.proofs.lemmas.Result.{IfOk-weaker}
use Rattle.percent_encoding.specs.Percent.{percent_decode}
use Rattle.percent_encoding.specs.Iter.{decoded_bytes}
use Rattle.std.proofs.lemmas.Str.{is_utf8-from_IsUtf8, IsUtf8-from_is_utf8, IsUtf8-string_bytes}
use Rattle.std.specs.declared.alloc.Global.{Global}
use Rattle.std.specs.Result.{result_ok}
use Rattle.std.specs.Str.{is_utf8}
use Rattle.fed_inbox.specs.SendPath.{if_passes}
use Rattle.fed_inbox.proofs.send_path.decoded.Goals as goal

-- a text, or bytes that are none
text_or_none : {E : Type 0} (bytes : List ℕ) (r : Result (String Global) E) → IfOk r (λ t. string_bytes t ≡ bytes) → (IsUtf8 bytes → IsOk r) → option_map string_bytes (result_ok r) ≡ if_passes is_utf8 bytes
text_or_none bytes (Ok t) same good =
    let utf8 : is_utf8 bytes ≡ true = ap is_utf8 (sym same) ∙ is_utf8-from_IsUtf8 (string_bytes t) (IsUtf8-string_bytes t) in
    rw utf8 (ap Some same)
text_or_none bytes (Err e) same good = by (cases_Bool (is_utf8 bytes))
  where
    by : (is_utf8 bytes ≡ true) ⊎ (is_utf8 bytes ≡ false) → None ≡ if_passes is_utf8 bytes
    by (inl t) = let bad = good (IsUtf8-from_is_utf8 bytes t) in absurd (cc)
    by (inr f) = rw f refl

pub returns : goal.returns
returns c =
    let read : c.append_to.new.out.items ≡ percent_decode c.args.segment.now =
    c.in_ok-append_to.ensures.ok ∙ ap (λ xs. xs ++ decoded_bytes c.percent_decode.result) c.new-bytes.ensures.items ∙ c.percent_decode.ensures.bytes in
    ap (option_map string_bytes) c.ok.ensures.value
    ∙ text_or_none c.append_to.new.out.items c.from_utf8.result (IfOk-weaker c.from_utf8.result _ _ (λ t e. ap (λ (v : Vec ℕ Global). v.items) e) c.from_utf8.ensures.ok) c.from_utf8.ensures.succeeds
    ∙ ap (if_passes is_utf8) read
