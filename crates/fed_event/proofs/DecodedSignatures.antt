-- What decoding into 64 bytes answers is what the text decodes to, where that is 64 bytes.
use Rattle.std.proofs.Common.{◌≡◌, ℕ, ◌*◌, ◌/◌, ◌<◌, List, ◌++◌, length, drop, Bool, true, false, cond, nat_eq, nat_lt, Option, Some, None, option_and_then, IfOk, OnOk, String, string_bytes, arith, refl, sym, ◌∙◌, ap, length-append}
use Rattle.std.proofs.lemmas.Bool.Decides.{nat_tests}
use Rattle.std.proofs.lemmas.List.{append-nil, drop_all}
use Rattle.std.specs.Bool.{then_some}
use Rattle.std.specs.Result.{result_ok}
use Rattle.std.specs.declared.alloc.AllocError.{AllocError}
use Rattle.std.specs.declared.alloc.Global.{Global}
use Rattle.std.specs.declared.result.Result.{Result}
use Rattle.std.specs.declared.result.Result.TheVariants.{Ok, Err}
use Rattle.base64.specs.declared.decode.DecodeError.{DecodeError}
use Rattle.base64.specs.declared.decode.DecodeSliceError.{DecodeSliceError}
use Rattle.base64.specs.declared.decode.DecodeSliceError.TheVariants.{OutputSliceTooSmall}
use Rattle.base64.specs.declared.engine.general_purpose.GeneralPurpose.{GeneralPurpose}
use Rattle.base64.specs.Decode.{or_else, or_error, bytes_fit, decode_outcome, groups_before_last, groups_bytes, suffix_bytes}
use Rattle.base64.specs.GeneralPurpose.{encode_of, decode_of, decoded_of, decoded_bytes_of, decode_slice_of}
use Rattle.base64.specs.Engines.{standard_no_pad}
use Rattle.base64.proofs.Decoding.{length-groups_bytes}
use Rattle.serde_json.specs.Data.{Data, string}
use Rattle.serde_json.specs.Find.{as_str}
use Rattle.fed_event.specs.Signatures.{signature_in}

abbrev pub of_64 : List ℕ → Option (List ℕ)
of_64 bytes = cond (nat_eq (length bytes) 64) (Some bytes) None

-- these bytes, where 64 were written
abbrev pub taken : Result ℕ DecodeSliceError → List ℕ → Option (List ℕ)
taken (Ok n) bytes = cond (nat_eq n 64) (Some bytes) None
taken (Err e) bytes = None

too_many : (n : ℕ) (bytes : List ℕ) → 64 < n → cond (nat_eq n 64) (Some bytes) None ≡ None
too_many n bytes h = grind (arith, nat_tests)

fitting : (bytes : List ℕ) → of_64 bytes ≡ taken (bytes_fit (length bytes) 64) bytes
fitting bytes = by (nat_lt 64 (length bytes)) refl
  where
    by : (b : Bool) → nat_lt 64 (length bytes) ≡ b → of_64 bytes ≡ taken (cond b (Err OutputSliceTooSmall) (Ok (length bytes))) bytes
    by true is = too_many (length bytes) bytes (grind (arith, nat_tests))
    by false is = refl

by_steps : (x y : Option DecodeError) (small : Bool) (bytes : List ℕ) → (small ≡ true → 64 < length bytes)
    → option_and_then of_64 (result_ok (decode_outcome (or_else x y) bytes)) ≡ taken (or_error x (cond small (Err OutputSliceTooSmall) (or_error y (bytes_fit (length bytes) 64)))) bytes
by_steps (Some e) y small bytes h = refl
by_steps None (Some e) true bytes h = refl
by_steps None (Some e) false bytes h = refl
by_steps None None true bytes h = too_many (length bytes) bytes (h refl)
by_steps None None false bytes h = fitting bytes

many_groups : (e : GeneralPurpose) (s : List ℕ) → nat_lt (64 / 3) (groups_before_last (length s)) ≡ true → 64 < length (decoded_bytes_of e s)
many_groups e s h =
    let q = groups_before_last (length s) in
    let more : 64 / 3 < q = grind (arith, nat_tests) in
    let whole = length-append (groups_bytes e.decode_table s q) (suffix_bytes e.decode_table e.padding.value (4 * q) s) in
    let groups = length-groups_bytes e.decode_table s q in
    omega (arith, more, whole, groups)

pub decoded-slice : (e : GeneralPurpose) (s : List ℕ) → option_and_then of_64 (decoded_of e s) ≡ taken (decode_slice_of e s 64) (decoded_bytes_of e s)
unfolding decoded_of
decoded-slice e s = by_steps _ _ _ (decoded_bytes_of e s) (many_groups e s)

fit_size : (n m : ℕ) → bytes_fit m 64 ≡ Ok n → m ≡ n
fit_size n m h = by (nat_lt 64 m) h
  where
    by : (b : Bool) → cond b (Err OutputSliceTooSmall) (Ok m) ≡ Ok n → m ≡ n
    by true is = absurd (cc)
    by false is = cc

written_size : (x y : Option DecodeError) (small : Bool) (n m : ℕ) → or_error x (cond small (Err OutputSliceTooSmall) (or_error y (bytes_fit m 64))) ≡ Ok n → m ≡ n
written_size (Some e) y small n m h = absurd (cc)
written_size None y true n m h = absurd (cc)
written_size None (Some e) false n m h = absurd (cc)
written_size None None false n m h = fit_size n m h

-- how many bytes were written
pub length-decoded : (e : GeneralPurpose) (s : List ℕ) (n : ℕ) → decode_slice_of e s 64 ≡ Ok n → length (decoded_bytes_of e s) ≡ n
length-decoded e s n h = written_size _ _ _ n (length (decoded_bytes_of e s)) h

-- ---- the text of a value

pub signature_in-text : (d : Data) (text : List ℕ) → Some text ≡ as_str d → signature_in d ≡ taken (decode_slice_of standard_no_pad text 64) (decoded_bytes_of standard_no_pad text)
signature_in-text d text h = ap (λ v. option_and_then of_64 (option_and_then (decoded_of standard_no_pad) v)) (sym h) ∙ decoded-slice standard_no_pad text

pub taken-none : (r : Result ℕ DecodeSliceError) (bytes : List ℕ) → result_ok r ≡ None → taken r bytes ≡ None
taken-none (Ok n) bytes h = absurd (cc)
taken-none (Err e) bytes h = refl

pub is_ok : (r : Result ℕ DecodeSliceError) (n : ℕ) → result_ok r ≡ Some n → r ≡ Ok n
is_ok (Ok m) n h = cc
is_ok (Err e) n h = absurd (cc)

-- 64 bytes written over 64 others leave none of them
pub taken-written : (n : ℕ) (old new bytes : List ℕ) → length bytes ≡ n → length old ≡ 64 → new ≡ bytes ++ drop (length bytes) old → then_some (nat_eq n 64) new ≡ taken (Ok n) bytes
taken-written n old new bytes size room written = by (nat_eq n 64) refl
  where
    by : (b : Bool) → nat_eq n 64 ≡ b → then_some b new ≡ cond b (Some bytes) None
    by true is =
        let full : n ≡ 64 = grind (arith, nat_tests) in
        ap Some (written ∙ ap (λ rest. bytes ++ rest) (drop_all (length bytes) old (omega arith)) ∙ append-nil bytes)
    by false is = refl

-- ---- the text of 64 bytes

decoded-64 : (text bytes : List ℕ) → decode_of standard_no_pad text ≡ Ok bytes → length bytes ≡ 64 → signature_in (string text) ≡ Some bytes
unfolding decoded_of
decoded-64 text bytes decodes size = ap (λ r. option_and_then of_64 (result_ok r)) decodes ∙ ap (λ n. cond (nat_eq n 64) (Some bytes) None) size

pub decoded-encoded : (r : Result (String Global) AllocError) (bytes : List ℕ) → length bytes ≡ 64 → IfOk r (λ text. string_bytes text ≡ encode_of standard_no_pad bytes)
    → IfOk r (λ text. decode_of standard_no_pad (string_bytes text) ≡ Ok bytes) → OnOk r (signature_in (string (encode_of standard_no_pad bytes)) ≡ Some bytes)
decoded-encoded (Ok text) bytes size written decodes = decoded-64 (encode_of standard_no_pad bytes) bytes (ap (decode_of standard_no_pad) (sym written) ∙ decodes) size
decoded-encoded (Err e) bytes size written decodes = tt
