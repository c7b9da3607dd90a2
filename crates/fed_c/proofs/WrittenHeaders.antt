-- What the parts of an Authorization field say, by the tests of each.
use Rattle.std.proofs.Common.{◌≡◌, ◌==◌, List, ℕ, Bool, true, false, length, if◌then◌else◌, Result, Ok, Err, IsErrAnd, refl, ap, ◌∙◌}
use Rattle.std.specs.Str.{is_utf8}
use Rattle.fed_http.specs.XMatrix.{XMatrixValue}
use Rattle.fed_c.specs.declared.status.Status.{Status}
use Rattle.fed_c.specs.declared.status.Status.TheVariants.{NotUtf8, BadSignature}
use Rattle.fed_c.specs.Values.{text_of, unless_empty}
use Rattle.fed_c.specs.XMatrixText.{Parts, said_of, signature_in}

true_of : (b : Bool) (bytes text : List ℕ) → (if b then Ok bytes else Err NotUtf8) ≡ Ok text → b ≡ true
true_of true bytes text e = refl
true_of false bytes text e = absurd (cc)

is_text : (bytes text : List ℕ) → text_of bytes ≡ Ok text → is_utf8 bytes ≡ true
is_text bytes text e = true_of (is_utf8 bytes) bytes text e

other_count : {X : Type 0} (b : Bool) (x : X) (bytes : List ℕ) (status : Status) → (if b then Ok bytes else Err BadSignature) ≡ Err status → (if b then Ok x else Err BadSignature) ≡ Err status
other_count true x bytes status e = absurd (cc)
other_count false x bytes status e = ap Err (let same : BadSignature ≡ status = cc in same)

no_signature : (p : Parts) (origin destination key : List ℕ) (status : Status) → text_of p.origin ≡ Ok origin → text_of p.destination ≡ Ok destination → text_of p.key ≡ Ok key
    → signature_in p.signature ≡ Err status → said_of p ≡ Err status
no_signature p origin destination key status o d k s =
    rw (is_text p.origin origin o, is_text p.destination destination d, is_text p.key key k)
    (other_count {X = XMatrixValue} (length p.signature == 64) (record { origin = p.origin; destination = unless_empty p.destination; key = p.key; signature = p.signature }) p.signature status s)

pub signature_ends : {V : Type 0} (p : Parts) (origin destination key : List ℕ) (status : Status) (answer : Result V Status) → IsErrAnd answer (λ e. e ≡ status)
    → text_of p.origin ≡ Ok origin → text_of p.destination ≡ Ok destination → text_of p.key ≡ Ok key → signature_in p.signature ≡ Err status
    → (why : Status) → said_of p ≡ Err why → answer ≡ Err why
signature_ends p origin destination key status (Ok v) is o d k s why e = absurd is
signature_ends p origin destination key status (Err f) is o d k s why e =
    let bad = no_signature p origin destination key status o d k s in
    let same : status ≡ why = cc in
    ap Err (is ∙ same)
