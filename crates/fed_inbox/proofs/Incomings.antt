-- How a request is read.
use Rattle.std.proofs.lemmas.Slice.Eq.{bytes_eq-Decides}
use Rattle.std.proofs.Common.{◌≡◌, ◌≢◌, ℕ, List, bytes_eq, not, length, IsUtf8, if◌then◌else◌, Bool, true, false, Option, Some, None, Result, Ok, Err, IfErr, IsErrAnd, inl, inr, refl, sym, ap, subst, ◌∙◌}
use Rattle.std.proofs.lemmas.Str.{is_utf8-from_IsUtf8}
use Rattle.base64.specs.GeneralPurpose.{IsBytes}
use Rattle.fed_http.specs.Message.{RequestValue}
use Rattle.fed_http.specs.XMatrixSigning.{SignableJson, header_of, request_of}
use Rattle.fed_http.specs.XMatrixWriting.{header_text}
use Rattle.fed_http.specs.XMatrix.{XMatrixValue, IsXMatrix}
use Rattle.fed_http.proofs.Headers.{same_header}
use Rattle.fed_http.proofs.XMatrixTexts.{written_is}
use Rattle.fed_inbox.specs.declared.refusal.Refusal.{Refusal}
use Rattle.fed_inbox.specs.SendPath.{txn_of}
use Rattle.fed_inbox.specs.WholeRequest.{Heading, authorization_of, is_for, HasHeader, IsSending, IsReadAs, no_such_path, other_method, no_header, other_destination, heading}
use Rattle.fed_inbox.specs.IncomingParts.{HasNoHeader, IsHeaderFault, IsReadFault}

same_text : (a b : List ℕ) (o : Option (List ℕ)) → o ≡ Some a → o ≡ Some b → a ≡ b
same_text a b o p q =
    let whole : Some a ≡ Some b = sym p ∙ q in
    cc whole

pub headless : (r : RequestValue) (text : List ℕ) → authorization_of r ≡ Some text → ((h : XMatrixValue) → IsXMatrix text h → ⊥) → HasNoHeader r
headless r text is none h (other, has, says) = none h (subst (λ t. IsXMatrix t h) (same_text other text (authorization_of r) has is) says)

-- where the header is not read, the request isn't
pub header_fault : (own : List ℕ) (r : RequestValue) (txn : List ℕ) (refusal : Refusal) → IsSending r txn → IsHeaderFault r refusal → IsReadFault own r refusal
header_fault own r txn refusal sends (inl (is, none)) = inl (subst (λ e. IsReadAs own r (Err e)) (sym is) (no_header txn sends none))
header_fault own r txn refusal sends (inr memory) = inr memory

pub passed_fault : {T : Type 0} (own : List ℕ) (r : RequestValue) (e : Refusal) (x : Result T Refusal) → IsErrAnd x (λ y. y ≡ e) → IsReadFault own r e → IfErr x (λ y. IsReadFault own r y)
passed_fault own r e (Ok a) h fault = tt
passed_fault own r e (Err y) h fault = subst (IsReadFault own r) (sym h) fault

-- ---- what comparisons tell

pub equal_texts : (a b : List ℕ) → not (bytes_eq a b) ≡ false → a ≡ b
equal_texts a b h = by (bytes_eq a b) refl h
  where
    by : (t : Bool) → bytes_eq a b ≡ t → not t ≡ false → a ≡ b
    by true is f = (bytes_eq-Decides a b).0 is
    by false is f = absurd (cc)

pub other_texts : (a b : List ℕ) → not (bytes_eq a b) ≡ true → a ≢ b
other_texts a b h same = absurd (cc (sym h ∙ ap not ((bytes_eq-Decides a b).1 same)))

-- ---- a request is read in one way

headers_agree : (r : RequestValue) (h g : XMatrixValue) → HasHeader r h → HasHeader r g → h ≡ g
headers_agree r h g (text, has, says) (other, also, is) =
    same_header text h g says (subst (λ t. IsXMatrix t g) (same_text other text (authorization_of r) also has) is)

apart : (own : List ℕ) (h g : XMatrixValue) → h ≡ g → is_for own h.destination ≡ false → is_for own g.destination ≡ true → ⊥
apart own h g same left right = absurd (cc (sym left ∙ ap (λ x. is_for own x.destination) same ∙ right))

same_headings : (t u : List ℕ) (h g : XMatrixValue) → t ≡ u → h ≡ g → ◌≡◌ {A = Result Heading Refusal} (Ok (record { txn = t; header = h })) (Ok (record { txn = u; header = g }))
same_headings t u h g p q i = Ok (record { txn = p i; header = q i })

pub one_reading : (own : List ℕ) (r : RequestValue) (a b : Result Heading Refusal) → IsReadAs own r a → IsReadAs own r b → a ≡ b
one_reading own r _ _ (no_such_path n1) (no_such_path n2) = refl
one_reading own r _ _ (no_such_path n1) (other_method t2 is2 other2) = absurd (cc (sym n1 ∙ is2))
one_reading own r _ _ (no_such_path n1) (no_header t2 s2 none2) = absurd (cc (sym n1 ∙ s2.0))
one_reading own r _ _ (no_such_path n1) (other_destination t2 h2 s2 has2 to2) = absurd (cc (sym n1 ∙ s2.0))
one_reading own r _ _ (no_such_path n1) (heading t2 h2 s2 has2 to2) = absurd (cc (sym n1 ∙ s2.0))
one_reading own r _ _ (other_method t1 is1 other1) (no_such_path n2) = absurd (cc (sym n2 ∙ is1))
one_reading own r _ _ (other_method t1 is1 other1) (other_method t2 is2 other2) = refl
one_reading own r _ _ (other_method t1 is1 other1) (no_header t2 s2 none2) = absurd (other1 s2.1)
one_reading own r _ _ (other_method t1 is1 other1) (other_destination t2 h2 s2 has2 to2) = absurd (other1 s2.1)
one_reading own r _ _ (other_method t1 is1 other1) (heading t2 h2 s2 has2 to2) = absurd (other1 s2.1)
one_reading own r _ _ (no_header t1 s1 none1) (no_such_path n2) = absurd (cc (sym n2 ∙ s1.0))
one_reading own r _ _ (no_header t1 s1 none1) (other_method t2 is2 other2) = absurd (other2 s1.1)
one_reading own r _ _ (no_header t1 s1 none1) (no_header t2 s2 none2) = refl
one_reading own r _ _ (no_header t1 s1 none1) (other_destination t2 h2 s2 has2 to2) = absurd (none1 h2 has2)
one_reading own r _ _ (no_header t1 s1 none1) (heading t2 h2 s2 has2 to2) = absurd (none1 h2 has2)
one_reading own r _ _ (other_destination t1 h1 s1 has1 to1) (no_such_path n2) = absurd (cc (sym n2 ∙ s1.0))
one_reading own r _ _ (other_destination t1 h1 s1 has1 to1) (other_method t2 is2 other2) = absurd (other2 s1.1)
one_reading own r _ _ (other_destination t1 h1 s1 has1 to1) (no_header t2 s2 none2) = absurd (none2 h1 has1)
one_reading own r _ _ (other_destination t1 h1 s1 has1 to1) (other_destination t2 h2 s2 has2 to2) = refl
one_reading own r _ _ (other_destination t1 h1 s1 has1 to1) (heading t2 h2 s2 has2 to2) = absurd (apart own h1 h2 (headers_agree r h1 h2 has1 has2) to1 to2)
one_reading own r _ _ (heading t1 h1 s1 has1 to1) (no_such_path n2) = absurd (cc (sym n2 ∙ s1.0))
one_reading own r _ _ (heading t1 h1 s1 has1 to1) (other_method t2 is2 other2) = absurd (other2 s1.1)
one_reading own r _ _ (heading t1 h1 s1 has1 to1) (no_header t2 s2 none2) = absurd (none2 h1 has1)
one_reading own r _ _ (heading t1 h1 s1 has1 to1) (other_destination t2 h2 s2 has2 to2) = absurd (apart own h2 h1 (headers_agree r h2 h1 has2 has1) to2 to1)
one_reading own r _ _ (heading t1 h1 s1 has1 to1) (heading t2 h2 s2 has2 to2) = same_headings t1 t2 h1 h2 (same_text t1 t2 (txn_of r.target) s1.0 s2.0) (headers_agree r h1 h2 has1 has2)

-- ---- signed requests

pub signed_read : (asked : SignableJson) (key : List ℕ) (sign : List ℕ → List ℕ) (txn : List ℕ) → IsSending (request_of asked key sign) txn → IsUtf8 (header_text (header_of asked key sign))
    → IsBytes (header_of asked key sign).signature → length (header_of asked key sign).signature ≡ 64
    → IsReadAs asked.destination (request_of asked key sign) (Ok (record { txn = txn; header = header_of asked key sign }))
signed_read asked key sign txn sends utf8 bytes count =
    let text = header_text (header_of asked key sign) in
    let has : authorization_of (request_of asked key sign) ≡ Some text = ap (λ b. if b then Some text else None) (is_utf8-from_IsUtf8 text utf8) in
    heading txn (header_of asked key sign) sends (text, has, written_is (header_of asked key sign) count bytes) ((bytes_eq-Decides asked.destination asked.destination).1 refl)
