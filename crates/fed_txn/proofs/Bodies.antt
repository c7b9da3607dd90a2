-- What a body is read as, and what is left of it once a list is taken out.
use Rattle.std.proofs.Common.{◌≡◌, ◌≢◌, ℕ, ℤ, ◌≤◌, List, length, true, false, cond, Option, Some, None, IsSome, option_and_then, Ordering, Less, Equal, Greater, nat_cmp, Result, Ok, Err, IsOk, IfErr, IsOkUnless, refl, ap, ◌∙◌, arith, le-ltb}
use Rattle.std.proofs.lemmas.Str.{is_utf8-from_IsUtf8, IsUtf8-from_is_utf8}
use Rattle.std.specs.FinMap.{nat_cmp-IsAntisymmetric, slice_cmp-IsAntisymmetric}
use Rattle.std.specs.Ordering.{match_ordering}
use Rattle.std.specs.Cmp.Lexicographic.{slice_cmp}
use Rattle.std.specs.Str.{is_utf8}
use Rattle.serde_json.specs.Data.{Data, null, boolean, number, string, array, object, Members, no_members, member}
use Rattle.serde_json.specs.Find.{get, get_member}
use Rattle.serde_json.specs.Read.{read}
use Rattle.serde_json.proofs.Nesting.{depth-read}
use Rattle.fed_json.specs.Editing.{without, drop_member}
use Rattle.fed_json.specs.JsonRef.{as_items}
use Rattle.fed_json.specs.Reading.{ReadsWithin, IsNotJson, HasOtherNumber, NestsPast}
use Rattle.fed_txn.specs.declared.transaction.TransactionIn.{TransactionIn}
use Rattle.fed_txn.specs.declared.fault.TxnFault.{TxnFault}
use Rattle.fed_txn.specs.declared.fault.TxnFault.TheVariants.{Memory, NotJson, NotCanonical}
use Rattle.fed_txn.specs.Form.{HasForm}
use Rattle.fed_txn.specs.Reading.{body_of, value_or_fault, transaction_or_fault, read_of}
use Rattle.fed_txn.specs.Transaction.{Transaction, transaction_of, pdus_of, edus_of, items_or_empty}

-- ---- reading

-- `serde_json` reads no deeper
pub past_all : (bytes : List ℕ) → NestsPast bytes 127 → ⊥
past_all bytes (d, reads, whole, deep) = let within = depth-read bytes d reads.1 in omega arith

small : (bytes : List ℕ) → length bytes ≤ 16777216 → body_of bytes ≡ value_or_fault (cond (is_utf8 bytes) (read bytes) None)
small bytes h = rw (le-ltb 16777216 (length bytes) h)

pub body_of_value : (bytes : List ℕ) (d : Data) → length bytes ≤ 16777216 → ReadsWithin bytes 127 d → body_of bytes ≡ Ok d
body_of_value bytes d h r = small bytes h ∙ rw (is_utf8-from_IsUtf8 bytes r.reads.0, r.reads.1, r.whole)

pub body_of_no_value : (bytes : List ℕ) → length bytes ≤ 16777216 → IsNotJson bytes → body_of bytes ≡ Err NotJson
body_of_no_value bytes h none = small bytes h ∙ ap value_or_fault (elim (is_utf8 bytes) as (λ b. is_utf8 bytes ≡ b → cond b (read bytes) None ≡ None) [ true ↦ λ t. none (IsUtf8-from_is_utf8 bytes t) | false ↦ λ t. refl ] refl)

pub body_of_other_number : (bytes : List ℕ) → length bytes ≤ 16777216 → HasOtherNumber bytes → body_of bytes ≡ Err NotCanonical
body_of_other_number bytes h (d, reads, other) = small bytes h ∙ rw (is_utf8-from_IsUtf8 bytes reads.0, reads.1, other)

pub ruleset body_values = (body_of_value, body_of_no_value, body_of_other_number)

-- ---- members

same_key : (k l : List ℕ) → slice_cmp nat_cmp k l ≡ Equal → k ≡ l
same_key = slice_cmp-IsAntisymmetric nat_cmp-IsAntisymmetric

get_member-drop_member : (k l : List ℕ) (ms : Members) → slice_cmp nat_cmp k l ≢ Equal → get_member k (drop_member l ms) ≡ get_member k ms
get_member-drop_member k l no_members other = refl
get_member-drop_member k l (member m d ms) other =
    let rest = get_member-drop_member k l ms other in
    elim (slice_cmp nat_cmp l m) as (λ o. slice_cmp nat_cmp l m ≡ o → get_member k (match_ordering o (member m d (drop_member l ms)) ms (member m d (drop_member l ms))) ≡ get_member k (member m d ms))
    [ Less ↦ λ p. rw rest | Equal ↦ λ p. passed (slice_cmp nat_cmp k m) (λ e. other (ap (slice_cmp nat_cmp k) (same_key l m p) ∙ e)) _ d | Greater ↦ λ p. rw rest ] refl
  where
    passed : (o : Ordering) → o ≢ Equal → (v : Option Data) (d : Data) → v ≡ match_ordering o v (Some d) v
    passed Less other v d = refl
    passed Equal other v d = absurd (other refl)
    passed Greater other v d = refl

-- another member stays as it is
pub get-without : (k l : List ℕ) (body : Data) → slice_cmp nat_cmp k l ≢ Equal → get k (without l body) ≡ get k body
get-without k l null other = refl
get-without k l (boolean b) other = refl
get-without k l (number n) other = refl
get-without k l (string s) other = refl
get-without k l (array ds) other = refl
get-without k l (object ms) other = get_member-drop_member k l ms other

pub items_there : (o : Option Data) (ds : List Data) → items_or_empty o ≡ Some ds → IsSome (option_and_then as_items o) → option_and_then as_items o ≡ Some ds
items_there None ds is there = absurd (cc)
items_there (Some d) ds is there = is

-- ---- transactions

pub transaction_of-form : (body : Data) (origin : List ℕ) (at_ms : ℤ) (pdus edus : List Data) → HasForm body origin at_ms → pdus_of body ≡ Some pdus → edus_of body ≡ Some edus → transaction_of body ≡ Ok (record { origin = origin; at_ms = at_ms; pdus = pdus; edus = edus })
transaction_of-form body origin at_ms pdus edus h p e =
    let few_pdus = rw p at h.few_pdus in
    let few_edus = rw e at h.few_edus in
    rw (h.object, h.origin_is, h.at_ms_is, p, e, few_pdus, few_edus)

-- the first fault, or want of memory
fault_only : (r : Result TransactionIn TxnFault) (t : Result Transaction TxnFault) → IfErr t (λ fault. r ≡ Err fault) → (IsOk t → IsOkUnless r Memory) → IfErr r (λ fault. fault ≢ Memory → t ≡ Err fault)
fault_only (Ok s) t given only = tt
fault_only (Err e) (Err fault) given only = λ other. cc
fault_only (Err e) (Ok t) given only = λ other. absurd (other (only refl))

pub fault_of_read : (bytes : List ℕ) (body : Data) (r : Result TransactionIn TxnFault) → body_of bytes ≡ Ok body → IfErr (transaction_of body) (λ fault. r ≡ Err fault) → (IsOk (transaction_of body) → IsOkUnless r Memory) → IfErr r (λ fault. fault ≢ Memory → read_of bytes ≡ Err fault)
fault_of_read bytes body r value given only = rw (ap transaction_or_fault value) (fault_only r (transaction_of body) given only)
