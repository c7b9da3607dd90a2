-- The lines of a head that has not ended.
use Rattle.std.proofs.Common.{arith, ◌≡◌, ◌≢◌, ℕ, suc, ◌<◌, List, [], ◌∷◌, ◌++◌, length, sym, ap, ◌∙◌, append_assoc, append-nil, length-append, inl, inr}
use Rattle.std.specs.Prelude.{Result, Err}
use Rattle.std.proofs.lemmas.Bool.{cases_lt}
use Rattle.httparse.specs.declared.Error.{Error}
use Rattle.httparse.specs.declared.Error.TheVariants.{TooManyHeaders}
use Rattle.httparse.specs.Grammar.{EndsInTarget, HasNoRequest, NeverHasRequest, HasNoResponse, NeverHasResponse}
use Rattle.httparse.specs.Spans.{RequestOverflows, ResponseOverflows, RequestExceeds, ResponseExceeds}
use Rattle.fed_http.specs.Limits.{max_fields}
use Rattle.fed_http.specs.Lines.{head_lines}
use Rattle.fed_http.specs.Head.{Head, request, reply, IsHeadOf, print_head, field_lines, HasNoHead}
use Rattle.fed_http.specs.Faults.{HasTooManyFields}
use Rattle.fed_http.specs.Unfinished.{IsUnfinishedHead}
use Rattle.fed_http.specs.declared.message.Kind.{Kind}
use Rattle.fed_http.specs.declared.message.Kind.TheVariants.{Requests, Replies}
use Rattle.fed_http.proofs.LineCounts.{token_lines, no_feeds_behind, head_front, head_is, front_lines, lines-append, front_within, front_in, same_front}

-- where more lines have ended than a head with few fields has, and no head is there, none with few fields can be
pub many_lines : (kind : Kind) (bytes : List ℕ) → HasNoHead kind bytes → suc max_fields < head_lines bytes → HasTooManyFields kind bytes
many_lines kind bytes none many more h rest reads =
    elim (cases_lt max_fields (length (field_lines h))) [
      | inl over ↦ over
      | inr few ↦ absurd (elim (cases_lt (length bytes) (length (print_head h))) [
        | inl inside ↦
            let left = front_in (print_head h) rest bytes more (sym reads.whole) (omega (arith, inside)) in
            let some : 0 < length left.0 = omega (arith, inside, ap length left.1, length-append bytes left.0) in
            let within = front_within bytes left.0 (head_front h) 10 (sym left.1 ∙ head_is h) some in
            omega (arith, many, few, lines-append bytes within.0, ap head_lines within.1, front_lines kind h reads.valid)
        | inr whole ↦
            let at = front_in bytes more (print_head h) rest reads.whole whole in
            none h at.0 (record { valid = reads.valid; whole = at.1 })
      ])
    ]

-- a head of too many fields, but for its end, has too many lines
pub exceeding_lines : (kind : Kind) (bytes front rest : List ℕ) (h : Head) → bytes ≡ front ++ rest → IsHeadOf kind h → front ++ 10 ∷ [] ≡ print_head h ++ [] → max_fields < length (field_lines h) → suc max_fields < head_lines bytes
exceeding_lines kind bytes front rest h split valid is many =
    let same = same_front front (head_front h) 10 10 (is ∙ append-nil (print_head h) ∙ head_is h) in
    omega (arith, many, lines-append front rest, ap head_lines split, ap head_lines same, front_lines kind h valid)

-- ---- the end of a target

-- behind the empty lines, bytes inside a target have no line end
target_lines : (bytes : List ℕ) → EndsInTarget bytes → head_lines bytes ≡ 0
target_lines bytes (blank, method, target, is_method, is_target, split) =
    ap head_lines split ∙ token_lines blank method (32 ∷ target) is_method (no_feeds_behind method target is_method is_target)

-- so they are no head
target_is_no_head : (bytes : List ℕ) → EndsInTarget bytes → HasNoHead Requests bytes
target_is_no_head bytes ends h rest reads =
    let whole : bytes ≡ head_front h ++ (10 ∷ rest) = reads.whole ∙ ap (λ v. v ++ rest) (head_is h) ∙ append_assoc (head_front h) (10 ∷ []) rest in
    omega (arith, target_lines bytes ends, ap head_lines whole, lines-append (head_front h) (10 ∷ rest), front_lines Requests h reads.valid)

pub target_unfinished : (bytes : List ℕ) → EndsInTarget bytes → IsUnfinishedHead Requests bytes
target_unfinished bytes ends = record {
  none = target_is_no_head bytes ends;
  may = inr ends;
  few = omega (arith, target_lines bytes ends);
}

-- ---- what the parser refuses

too_many : {A : Type 0} (r : Result A Error) (e : Error) → r ≡ Err e → e ≡ TooManyHeaders → r ≡ Err TooManyHeaders
too_many r e is same = is ∙ ap Err same

pub request_over : {A : Type 0} (bytes : List ℕ) (r : Result A Error) (e : Error) → r ≡ Err e → (e ≢ TooManyHeaders → NeverHasRequest bytes) → (r ≡ Err TooManyHeaders → RequestExceeds max_fields bytes) → ¬ (EndsInTarget bytes)
    → ¬ (IsUnfinishedHead Requests bytes)
request_over bytes r e is invalid exceeds outside u =
    elim u.may [
      | inl may ↦ invalid (λ same. let x = exceeds (too_many r e is same) in omega (arith, u.few, exceeding_lines Requests bytes x.0 x.1 (request x.3) x.2 x.4.0 x.4.1 x.5)) may.0 may.1 [] may.2
      | inr ends ↦ outside ends
    ]

pub reply_over : {A : Type 0} (bytes : List ℕ) (r : Result A Error) (e : Error) → r ≡ Err e → (e ≢ TooManyHeaders → NeverHasResponse bytes) → (r ≡ Err TooManyHeaders → ResponseExceeds max_fields bytes)
    → ¬ (IsUnfinishedHead Replies bytes)
reply_over bytes r e is invalid exceeds u =
    invalid (λ same. let x = exceeds (too_many r e is same) in omega (arith, u.few, exceeding_lines Replies bytes x.0 x.1 (reply x.3) x.2 x.4.0 x.4.1 x.5)) u.may.0 u.may.1 [] u.may.2

pub request_overflows : (bytes : List ℕ) → RequestOverflows max_fields bytes → HasTooManyFields Requests bytes
request_overflows bytes over more (request h) rest reads = over more h rest (reads.valid, reads.whole)
request_overflows bytes over more (reply h) rest reads = absurd reads.valid

pub reply_overflows : (bytes : List ℕ) → ResponseOverflows max_fields bytes → HasTooManyFields Replies bytes
reply_overflows bytes over more (reply h) rest reads = over more h rest (reads.valid, reads.whole)
reply_overflows bytes over more (request h) rest reads = absurd reads.valid

pub request_none : (bytes : List ℕ) → HasNoRequest bytes → HasNoHead Requests bytes
request_none bytes none (request h) rest reads = none h rest (reads.valid, reads.whole)
request_none bytes none (reply h) rest reads = reads.valid

pub reply_none : (bytes : List ℕ) → HasNoResponse bytes → HasNoHead Replies bytes
reply_none bytes none (reply h) rest reads = none h rest (reads.valid, reads.whole)
reply_none bytes none (request h) rest reads = reads.valid
