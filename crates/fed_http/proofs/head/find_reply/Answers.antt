use Rattle.std.proofs.Common.{arith, ◌≡◌, ◌≢◌, ℕ, suc, length, subst, Err, ◌<◌, ◌≤◌, refl, sym, ◌∙◌, inl, inr}
use Rattle.std.proofs.lemmas.Bool.{false≢true, cases_lt}
use Rattle.httparse.specs.Spans.{IsResponseWithin, IsResponseOf, ResponseOverflows, ResponseExceeds}
use Rattle.httparse.proofs.HeadLemmas.{at_complete, on_partial}
use Rattle.httparse.specs.Grammar.{NeverHasResponse}
use Rattle.httparse.specs.declared.Error.{Error}
use Rattle.httparse.specs.declared.Error.TheVariants.{TooManyHeaders}
use Rattle.fed_http.specs.Limits.{max_fields}
use Rattle.fed_http.specs.Lines.{head_lines}
use Rattle.fed_http.specs.declared.message.Kind.TheVariants.{Replies}
use Rattle.fed_http.proofs.Lines.{on_err}
use Rattle.fed_http.proofs.HeadLines.{many_lines, reply_over, reply_overflows, reply_none}
use Rattle.fed_http.proofs.HeadsFound.{some_reply}
use Rattle.fed_http.proofs.head.find_reply.Goals as goal

pub returns-in-Ok-Complete-clause-found : goal.returns-in-Ok-Complete-clause-found
returns-in-Ok-Complete-clause-found c =
    let bytes = c.args.bytes.now in
    let headers = c.parse_response.new.headers in
    some_reply bytes headers c.in-Ok-Complete.spans c.requires.few (omega arith)
    (at_complete (IsResponseWithin bytes headers) c.in-Ok-Complete.is c.in-Ok-Complete.field-0-is c.parse_response.ensures.within)
    (at_complete (IsResponseOf bytes headers) c.in-Ok-Complete.is c.in-Ok-Complete.field-0-is c.parse_response.ensures.complete)

pub returns-in-Ok-Partial-clause-unfinished : goal.returns-in-Ok-Partial-clause-unfinished
returns-in-Ok-Partial-clause-unfinished c = record {
  none = reply_none c.args.bytes.now (on_partial c.in-Ok-Partial.is c.in-Ok-Partial.field-0-is c.parse_response.ensures.partial);
  may = on_partial c.in-Ok-Partial.is c.in-Ok-Partial.field-0-is c.parse_response.ensures.unfinished;
  few = c.has_room.ensures.0 c.if-has_room.true;
}

pub returns-in-Ok-Partial-2-clause-bad : goal.returns-in-Ok-Partial-2-clause-bad
returns-in-Ok-Partial-2-clause-bad c =
    let bytes = c.args.bytes.now in
    let none = reply_none bytes (on_partial c.in-Ok-Partial.is c.in-Ok-Partial.field-0-is c.parse_response.ensures.partial) in
    let over : head_lines bytes ≤ suc max_fields → ⊥ = λ few. false≢true (sym c.if-has_room.false ∙ c.has_room.ensures.1 few) in
    let many : suc max_fields < head_lines bytes = elim (cases_lt (suc max_fields) (head_lines bytes)) [ inl more ↦ more | inr few ↦ absurd (over few) ] in
    (refl, many_lines Replies bytes none many, λ u. over u.few)

pub returns-in-Err-clause-bad : goal.returns-in-Err-clause-bad
returns-in-Err-clause-bad c =
    let bytes = c.args.bytes.now in
    let room = length c.args.fields.now in
    let P : Error → Type 0 = λ _. ResponseOverflows room bytes in
    let M : ℕ → Type 0 = λ n. ResponseOverflows n bytes in
    let N : ℕ → Type 0 = λ n. c.parse_response.result ≡ Err TooManyHeaders → ResponseExceeds n bytes in
    let Q : Error → Type 0 = λ e. e ≢ TooManyHeaders → NeverHasResponse bytes in (
      refl,
      reply_overflows bytes (subst M c.requires.room (on_err P c.in-Err.is c.parse_response.ensures.no_room)),
      reply_over bytes c.parse_response.result c.in-Err.field-0 c.in-Err.is (on_err Q c.in-Err.is c.parse_response.ensures.invalid) (subst N c.requires.room c.parse_response.ensures.too_many),
    )
