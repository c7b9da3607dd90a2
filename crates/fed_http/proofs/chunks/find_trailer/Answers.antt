use Rattle.std.proofs.Common.{arith, rules, ℕ, ◌≡◌, ◌≢◌, ◌∙◌, sym, ap, Err}
use denote.Enum.Bare.{same_true}
use Rattle.httparse.specs.contracts.Error.{the_type}
use Rattle.std.proofs.lemmas.Bool.{false≢true}
use Rattle.httparse.specs.Grammar.{NeverHasSection}
use Rattle.httparse.specs.Spans.{IsSectionOf, IsSectionWithin}
use Rattle.httparse.specs.declared.Error.{Error}
use Rattle.httparse.specs.declared.Error.TheVariants.{TooManyHeaders}
use Rattle.httparse.proofs.HeadLemmas.{at_complete, on_partial}
use Rattle.fed_http.specs.Lines.{first_lines}
use Rattle.fed_http.proofs.Lines.{trailer_found, trailer_unended, trailer_full, trailer_never, trailer_exceeds, on_err}
use Rattle.fed_http.proofs.chunks.find_trailer.Goals as goal

pub returns-in-Ok-Complete-clause-found : goal.returns-in-Ok-Complete-clause-found
returns-in-Ok-Complete-clause-found c =
    let front = c.first_lines-front.result.now in
    let is = c.first_lines-front.ensures ∙ ap (λ v. first_lines v 65) c.window.ensures in
    let headers = c.parse_headers.new.headers in
    let W : ℕ × ℕ → Type 0 = λ r. IsSectionWithin front headers r.0 r.1 in
    let S : ℕ × ℕ → Type 0 = IsSectionOf front 0 headers in
    trailer_found c.args.bytes.now front headers c.in-Ok-Complete.len c.in-Ok-Complete.field-0-0-1 is (omega arith)
    (at_complete W c.in-Ok-Complete.is c.in-Ok-Complete.field-0-is c.parse_headers.ensures.within)
    (at_complete S c.in-Ok-Complete.is c.in-Ok-Complete.field-0-is c.parse_headers.ensures.complete)

pub returns-in-Ok-Partial-clause-fault : goal.returns-in-Ok-Partial-clause-fault
returns-in-Ok-Partial-clause-fault c =
    let is = c.first_lines-front.ensures ∙ ap (λ v. first_lines v 65) c.window.ensures in
    trailer_full c.args.bytes.now c.first_lines-front.result.now is (on_partial c.in-Ok-Partial.is c.in-Ok-Partial.field-0-is c.parse_headers.ensures.partial) (on_partial c.in-Ok-Partial.is c.in-Ok-Partial.field-0-is c.parse_headers.ensures.unfinished)
    (omega (arith, c.line_feeds.ensures))

pub returns-in-Ok-Partial-2-clause-unfinished : goal.returns-in-Ok-Partial-2-clause-unfinished
returns-in-Ok-Partial-2-clause-unfinished c =
    let is = c.first_lines-front.ensures ∙ ap (λ v. first_lines v 65) c.window.ensures in
    record {
      few = c.if-bytes-lt-MAX_HEAD.true;
      unended = trailer_unended c.args.bytes.now c.first_lines-front.result.now is (on_partial c.in-Ok-Partial.is c.in-Ok-Partial.field-0-is c.parse_headers.ensures.partial) (on_partial c.in-Ok-Partial.is c.in-Ok-Partial.field-0-is c.parse_headers.ensures.unfinished)
          (omega (arith, c.line_feeds.ensures));
    }

pub returns-in-Ok-Partial-3-clause-fault : goal.returns-in-Ok-Partial-3-clause-fault
returns-in-Ok-Partial-3-clause-fault c =
    let is = c.first_lines-front.ensures ∙ ap (λ v. first_lines v 65) c.window.ensures in (
      c.if-bytes-lt-MAX_HEAD.false,
      trailer_unended c.args.bytes.now c.first_lines-front.result.now is (on_partial c.in-Ok-Partial.is c.in-Ok-Partial.field-0-is c.parse_headers.ensures.partial) (on_partial c.in-Ok-Partial.is c.in-Ok-Partial.field-0-is c.parse_headers.ensures.unfinished)
          (omega (arith, c.line_feeds.ensures)),
    )

pub returns-in-Err-clause-fault : goal.returns-in-Err-clause-fault
returns-in-Err-clause-fault c =
    let is = c.first_lines-front.ensures ∙ ap (λ v. first_lines v 65) c.window.ensures in
    let same : c.in-Err.error ≡ TooManyHeaders = same_true the_type (search rules) _ _ (sym c.eq.ensures ∙ c.if-eq.true) in
    trailer_exceeds c.args.bytes.now c.first_lines-front.result.now is (c.parse_headers.ensures.too_many (c.in-Err.is ∙ ap Err same))

pub returns-in-Err-2-clause-fault : goal.returns-in-Err-2-clause-fault
returns-in-Err-2-clause-fault c =
    let is = c.first_lines-front.ensures ∙ ap (λ v. first_lines v 65) c.window.ensures in
    let front = c.first_lines-front.result.now in
    let other : c.in-Err.error ≢ TooManyHeaders = λ same. let told = rw same at c.eq.ensures in false≢true (sym c.if-eq.false ∙ told) in
    let P : Error → Type 0 = λ e. e ≢ TooManyHeaders → NeverHasSection front in
    trailer_never c.args.bytes.now front is (on_err P c.in-Err.is c.parse_headers.ensures.invalid other)
