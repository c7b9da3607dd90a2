use Rattle.std.proofs.Common.{ℕ, List, Option, MatchOption, sym, subst}
use Rattle.fed_http.specs.declared.x_matrix.x_matrix_ref.XMatrixRef.{XMatrixRef}
use Rattle.fed_http.specs.XMatrix.{XMatrixValue, IsXMatrix}
use Rattle.fed_http.specs.XMatrixParts.{said_by}
use Rattle.fed_http.proofs.Headers.{without_scheme, listed, says_so, empty_slot, signature_slot, header_of}
use Rattle.fed_http.proofs.x_matrix.x_matrix_ref.XMatrixRef.of.Goals as goal

abbrev IsAnswer : List ℕ → Option XMatrixRef → Type 0
IsAnswer text r = MatchOption r ((h : XMatrixValue) → IsXMatrix text h → ⊥) (λ said. IsXMatrix text (said_by said))

pub returns-in_err-list : goal.returns-in_err-list
returns-in_err-list c = subst (IsAnswer c.args.text.now) (sym c.from_residual.ensures) (without_scheme c.args.text.now c.in_err-list.ensures.none)

pub returns-in_err-found : goal.returns-in_err-found
returns-in_err-found c =
    let text = c.args.text.now in
    let s = c.in_ok-list.ensures.sound in
    subst (IsAnswer text) (sym c.from_residual-in_err-found.ensures) (λ h is. let l = listed text c.in_ok-list.list.now h s.0 s.1 is in c.in_err-found.ensures.none l.parameters h l.are l.says)

pub returns-in_err-origin : goal.returns-in_err-origin
returns-in_err-origin c =
    let text = c.args.text.now in
    let s = c.in_ok-list.ensures.sound in
    let (ps, are, holds) = c.in_ok-found.ensures.some in
    subst (IsAnswer text) (sym c.from_residual-in_err-origin.ensures) (λ h is. empty_slot c.in_ok-found.found.origin _ h.origin holds.origin c.in_err-origin.was (says_so ps text c.in_ok-list.list.now h s.0 s.1 are is).origin)

pub returns-in_err-key : goal.returns-in_err-key
returns-in_err-key c =
    let text = c.args.text.now in
    let s = c.in_ok-list.ensures.sound in
    let (ps, are, holds) = c.in_ok-found.ensures.some in
    subst (IsAnswer text) (sym c.from_residual-in_err-key.ensures) (λ h is. empty_slot c.in_ok-found.found.key _ h.key holds.key c.in_err-key.was (says_so ps text c.in_ok-list.list.now h s.0 s.1 are is).key)

pub returns-in_err-found-2 : goal.returns-in_err-found-2
returns-in_err-found-2 c =
    let text = c.args.text.now in
    let s = c.in_ok-list.ensures.sound in
    let (ps, are, holds) = c.in_ok-found.ensures.some in
    subst (IsAnswer text) (sym c.from_residual-in_err-found-2.ensures) (λ h is. empty_slot c.in_ok-found.found.signature _ _ holds.signature c.in_err-found-2.was (says_so ps text c.in_ok-list.list.now h s.0 s.1 are is).signature.1)

pub returns-in_err-signature : goal.returns-in_err-signature
returns-in_err-signature c =
    let text = c.args.text.now in
    let s = c.in_ok-list.ensures.sound in
    let (ps, are, holds) = c.in_ok-found.ensures.some in
    subst (IsAnswer text) (sym c.from_residual-in_err-signature.ensures)
    (λ h is. c.in_err-signature.ensures h.signature (signature_slot c.in_ok-found.found.signature c.in_ok-found-2.field-0 _ h holds.signature c.in_ok-found-2.was (says_so ps text c.in_ok-list.list.now h s.0 s.1 are is).signature))

pub returns : goal.returns
returns c =
    let text = c.args.text.now in
    let s = c.in_ok-list.ensures.sound in
    let (ps, are, holds) = c.in_ok-found.ensures.some in
    header_of ps text c.in_ok-list.list.now c.in_ok-found.found c.in_ok-origin.origin c.in_ok-key.key c.in_ok-found-2.field-0 c.in_ok-signature.signature s.0 are holds
    c.in_ok-origin.was c.in_ok-key.was c.in_ok-found-2.was c.in_ok-signature.ensures
