use Rattle.std.proofs.Common.{◌∙◌, ap}
use Rattle.std.specs.Prelude.{Err}
use Rattle.std.proofs.lemmas.Result.{err_from_is_err_and}
use Rattle.fed_http.specs.FoundParts.{IsSomeFoundAt}
use Rattle.fed_http.specs.Waiting.{IsWaiting}
use Rattle.fed_http.proofs.Lines.{on_some, on_none}
use Rattle.fed_http.proofs.Verdicts.{one_fault, fault_never_waits}
use Rattle.fed_http.proofs.Settled.{fault_never_found}
use Rattle.fed_http.proofs.laws.plain.read_message.Goals as goal

pub returns-in_err-found-clause-told : goal.returns-in_err-found-clause-told
returns-in_err-found-clause-told c fault other is =
    let p = err_from_is_err_and c.from_residual.result c.from_residual.ensures.1 in
    let found = c.in_err-found.ensures.fault in
    p.1 ∙ ap Err (p.2 ∙ one_fault c.args.kind c.args.bytes.now c.in_err-found.field-0.0 fault found.0 other found.1 is)

pub returns-in_default-clause-told : goal.returns-in_default-clause-told
returns-in_default-clause-told c fault other is =
    absurd (fault_never_waits c.args.kind c.args.bytes.now fault other is (on_none (IsWaiting c.args.kind c.args.bytes.now) c.in_default.is c.in_ok-found.ensures.waiting))

pub returns-in_err-message-clause-told : goal.returns-in_err-message-clause-told
returns-in_err-message-clause-told c fault other is =
    let headers = c.find_message.new.fields in
    absurd (fault_never_found c.args.kind c.args.bytes.now headers c.in-Some.found fault other is (on_some (IsSomeFoundAt c.args.kind c.args.bytes.now headers) c.in-Some.is c.in_ok-found.ensures.found))

pub returns-clause-told : goal.returns-clause-told
returns-clause-told c fault other is =
    let headers = c.find_message.new.fields in
    absurd (fault_never_found c.args.kind c.args.bytes.now headers c.in-Some.found fault other is (on_some (IsSomeFoundAt c.args.kind c.args.bytes.now headers) c.in-Some.is c.in_ok-found.ensures.found))
