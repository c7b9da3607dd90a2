use Rattle.std.proofs.Common.{◌≡◌, ◌≢◌, ◌∙◌, codes, true, false, string_bytes, option_map, inl, sym, ap, subst}
use Rattle.fed_inbox.specs.SendPath.{txn_of}
use Rattle.fed_inbox.specs.WholeRequest.{IsSending, is_for, no_such_path, other_method, other_destination, heading}
use Rattle.fed_inbox.proofs.Incomings.{header_fault, equal_texts, other_texts, passed_fault}
use Rattle.fed_inbox.proofs.incoming.Incoming.of.Goals as goal

pub returns-in_default-clause-fault : goal.returns-in_default-clause-fault
returns-in_default-clause-fault c =
    inl (no_such_path (ap txn_of (sym c.target.ensures) ∙ sym c.in_ok-txn.ensures.txn ∙ ap (option_map string_bytes) c.in_default.is))

pub returns-then-ne-clause-fault : goal.returns-then-ne-clause-fault
returns-then-ne-clause-fault c =
    let other : c.args.request.now.method ≢ codes "PUT" = subst (λ t. t ≢ codes "PUT") c.method.ensures (other_texts c.method.result.now (codes "PUT") (sym c.ne.ensures ∙ c.if-ne.true)) in
    inl (other_method (string_bytes c.in-Some.txn) (ap txn_of (sym c.target.ensures) ∙ sym c.in_ok-txn.ensures.txn ∙ ap (option_map string_bytes) c.in-Some.is) other)

pub returns-in_err-header-clause-fault : goal.returns-in_err-header-clause-fault
returns-in_err-header-clause-fault c =
    let put : c.args.request.now.method ≡ codes "PUT" = sym c.method.ensures ∙ equal_texts c.method.result.now (codes "PUT") (sym c.ne.ensures ∙ c.if-ne.false) in
    let sends : IsSending c.args.request.now (string_bytes c.in-Some.txn) = (ap txn_of (sym c.target.ensures) ∙ sym c.in_ok-txn.ensures.txn ∙ ap (option_map string_bytes) c.in-Some.is, put) in
    passed_fault c.args.own.now c.args.request.now c.in_err-header.field-0.0 c.from_residual-in_err-header.result c.from_residual-in_err-header.ensures.1
    (header_fault c.args.own.now c.args.request.now (string_bytes c.in-Some.txn) c.in_err-header.field-0.0 sends c.in_err-header.ensures.fault)

pub returns-then-not-is_for-clause-fault : goal.returns-then-not-is_for-clause-fault
returns-then-not-is_for-clause-fault c =
    let put : c.args.request.now.method ≡ codes "PUT" = sym c.method.ensures ∙ equal_texts c.method.result.now (codes "PUT") (sym c.ne.ensures ∙ c.if-ne.false) in
    let sends : IsSending c.args.request.now (string_bytes c.in-Some.txn) = (ap txn_of (sym c.target.ensures) ∙ sym c.in_ok-txn.ensures.txn ∙ ap (option_map string_bytes) c.in-Some.is, put) in
    let other : is_for c.args.own.now c.in_ok-header.header.destination ≡ false = sym c.is_for.ensures ∙ c.if-not-is_for.true in
    inl (other_destination (string_bytes c.in-Some.txn) c.in_ok-header.header sends c.in_ok-header.ensures.ok other)

pub returns-clause-ok : goal.returns-clause-ok
returns-clause-ok c =
    let put : c.args.request.now.method ≡ codes "PUT" = sym c.method.ensures ∙ equal_texts c.method.result.now (codes "PUT") (sym c.ne.ensures ∙ c.if-ne.false) in
    let sends : IsSending c.args.request.now (string_bytes c.in-Some.txn) = (ap txn_of (sym c.target.ensures) ∙ sym c.in_ok-txn.ensures.txn ∙ ap (option_map string_bytes) c.in-Some.is, put) in
    let own : is_for c.args.own.now c.in_ok-header.header.destination ≡ true = sym c.is_for.ensures ∙ c.if-not-is_for.false in
    heading (string_bytes c.in-Some.txn) c.in_ok-header.header sends c.in_ok-header.ensures.ok own
