use Rattle.std.proofs.Common.{◌≡◌, ◌∷◌, sym, ap, ◌∙◌, option_map}
use Rattle.fed_room_contract.specs.State.{entry_at}
use Rattle.fed_resolve.specs.Conflict.{unconflicted}
use Rattle.fed_resolve.proofs.Unconflicteds.{entry-nowhere, entry-none, entry-agreed, entry-disagreed}
use Rattle.fed_resolve.proofs.conflict.agreed.Goals as goal

pub returns-in_err-first : goal.returns-in_err-first
returns-in_err-first c = ap (option_map (λ id. id.now)) c.from_residual.ensures ∙ sym (entry-nowhere c.args.states.now c.in_err-first.ensures.cases (c.args.kind.now, c.args.state_key.now))

pub returns-in_err-id : goal.returns-in_err-id
returns-in_err-id c =
    let whole : c.args.states.now ≡ c.in_ok-first.first.now ∷ c.in_ok-first.others.now = c.in_ok-first.ensures.cases.0 in
    ap (option_map (λ id. id.now)) c.from_residual-in_err-id.ensures
    ∙ sym (ap (λ states. entry_at (unconflicted states) c.args.kind.now c.args.state_key.now) whole ∙ entry-none c.in_ok-first.first.now c.in_ok-first.others.now (c.args.kind.now, c.args.state_key.now) (sym c.in_err-id.ensures))

pub returns-then-all_have : goal.returns-then-all_have
returns-then-all_have c =
    let whole : c.args.states.now ≡ c.in_ok-first.first.now ∷ c.in_ok-first.others.now = c.in_ok-first.ensures.cases.0 in
    entry-agreed c.in_ok-first.first.now c.in_ok-first.others.now c.args.kind.now c.args.state_key.now c.in_ok-id.id.now (sym c.in_ok-id.ensures) (sym c.if-all_have.ensures)
    ∙ sym (ap (λ states. entry_at (unconflicted states) c.args.kind.now c.args.state_key.now) whole)

pub returns-else-all_have : goal.returns-else-all_have
returns-else-all_have c =
    let whole : c.args.states.now ≡ c.in_ok-first.first.now ∷ c.in_ok-first.others.now = c.in_ok-first.ensures.cases.0 in
    entry-disagreed c.in_ok-first.first.now c.in_ok-first.others.now c.args.kind.now c.args.state_key.now c.in_ok-id.id.now (sym c.in_ok-id.ensures) (sym c.if-all_have.ensures)
    ∙ sym (ap (λ states. entry_at (unconflicted states) c.args.kind.now c.args.state_key.now) whole)
