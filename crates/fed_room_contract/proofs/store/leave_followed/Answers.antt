use Rattle.std.proofs.Common.{if◌then◌else◌, filter, not, sym, ap, ◌∙◌, rules}
use Rattle.std.proofs.lemmas.Fn.{filter_same}
use Rattle.fed_room_contract.specs.Room.{names}
use Rattle.fed_room_contract.proofs.store.leave_followed.Goals as goal

pub returns-then-is_accepted-clause-items : goal.returns-then-is_accepted-clause-items
returns-then-is_accepted-clause-items c =
    filter_same _ _ _ (λ x b f' k. search rules) _ _ c.retain.ensures.filtered
    ∙ ap (λ b. if b then filter (λ id. not (names c.args.event.now id)) c.args.extremities.now.items else c.args.extremities.now.items) (sym (sym c.is_accepted.ensures ∙ c.if-is_accepted.true))
