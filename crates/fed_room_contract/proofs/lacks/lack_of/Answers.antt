use Rattle.std.proofs.Common.{ℕ, Option, sym, ap, ◌∙◌}
use Rattle.std.specs.Option.{is_none}
use Rattle.fed_event.specs.Fields.{auth_events_of, prev_events_of}
use Rattle.fed_room_contract.specs.Graph.{named_by}
use Rattle.fed_room_contract.specs.LackParts.{lack_among}
use Rattle.fed_room_contract.proofs.Filled.{or}
use Rattle.fed_room_contract.proofs.LackLists.{lack_among-++, none_lacked}
use Rattle.fed_room_contract.proofs.lacks.lack_of.Goals as goal

pub returns-in-Some : goal.returns-in-Some
returns-in-Some c =
    let stored = c.args.graph.now.stored in
    let event = c.args.event.now in
    let here = sym c.in-Some.is ∙ c.lack_among.ensures ∙ ap (lack_among stored) c.prev_events.ensures in
    let lack = ap (λ (o : Option ℕ). or o (lack_among stored (auth_events_of event))) here ∙ sym (lack_among-++ stored (prev_events_of event) (auth_events_of event)) in
    record { lack = lack; ready = ap is_none lack ∙ none_lacked stored (named_by event) }

pub returns-in-None : goal.returns-in-None
returns-in-None c =
    let stored = c.args.graph.now.stored in
    let event = c.args.event.now in
    let here = sym c.in-None.is ∙ c.lack_among.ensures ∙ ap (lack_among stored) c.prev_events.ensures in
    let lack = c.lack_among-in-None.ensures ∙ ap (lack_among stored) c.auth_events.ensures
    ∙ ap (λ (o : Option ℕ). or o (lack_among stored (auth_events_of event))) here ∙ sym (lack_among-++ stored (prev_events_of event) (auth_events_of event)) in
    record { lack = lack; ready = ap is_none lack ∙ none_lacked stored (named_by event) }
