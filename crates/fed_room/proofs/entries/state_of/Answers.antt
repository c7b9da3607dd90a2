use Rattle.std.proofs.Common.{◌≡◌, List, map, sym, ap, ◌∙◌}
use Rattle.fed_room_contract.specs.declared.entry.Entry.{Entry}
use Rattle.fed_room_contract.specs.State.{with_entry}
use Rattle.fed_room_contract.specs.Entry.{seen}
use Rattle.fed_room.proofs.Laid.{laid, laid-all, laid-popped}
use Rattle.fed_room.proofs.entries.state_of.Goals as goal

pub loop-entry-init : goal.loop-entry-init
loop-entry-init c = ap (laid (map seen c.args.entries.items)) c.new-state.ensures ∙ laid-all (map seen c.args.entries.items)

pub loop-entry-preserved : goal.loop-entry-preserved
loop-entry-preserved c =
    let entry = c.in-Some.entry in
    let state = c.loop-entry.state in
    let left = c.pop.new.self.items in
    let grown : c.insert.new.self ≡ with_entry state entry.kind.now entry.state_key.now entry.id.now = c.in_ok-insert.ensures.ok ∙ ap (with_entry state entry.kind.now entry.state_key.now) c.in_ok-copy.ensures in
    ap (laid (map seen left)) grown ∙ sym (laid-popped seen left entry state)
    ∙ ap (λ (xs : List Entry). laid (map seen xs) state) (sym c.in-Some.ensures.items) ∙ c.loop-entry.invariant
