use Rattle.std.proofs.Common.{get_or, sym, ap, ◌∙◌}
use Rattle.std.proofs.lemmas.List.{take_all}
use Rattle.fed_sim.proofs.Built.{pushed}
use Rattle.fed_sim.proofs.running.all_keys.Goals as goal

pub loop-name-init : goal.loop-name-init
loop-name-init c = c.in_ok-keys.ensures.items

pub loop-name-preserved : goal.loop-name-preserved
loop-name-preserved c =
    let same = c.in_ok-keys_of.ensures ∙ c.as_str.ensures.text in
    pushed c.loop-name.keys.items c.push.new.self.items c.names-name-items.result.now c.loop-name.name-index c.in_ok-keys_of.field-0 c.loop-name.invariant c.in_ok-push.ensures.items c.loop-name-test.true
    (same ∙ c.name-item.is ∙ ap (get_or c.names-name-items.result.now c.loop-name.name-index) (sym same))

pub returns : goal.returns
returns c = c.loop-name.invariant ∙ take_all c.loop-name.name-index c.names-name-items.result.now c.loop-name-test.false ∙ c.names-name-items.ensures.names
