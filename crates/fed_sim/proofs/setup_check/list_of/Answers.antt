use Rattle.std.proofs.Common.{rules, get_or, sym, ap, ◌∙◌, subst}
use Rattle.std.specs.List.Sorted.{IsPermutation}
use Rattle.std.proofs.lemmas.List.{take_all}
use Rattle.fed_sim.proofs.Built.{pushed}
use Rattle.fed_sim.proofs.setup_check.list_of.Goals as goal

pub loop-name-init : goal.loop-name-init
loop-name-init c = c.in_ok-copies.ensures.items

pub loop-name-preserved : goal.loop-name-preserved
loop-name-preserved c =
    pushed c.loop-name.copies.items c.push.new.self.items c.args.names.now c.loop-name.name-index c.in_ok-copy.field-0 c.loop-name.invariant c.in_ok-push.ensures.items c.loop-name-test.true
    (c.in_ok-copy.ensures ∙ c.name-item.is ∙ ap (get_or c.args.names.now c.loop-name.name-index) (sym c.in_ok-copy.ensures))

pub returns-clause-names : goal.returns-clause-names
returns-clause-names c =
    let all = c.loop-name.invariant ∙ take_all c.loop-name.name-index c.args.names.now c.loop-name-test.false in
    subst (λ ns. IsPermutation ns c.unwrap.result) all (search rules)
