use Rattle.std.proofs.Common.{length, subst, sym, ap, ◌∙◌}
use Rattle.std.proofs.lemmas.Result.{IfOk-weaker}
use Rattle.fed_resolve.specs.Chain.{members}
use Rattle.fed_resolve.specs.Checks.{checked}
use Rattle.fed_resolve.specs.Marks.{AreMarks}
use Rattle.fed_resolve.specs.Conflict.{is_full_conflicted}
use Rattle.fed_resolve.specs.Mainline.{mainline_order}
use Rattle.fed_resolve.specs.PowerOrder.{power_order}
use Rattle.fed_resolve.specs.Resolution.{is_power, is_other, levels_in}
use Rattle.fed_resolve.proofs.resolution.check_set.Goals as goal

pub other_set-others-requires : goal.other_set-others-requires
other_set-others-requires c = c.requires ∙ sym c.in_ok-power.ensures.long ∙ ap length (sym c.deref-2.ensures.value)

pub check_by_power-requires : goal.check_by_power-requires
check_by_power-requires c = ap length c.deref-3.ensures.value ∙ c.in_ok-power.ensures.long

pub check_by_mainline-requires : goal.check_by_mainline-requires
check_by_mainline-requires c = ap length c.deref-4.ensures.value ∙ c.other_set-others.ensures.long ∙ ap length c.deref-2.ensures.value ∙ c.in_ok-power.ensures.long

pub returns : goal.returns
returns c =
    let events = c.args.graph.now.stored in
    IfOk-weaker c.check_by_mainline.result _ _
    (λ after done states start set.
    let power = c.in_ok-power.ensures.marks states (subst (AreMarks (length events) (is_full_conflicted events states)) (sym c.deref.ensures.value) set) in
    let others = c.other_set-others.ensures.marks events states set (subst (AreMarks (length events) (is_power events states)) (sym c.deref-2.ensures.value) power) in
    let first = c.in_ok-state.ensures (is_power events states) (subst (AreMarks (length events) (is_power events states)) (sym c.deref-3.ensures.value) power) in
    done (is_other events states) (subst (AreMarks (length events) (is_other events states)) (sym c.deref-4.ensures.value) others)
    ∙ ap (λ state. checked events state (mainline_order events (levels_in events state) (members events (is_other events states))))
    (first ∙ ap (λ state. checked events state (power_order events (members events (is_power events states)))) start))
    c.check_by_mainline.ensures
