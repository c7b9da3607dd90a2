use Rattle.std.proofs.Common.{◌<◌, All, length, subst, sym, ap, ◌∙◌}
use Rattle.std.proofs.lemmas.Result.{IfOk-weaker}
use Rattle.fed_resolve.specs.Checks.{checked}
use Rattle.fed_resolve.specs.PowerOrder.{power_order}
use Rattle.fed_resolve.proofs.resolution.check_by_power.Goals as goal

pub power_order_by-requires : goal.power_order_by-requires
power_order_by-requires c =
    subst (All (λ place. place < length c.args.graph.now.stored)) (sym c.deref.ensures.value)
    (subst (λ n. All (λ place. place < n) c.in_ok-places.places.items) c.requires c.in_ok-places.ensures.within)

pub returns : goal.returns
returns c =
    let events = c.args.graph.now.stored in
    IfOk-weaker c.checked.result _ _
    (λ after done test are. done ∙ ap (checked events c.args.state) (c.deref-2.ensures.value ∙ c.in_ok-places-2.ensures.places ∙ ap (power_order events) (c.deref.ensures.value ∙ c.in_ok-places.ensures.members events test are)))
    c.checked.ensures
