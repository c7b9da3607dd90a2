use Rattle.std.proofs.Common.{◌≡◌, ◌&&◌, Some, length, refl, sym, ap, ◌∙◌, arith}
use Rattle.std.specs.List.{slice_get}
use Rattle.std.proofs.lemmas.Option.{slice_get_read}
use Rattle.fed_event.specs.Tests.{holds}
use Rattle.fed_room_contract.specs.declared.graph.Stored.{Stored}
use Rattle.fed_resolve.specs.ChainParts.{is_marked}
use Rattle.fed_resolve.specs.PowerOrder.{is_power_event, is_power_place}
use Rattle.fed_resolve.proofs.Sets.{marks-pushed}
use Rattle.fed_resolve.proofs.power.power_events.Goals.{then-set-place, else-set-place}
use Rattle.fed_resolve.proofs.power.power_events.Goals as goal

pub loop-place-preserved : goal.loop-place-preserved
loop-place-preserved c =
    let events = c.args.graph.now.stored in
    let place = c.loop-place.place in
    let list = c.events-stored-items.ensures.stored in
    let here : slice_get events place ≡ Some c.stored-item.result =
    ap (λ es. slice_get es place) (sym list) ∙ slice_get_read c.events-stored-items.result.now (length c.events-stored-items.result.now) place c.stored-item.result refl c.loop-place-test.true c.stored-item.is in
    let mark : c.if-set-place.push ≡ (is_marked c.args.set.now place && is_power_place events place) =
    elim c.if-set-place.branch [
      | then-set-place w ↦ w.push-is ∙ w.is_power_event.ensures ∙ ap is_power_event w.event.ensures.event ∙ ap (holds (λ (stored : Stored). is_power_event stored.event.event)) (sym here) ∙ ap (λ b. b && is_power_place events place) (sym w.if-set-place.true)
      | else-set-place w ↦ w.push-is ∙ w.if-set-place.false ∙ ap (λ b. b && is_power_place events place) (sym w.if-set-place.false)
    ] in
    record {
      long = omega (arith, c.in_ok-push.ensures.len, c.loop-place.invariant.long);
      each = marks-pushed c.loop-place.marks.items c.push.new.self.items c.if-set-place.push place (λ q. is_marked c.args.set.now q && is_power_place events q) c.loop-place.invariant.long c.loop-place.invariant.each mark c.in_ok-push.ensures.items;
    }
