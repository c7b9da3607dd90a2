use Rattle.std.proofs.Common.{◌≡◌, refl, sym, ap, ◌∙◌, subst}
use Rattle.fed_hub_kept.specs.OfJournal.{IsOfJournal, IsOfItsPlace}
use Rattle.fed_hub_kept.proofs.InPlaces.{of_one_more, of_all}
use Rattle.fed_hub_kept.proofs.outboxes.are_of_journal.Goals as goal

pub loop-place-preserved : goal.loop-place-preserved
loop-place-preserved g c =
    let entries = c.args.entries.now in
    let outboxes = c.args.outboxes.now in
    let place = c.loop-place.place in
    let outbox = c.index-outboxes-place.result in
    let dest : outbox.dest ≡ place = ap (λ o. o.dest) (sym c.outbox-outbox.ensures) ∙ sym c.dest.ensures ∙ sym c.place.ensures.place ∙ c.if-place.false in
    let accepted : IsOfJournal entries outbox = subst (IsOfJournal entries) c.outbox-outbox.ensures (c.is_of_journal.ensures.0 c.if-not-is_of_journal.false) in
    of_one_more (IsOfItsPlace entries) outboxes place outbox c.loop-place-test.true c.index-outboxes-place.is c.loop-place.invariant (record { dest = dest; accepted = accepted })

pub returns : goal.returns
returns g c = (
  λ _. of_all (IsOfItsPlace c.args.entries.now) c.args.outboxes.now c.loop-place.place c.loop-place-test.false c.loop-place.invariant,
  λ _. refl,
)
