use Rattle.std.proofs.Common.{arith, ◌+◌, ◌∙◌, set, min, Some, refl, sym, ap, subst}
use Rattle.fed_journal.specs.declared.parcel.Parcel.{Parcel}
use Rattle.fed_wires.specs.SendEnd.{Sender}
use Rattle.fed_hub_state.specs.Spreading.{AreSent}
use Rattle.fed_hub_state.proofs.Spreads.{standing}
use Rattle.fed_hub_state.proofs.WireRooms.{credited_sent}
use Rattle.fed_hub_state.proofs.sending_journal.SendingJournal.give.Goals as goal

pub invariant_of-self : goal.invariant_of-self
invariant_of-self g c =
    let ends = c.self.inside.ends.items in
    let place = c.place.result in
    let end = c.index_mut.result.now in
    let here = standing ends place place end refl (omega (arith, c.place.ensures, c.requires, c.self.invariant.0.count)) ∙ ap Some (sym c.index_mut.ensures.value) in (
      subst (λ (e : Sender Parcel). AreSent g.N.Naming.wires c.self.inside.journal.entries (set ends place e)) (sym c.give.ensures.given)
          (credited_sent g.N.Naming.wires c.self.inside.journal.entries ends place (min (end.room + 1) 18446744073709551615) end c.self.invariant.0 here),
      c.self.invariant.1,
      c.self.invariant.2,
      c.self.invariant.3,
      c.self.invariant.4,
    )
