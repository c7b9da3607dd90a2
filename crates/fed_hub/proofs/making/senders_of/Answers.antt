use Rattle.std.proofs.Common.{arith, ◌==◌, ◌++◌, ◌∷◌, [], not, List, length, sym, ap, ◌∙◌, subst}
use Rattle.std.specs.List.{slice_get}
use Rattle.std.proofs.lemmas.List.{length-map}
use Rattle.fed_journal.specs.declared.parcel.Parcel.{Parcel}
use Rattle.fed_wires.specs.ReceiveEnd.{new_receiver}
use Rattle.fed_wires.specs.WireId.{WireId}
use Rattle.fed_hub.specs.Held.{Held, held_new}
use Rattle.fed_hub.proofs.Waiting.{AreWaiting, all_waiting, first_waiting, others_waiting, one_sender_more, no_sender_more}
use Rattle.fed_hub.proofs.making.senders_of.Goals as goal
use Rattle.fed_hub.proofs.making.senders_of.Goals.{then-eq, else-eq+in_ok-push}

pub loop-end-init : goal.loop-end-init
loop-end-init g c =
    let wires = g.N.Naming.wires in
    let all = c.into_iter-end-iterator.ensures.into_iter_gives.0 ∙ c.requires.ends in
    record {
      count = omega (arith, ap length all, length-map wires (λ (wire : WireId Parcel). new_receiver wire));
      made = c.in_ok-senders.ensures.items;
      left = subst (AreWaiting wires 0) (sym all) (all_waiting wires);
    }

pub new-requires-clause-wire : goal.new-requires-clause-wire
new-requires-clause-wire g c =
    let wires = g.N.Naming.wires in
    let left = subst (AreWaiting wires c.loop-end.place) c.in-Some.ensures.steps.0 c.loop-end.invariant.left in
    ap (slice_get wires) c.new-dest.ensures ∙ (first_waiting wires c.loop-end.place c.in-Some.«end» c.next.new.self.rest.items left).wire

pub new-requires-clause-new : goal.new-requires-clause-new
new-requires-clause-new g c =
    let wires = g.N.Naming.wires in
    let left = subst (AreWaiting wires c.loop-end.place) c.in-Some.ensures.steps.0 c.loop-end.invariant.left in
    (first_waiting wires c.loop-end.place c.in-Some.«end» c.next.new.self.rest.items left).new

pub loop-end-preserved : goal.loop-end-preserved
loop-end-preserved g c =
    let wires = g.N.Naming.wires in
    let place = c.loop-end.place in
    let own = c.args.own in
    let left = subst (AreWaiting wires place) c.in-Some.ensures.steps.0 c.loop-end.invariant.left in
    record {
      count = omega (arith, c.loop-end.invariant.count, ap length c.in-Some.ensures.steps.0);
      made = elim c.if-eq.branch [
        | then-eq w ↦ ap (λ s. s.items) w.senders-is ∙ c.loop-end.invariant.made ∙ sym (no_sender_more place own (ap (λ d. not (d == own)) (sym c.new-dest.ensures) ∙ ap not (sym w.if-eq.ensures)))
        | else-eq+in_ok-push w ↦ ap (λ s. s.items) w.senders-is ∙ w.in_ok-push.ensures.items
            ∙ ap (λ (h : Held). c.loop-end.senders.items ++ h ∷ []) (w.new.ensures ∙ ap held_new c.new-dest.ensures)
            ∙ ap (λ (hs : List Held). hs ++ held_new place ∷ []) c.loop-end.invariant.made
            ∙ sym (one_sender_more place own (ap (λ d. not (d == own)) (sym c.new-dest.ensures) ∙ ap not (sym w.if-eq.ensures)))
      ];
      left = others_waiting wires place c.in-Some.«end» c.next.new.self.rest.items left;
    }
