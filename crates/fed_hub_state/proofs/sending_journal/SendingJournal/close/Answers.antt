use Rattle.std.proofs.Common.{arith, ◌≡◌, ◌∷◌, ◌++◌, [], ℕ, true, List, Some, Ok, Err, length, set, get_or, refl, sym, ap, ◌∙◌, subst}
use Rattle.std.specs.List.{slice_get}
use Rattle.std.specs.Vec.{with_items}
use Rattle.std.proofs.lemmas.List.{with_items_is}
use Rattle.fed_journal.specs.declared.entry.Entry.{Entry}
use Rattle.fed_journal.specs.declared.entry.Entry.TheVariants.{Close}
use Rattle.fed_journal.specs.declared.parcel.Parcel.{Parcel}
use Rattle.fed_journal.specs.Journal.{is_closed, placed, next_place, events_of, edus_of}
use Rattle.fed_journal.proofs.Entries.{next_number}
use Rattle.fed_wires.specs.SendEnd.{Sender}
use Rattle.fed_hub_state.specs.declared.sending_journal.CloseFault.TheVariants.{Full}
use Rattle.fed_hub_state.specs.Closing.{Closes, before, full, now}
use Rattle.fed_hub_state.specs.SendingJournal.{SendingState}
use Rattle.fed_hub_state.specs.Spreading.{AreSent}
use Rattle.fed_hub_state.proofs.Spreads.{none_placed, open_closes, count_placed, standing}
use Rattle.fed_hub_state.specs.WireRoom.{HaveTakenIn}
use Rattle.fed_hub_state.proofs.WireRooms.{taken_sent, full_named}
use Rattle.fed_hub_state.proofs.Closed.{closed, same_events, same_edus, stays_closed, no_room_told, not_full}
use Rattle.fed_hub_state.proofs.sending_journal.SendingJournal.close.Goals as goal

pub returns-in_default-clause-closed : goal.returns-in_default-clause-closed
returns-in_default-clause-closed g c =
    before (ap (λ (s : SendingState). is_closed s.entries c.args.dest) (sym c.self.view_is) ∙ none_placed c.self.inside.journal.entries c.args.dest (sym c.place.ensures ∙ c.in_default.is))

pub returns-in_err-make_room-clause-closed : goal.returns-in_err-make_room-clause-closed
returns-in_err-make_room-clause-closed g c =
    let old : SendingState = record { entries = c.self.inside.journal.entries; is_shut = c.self.inside.is_shut } in
    let running = open_closes old.entries c.args.dest c.in-Some.place (sym c.place.ensures ∙ c.in-Some.is) in
    subst (λ (y : SendingState × SendingState). Closes c.args.dest y.0 c.from_residual.result y.1)
    (λ i. (c.self.view_is i, record { entries = sym c.in_err-make_room.ensures.entries i; is_shut = c.self.inside.is_shut }))
    (no_room_told c.args.dest old c.in_err-make_room.field-0.0 c.from_residual.result running c.in_err-make_room.ensures.refused c.from_residual.ensures.0 c.from_residual.ensures.1)

pub returns-in_err-make_room-clause-full : goal.returns-in_err-make_room-clause-full
returns-in_err-make_room-clause-full g c = not_full g.N.Naming.wires c.in_err-make_room.field-0.0 c.from_residual.result c.from_residual.ensures.1

pub returns-in-Some-full_at-clause-closed : goal.returns-in-Some-full_at-clause-closed
returns-in-Some-full_at-clause-closed g c =
    let old : SendingState = record { entries = c.self.inside.journal.entries; is_shut = c.self.inside.is_shut } in
    let running = open_closes old.entries c.args.dest c.in-Some.place (sym c.place.ensures ∙ c.in-Some.is) in
    subst (λ (y : SendingState × SendingState). Closes c.args.dest y.0 (Err (Full c.in-Some-full_at.full)) y.1)
    (λ i. (c.self.view_is i, record { entries = sym c.in_ok-make_room.ensures.entries i; is_shut = c.self.inside.is_shut }))
    (full c.in-Some-full_at.full running c.in_ok-make_room.ensures.fits c.in-Some-full_at.ensures.full.0)

pub invariant_of-self-in-Some-full_at : goal.invariant_of-self-in-Some-full_at
invariant_of-self-in-Some-full_at g c =
    let new = c.full_at.new.ends in
    let items = with_items_is c.self.inside.ends new (omega (arith, c.full_at.auto.ends, ap length c.deref_mut.ensures.value, c.self.inside.ends.ok.0)) in
    let taken = subst (λ (es : List (Sender Parcel)). HaveTakenIn es new) c.deref_mut.ensures.value c.full_at.ensures.same in
    let same = c.in_ok-make_room.ensures.entries in (
      subst (λ (y : List Entry × List (Sender Parcel)). AreSent g.N.Naming.wires y.0 y.1) (λ i. (sym same i, sym items i))
          (taken_sent g.N.Naming.wires c.self.inside.journal.entries c.self.inside.ends.items new c.self.invariant.0 taken),
      c.self.invariant.1 ∙ ap (λ (es : List Entry). length (events_of es)) (sym same),
      c.self.invariant.2 ∙ ap (λ (es : List Entry). length (edus_of es)) (sym same),
      (λ is d within other. ap (λ (es : List Entry). is_closed es d) same ∙ c.self.invariant.3 is d within other),
      c.self.invariant.4,
    )

pub returns-in-Some-full_at-clause-full : goal.returns-in-Some-full_at-clause-full
returns-in-Some-full_at-clause-full g c =
    let new = c.full_at.new.ends in
    let taken = subst (λ (es : List (Sender Parcel)). HaveTakenIn es new) c.deref_mut.ensures.value c.full_at.ensures.same in
    full_named g.N.Naming.wires c.self.inside.journal.entries c.self.inside.ends.items new c.in-Some-full_at.full c.self.invariant.0 taken c.in-Some-full_at.ensures.full.1

pub close_open-requires-clause-credit : goal.close_open-requires-clause-credit
close_open-requires-clause-credit g c =
    let v = with_items c.self.inside.ends c.full_at.new.ends in
    let items = with_items_is c.self.inside.ends c.full_at.new.ends (omega (arith, c.full_at.auto.ends, ap length c.deref_mut.ensures.value, c.self.inside.ends.ok.0)) in
    let are = subst (AreSent g.N.Naming.wires c.self.inside.journal.entries) (sym items) (taken_sent g.N.Naming.wires c.self.inside.journal.entries c.self.inside.ends.items c.full_at.new.ends c.self.invariant.0 (subst (λ (es : List (Sender Parcel)). HaveTakenIn es c.full_at.new.ends) c.deref_mut.ensures.value c.full_at.ensures.same)) in
    let here = standing v.items c.place-2.result c.args.dest c.index_mut-end.result.now c.place-2.ensures.place (omega (arith, c.requires, are.count)) ∙ ap Some (sym c.index_mut-end.ensures.value) in
    c.in_default-full_at.ensures.full c.args.dest c.index_mut-end.result.now refl (ap (λ (es : List (Sender Parcel)). slice_get es c.args.dest) (sym items) ∙ here)

pub close_open-requires-clause-sent : goal.close_open-requires-clause-sent
close_open-requires-clause-sent g c =
    let v = with_items c.self.inside.ends c.full_at.new.ends in
    let items = with_items_is c.self.inside.ends c.full_at.new.ends (omega (arith, c.full_at.auto.ends, ap length c.deref_mut.ensures.value, c.self.inside.ends.ok.0)) in
    let are = subst (AreSent g.N.Naming.wires c.self.inside.journal.entries) (sym items) (taken_sent g.N.Naming.wires c.self.inside.journal.entries c.self.inside.ends.items c.full_at.new.ends c.self.invariant.0 (subst (λ (es : List (Sender Parcel)). HaveTakenIn es c.full_at.new.ends) c.deref_mut.ensures.value c.full_at.ensures.same)) in
    let entries = c.self.inside.journal.entries in
    let next = sym c.place.ensures ∙ c.in-Some.is in
    let here = standing v.items c.place-2.result c.args.dest c.index_mut-end.result.now c.place-2.ensures.place (omega (arith, c.requires, are.count)) in
    ap (λ (e : Sender Parcel). length e.sent) c.index_mut-end.ensures.value
    ∙ ap length (are.each c.args.dest (get_or v.items c.place-2.result c.index_mut-end.result.now) here).sent
    ∙ count_placed entries c.args.dest
    ∙ ap (placed entries) (sym (next_number entries c.args.dest c.in-Some.place next).0)
    ∙ ap (λ (es : List Entry). placed es c.in-Some.place.dest) (sym c.in_ok-make_room.ensures.entries)

pub invariant_of-self-2 : goal.invariant_of-self-2
invariant_of-self-2 g c =
    let v = with_items c.self.inside.ends c.full_at.new.ends in
    let items = with_items_is c.self.inside.ends c.full_at.new.ends (omega (arith, c.full_at.auto.ends, ap length c.deref_mut.ensures.value, c.self.inside.ends.ok.0)) in
    let are = subst (AreSent g.N.Naming.wires c.self.inside.journal.entries) (sym items) (taken_sent g.N.Naming.wires c.self.inside.journal.entries c.self.inside.ends.items c.full_at.new.ends c.self.invariant.0 (subst (λ (es : List (Sender Parcel)). HaveTakenIn es c.full_at.new.ends) c.deref_mut.ensures.value c.full_at.ensures.same)) in
    let j = c.make_room.new.journal in
    let ends = v.items in
    let new = c.close_open.new.end in
    let d = c.args.dest in
    let same = c.in_ok-make_room.ensures.entries in
    let next : next_place j.entries d ≡ Some c.in-Some.place = ap (λ es. next_place es d) same ∙ sym c.place.ensures ∙ c.in-Some.is in
    let here = standing ends c.place-2.result d c.index_mut-end.result.now c.place-2.ensures.place (omega (arith, c.requires, are.count)) ∙ ap Some (sym c.index_mut-end.ensures.value) in
    let shut = closed g.N.Naming.wires j ends (subst (λ (es : List Entry). AreSent g.N.Naming.wires es ends) (sym same) are) d c.in-Some.place c.index_mut-end.result.now next here c.close_open.new.journal new c.close_open.ensures in
    let entries : c.close_open.new.journal.entries ≡ c.self.inside.journal.entries ++ Close d shut.0 ∷ [] = shut.1.0 ∙ ap (λ es. es ++ Close d shut.0 ∷ []) same in
    let old = c.self.inside.journal.entries in (
      subst (λ (y : List Entry × ℕ). AreSent g.N.Naming.wires y.0 (set ends y.1 new)) (λ i. (sym shut.1.0 i, sym c.place-2.ensures.place i)) shut.1.1,
      c.self.invariant.1 ∙ ap length (sym (same_events old d shut.0)) ∙ ap (λ es. length (events_of es)) (sym entries),
      c.self.invariant.2 ∙ ap length (sym (same_edus old d shut.0)) ∙ ap (λ es. length (edus_of es)) (sym entries),
      (λ is e within other. ap (λ es. is_closed es e) entries ∙ stays_closed old (Close d shut.0 ∷ []) e (c.self.invariant.3 is e within other)),
      c.self.invariant.4,
    )

pub returns-clause-closed : goal.returns-clause-closed
returns-clause-closed g c =
    let v = with_items c.self.inside.ends c.full_at.new.ends in
    let items = with_items_is c.self.inside.ends c.full_at.new.ends (omega (arith, c.full_at.auto.ends, ap length c.deref_mut.ensures.value, c.self.inside.ends.ok.0)) in
    let are = subst (AreSent g.N.Naming.wires c.self.inside.journal.entries) (sym items) (taken_sent g.N.Naming.wires c.self.inside.journal.entries c.self.inside.ends.items c.full_at.new.ends c.self.invariant.0 (subst (λ (es : List (Sender Parcel)). HaveTakenIn es c.full_at.new.ends) c.deref_mut.ensures.value c.full_at.ensures.same)) in
    let j = c.make_room.new.journal in
    let ends = v.items in
    let new = c.close_open.new.end in
    let d = c.args.dest in
    let same = c.in_ok-make_room.ensures.entries in
    let next : next_place j.entries d ≡ Some c.in-Some.place = ap (λ es. next_place es d) same ∙ sym c.place.ensures ∙ c.in-Some.is in
    let here = standing ends c.place-2.result d c.index_mut-end.result.now c.place-2.ensures.place (omega (arith, c.requires, are.count)) ∙ ap Some (sym c.index_mut-end.ensures.value) in
    let shut = closed g.N.Naming.wires j ends (subst (λ (es : List Entry). AreSent g.N.Naming.wires es ends) (sym same) are) d c.in-Some.place c.index_mut-end.result.now next here c.close_open.new.journal new c.close_open.ensures in
    let entries : c.close_open.new.journal.entries ≡ c.self.inside.journal.entries ++ Close d shut.0 ∷ [] = shut.1.0 ∙ ap (λ es. es ++ Close d shut.0 ∷ []) same in
    let old : SendingState = record { entries = c.self.inside.journal.entries; is_shut = c.self.inside.is_shut } in
    let running = open_closes old.entries d c.in-Some.place (sym c.place.ensures ∙ c.in-Some.is) in
    subst (λ (y : SendingState × List Entry). Closes d y.0 (Ok true) (record { entries = y.1; is_shut = c.self.inside.is_shut })) (λ i. (c.self.view_is i, sym entries i))
    (now shut.0 running c.in_ok-make_room.ensures.fits)
