use Rattle.std.proofs.Common.{arith, ◌≡◌, true, ℕ, List, Ok, Err, length, sym, ap, ◌∙◌, subst}
use Rattle.std.specs.Vec.{with_items}
use Rattle.std.proofs.lemmas.List.{with_items_is}
use Rattle.fed_journal.specs.declared.entry.Entry.{Entry}
use Rattle.fed_journal.specs.declared.parcel.Parcel.{Parcel}
use Rattle.fed_journal.specs.Journal.{events_of, edus_of}
use Rattle.fed_wires.specs.SendEnd.{Sender}
use Rattle.fed_hub_state.specs.declared.sending_journal.CloseFault.TheVariants.{Full}
use Rattle.fed_hub_state.specs.SendingJournal.{SendingState}
use Rattle.fed_hub_state.specs.ShuttingDown.{ShutsDown, AreClosedInTurn, is_other_open, others_open, has_places}
use Rattle.fed_hub_state.specs.Spreading.{AreSent}
use Rattle.fed_hub_state.specs.WireRoom.{HaveRoom, HaveTakenIn}
use Rattle.fed_hub_state.proofs.WireRooms.{taken_sent, full_named}
use Rattle.fed_hub_state.proofs.Closed.{not_full}
use Rattle.fed_hub_state.proofs.Shuts.{events_stay, edus_stay, no_places_told}
use Rattle.fed_hub_state.proofs.sending_journal.SendingJournal.shut_down.Goals as goal

pub returns-then-self-clause-shut : goal.returns-then-self-clause-shut
returns-then-self-clause-shut g c = ShutsDown.before (ap (λ (s : SendingState). s.is_shut) (sym c.self.view_is) ∙ c.if-self.true)

pub returns-in_err-make_places-clause-shut : goal.returns-in_err-make_places-clause-shut
returns-in_err-make_places-clause-shut g c =
    let n = length g.N.Naming.wires in
    let own = g.N.Naming.own in
    let old : SendingState = record { entries = c.self.inside.journal.entries; is_shut = c.self.inside.is_shut } in
    let ends : c.len.result ≡ n = c.len.ensures ∙ c.self.inside.ends.ok.0 ∙ c.self.invariant.0.count in
    let count : c.others_open-open.result ≡ length (others_open n own old.entries) = c.others_open-open.ensures ∙ (λ i. length (others_open (ends i) (c.requires i) old.entries)) in
    subst (λ (y : SendingState × SendingState). ShutsDown n own y.0 c.from_residual.result y.1)
    (λ i. (c.self.view_is i, record { entries = sym c.in_err-make_places.ensures.entries i; is_shut = c.self.inside.is_shut }))
    (no_places_told n own old c.others_open-open.result c.in_err-make_places.field-0.0 c.from_residual.result count c.if-self.false c.in_err-make_places.ensures.refused c.from_residual.ensures.0 c.from_residual.ensures.1)

pub close_others-requires-clause-room : goal.close_others-requires-clause-room
close_others-requires-clause-room g c =
    let n = length g.N.Naming.wires in
    let ends : c.len.result ≡ n = c.len.ensures ∙ c.self.inside.ends.ok.0 ∙ c.self.invariant.0.count in
    let count = c.others_open-open.ensures ∙ (λ i. length (others_open (ends i) c.args.own (sym c.in_ok-make_places.ensures.entries i))) in
    omega (arith, sym count, c.in_ok-make_places.ensures.room)

pub close_others-requires-clause-places : goal.close_others-requires-clause-places
close_others-requires-clause-places g c =
    let n = length g.N.Naming.wires in
    let ends : c.len.result ≡ n = c.len.ensures ∙ c.self.inside.ends.ok.0 ∙ c.self.invariant.0.count in
    let same = c.in_ok-make_places.ensures.entries in
    let count = c.others_open-open.ensures ∙ (λ i. length (others_open (ends i) c.args.own (sym same i))) in
    (λ i. has_places (same i) (sym count i)) ∙ c.in_ok-make_places.ensures.places

pub returns-in_err-make_places-clause-full : goal.returns-in_err-make_places-clause-full
returns-in_err-make_places-clause-full g c = not_full g.N.Naming.wires c.in_err-make_places.field-0.0 c.from_residual.result c.from_residual.ensures.1

pub returns-in-Some-clause-shut : goal.returns-in-Some-clause-shut
returns-in-Some-clause-shut g c =
    let n = length g.N.Naming.wires in
    let own = g.N.Naming.own in
    let d = c.in-Some.full.dest in
    let old : SendingState = record { entries = c.self.inside.journal.entries; is_shut = c.self.inside.is_shut } in
    let ends : c.len.result ≡ n = c.len.ensures ∙ c.self.inside.ends.ok.0 ∙ c.self.invariant.0.count in
    let count : c.others_open-open.result ≡ length (others_open n own old.entries) = c.others_open-open.ensures ∙ (λ i. length (others_open (ends i) (c.requires i) old.entries)) in
    let fits : has_places old.entries (length (others_open n own old.entries)) ≡ true = ap (has_places old.entries) (sym count) ∙ c.in_ok-make_places.ensures.places in
    let is : is_other_open own old.entries d ≡ true = (λ i. is_other_open (sym c.requires i) (sym c.in_ok-make_places.ensures.entries i) d) ∙ c.in-Some.ensures.full.0 in
    subst (λ (y : SendingState × SendingState). ShutsDown n own y.0 (Err (Full c.in-Some.full)) y.1)
    (λ i. (c.self.view_is i, record { entries = sym c.in_ok-make_places.ensures.entries i; is_shut = c.self.inside.is_shut }))
    (ShutsDown.full c.in-Some.full c.if-self.false fits is)

pub returns-in-Some-clause-full : goal.returns-in-Some-clause-full
returns-in-Some-clause-full g c =
    let new = c.full_other.new.ends in
    let taken = subst (λ (es : List (Sender Parcel)). HaveTakenIn es new) c.deref_mut.ensures.value c.full_other.ensures.same in
    full_named g.N.Naming.wires c.self.inside.journal.entries c.self.inside.ends.items new c.in-Some.full c.self.invariant.0 taken c.in-Some.ensures.full.1

pub close_others-requires-clause-sent : goal.close_others-requires-clause-sent
close_others-requires-clause-sent g c =
    let new = c.full_other.new.ends in
    let items = with_items_is c.self.inside.ends new (omega (arith, c.full_other.auto.ends, ap length c.deref_mut.ensures.value, c.self.inside.ends.ok.0)) in
    let taken = subst (λ (es : List (Sender Parcel)). HaveTakenIn es new) c.deref_mut.ensures.value c.full_other.ensures.same in
    subst (λ (y : List Entry × List (Sender Parcel)). AreSent g.N.Naming.wires y.0 y.1) (λ i. (sym c.in_ok-make_places.ensures.entries i, sym (c.deref_mut-2.ensures.value ∙ items) i))
    (taken_sent g.N.Naming.wires c.self.inside.journal.entries c.self.inside.ends.items new c.self.invariant.0 taken)

pub close_others-requires-clause-credits : goal.close_others-requires-clause-credits
close_others-requires-clause-credits g c =
    let items = with_items_is c.self.inside.ends c.full_other.new.ends (omega (arith, c.full_other.auto.ends, ap length c.deref_mut.ensures.value, c.self.inside.ends.ok.0)) in
    subst (HaveRoom (λ d. is_other_open c.args.own c.make_places.new.journal.entries d ≡ true)) (sym (c.deref_mut-2.ensures.value ∙ items)) c.in_default.ensures.full

pub invariant_of-self-2 : goal.invariant_of-self-2
invariant_of-self-2 g c =
    let v = with_items c.self.inside.ends c.full_other.new.ends in
    let items = with_items_is v c.close_others.new.ends (omega (arith, c.close_others.auto.ends, ap length c.deref_mut-2.ensures.value, v.ok.0)) in
    let same = c.in_ok-make_places.ensures.entries in
    let turn = c.close_others.ensures.turn in
    let before = c.make_places.new.journal.entries in
    let after = c.close_others.new.journal.entries in
    let dests = others_open (length g.N.Naming.wires) c.args.own before in (
      subst (AreSent g.N.Naming.wires after) (sym items) c.close_others.ensures.sent,
      c.self.invariant.1 ∙ ap (λ (es : List Entry). length (events_of es)) (sym same) ∙ ap length (sym (events_stay before dests after turn)),
      c.self.invariant.2 ∙ ap (λ (es : List Entry). length (edus_of es)) (sym same) ∙ ap length (sym (edus_stay before dests after turn)),
      (λ _ d within other. c.close_others.ensures.shut d within (λ e. other (e ∙ c.requires))),
      c.self.invariant.4,
    )

pub returns-clause-shut : goal.returns-clause-shut
returns-clause-shut g c =
    let n = length g.N.Naming.wires in
    let old : SendingState = record { entries = c.self.inside.journal.entries; is_shut = c.self.inside.is_shut } in
    let turn = subst (λ (y : List Entry × ℕ). AreClosedInTurn y.0 (others_open n y.1 y.0) c.close_others.new.journal.entries) (λ i. (c.in_ok-make_places.ensures.entries i, c.requires i)) c.close_others.ensures.turn in
    subst (λ (s : SendingState). ShutsDown n g.N.Naming.own s (Ok tt) (record { entries = c.close_others.new.journal.entries; is_shut = true })) c.self.view_is
    (ShutsDown.now c.close_others.new.journal.entries c.if-self.false turn)
