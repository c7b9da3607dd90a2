use Rattle.std.proofs.Common.{arith, ◌≡◌, ℕ, ◌+◌, ◌<◌, ◌∷◌, ◌++◌, [], Bool, true, not, List, true≢false, Ok, Err, length, filter, sym, ap, ◌∙◌, subst}
use Rattle.std.specs.List.Sorted.{IsStrictlyIncreasing}
use Rattle.std.proofs.lemmas.List.Kept.{IsStrictlyIncreasing-filter}
use Rattle.std.specs.List.{All}
use Rattle.std.specs.Vec.{with_items}
use Rattle.std.proofs.lemmas.List.{with_items_is, length-map}
use Rattle.fed_dest.specs.ServerSet.{is_among}
use Rattle.fed_journal.specs.declared.entry.Entry.{Entry}
use Rattle.fed_journal.specs.declared.parcel.Parcel.{Parcel}
use Rattle.fed_journal.specs.Journal.{JournalState, is_closed, events_of, edus_of}
use Rattle.fed_journal.specs.Offered.{entry_of, load_of}
use Rattle.fed_journal.specs.Offering.{open_among, has_place}
use Rattle.fed_hub_state.specs.declared.unplaced.Unplaced.{Unplaced}
use Rattle.fed_wires.specs.SendEnd.{Sender}
use Rattle.fed_hub_state.specs.declared.sending_journal.EnterFault.TheVariants.{Full}
use Rattle.fed_hub_state.specs.Entering.{Enters, shut_down, full}
use Rattle.fed_hub_state.specs.SendingJournal.{SendingState}
use Rattle.fed_hub_state.specs.Spreading.{AreSent, AreAll, dests_of}
use Rattle.fed_hub_state.specs.SpreadingParts.{IsUnderWay}
use Rattle.fed_hub_state.specs.WireRoom.{HaveRoom, HaveTakenIn}
use Rattle.fed_hub_state.proofs.WireRooms.{taken_sent, full_named}
use Rattle.fed_hub_state.specs.ClientToken.{event_count, edu_count}
use Rattle.fed_hub_state.proofs.Entered.{dests_kept, all_kept, all_filtered, then_sent, then_events, then_edus, then_told, no_room_told, not_full}
use Rattle.fed_hub_state.proofs.sending_journal.SendingJournal.enter.Goals as goal

pub returns-then-self-clause-entered : goal.returns-then-self-clause-entered
returns-then-self-clause-entered g c = shut_down (ap (λ (s : SendingState). s.is_shut) (sym c.self.view_is) ∙ c.if-self.true)

pub pass_all_on-requires-clause-within : goal.pass_all_on-requires-clause-within
pass_all_on-requires-clause-within g c =
    let is_open : ℕ → Bool = λ d. not (is_closed c.self.inside.journal.entries d) in
    let are = ap dests_of c.those_open-loads.ensures ∙ dests_kept is_open c.args.loads.items ∙ ap (filter is_open) c.requires.dests in
    subst (All (λ d. d < length g.N.Naming.wires)) (sym are) (all_filtered is_open (λ d. d < length g.N.Naming.wires) c.args.dests c.requires.within)

pub pass_all_on-requires-clause-rising : goal.pass_all_on-requires-clause-rising
pass_all_on-requires-clause-rising g c =
    let is_open : ℕ → Bool = λ d. not (is_closed c.self.inside.journal.entries d) in
    let are = ap dests_of c.those_open-loads.ensures ∙ dests_kept is_open c.args.loads.items ∙ ap (filter is_open) c.requires.dests in
    subst IsStrictlyIncreasing (sym are) (IsStrictlyIncreasing-filter is_open c.args.dests (subst IsStrictlyIncreasing c.dests.view_is c.dests.invariant))

pub pass_all_on-requires-clause-same : goal.pass_all_on-requires-clause-same
pass_all_on-requires-clause-same g c =
    let is_open : ℕ → Bool = λ d. not (is_closed c.self.inside.journal.entries d) in
    subst (AreAll (load_of c.args.offered)) (sym c.those_open-loads.ensures) (all_kept is_open (load_of c.args.offered) c.args.loads.items c.requires.same)

pub returns-in_err-make_room-clause-entered : goal.returns-in_err-make_room-clause-entered
returns-in_err-make_room-clause-entered g c =
    let is_open : ℕ → Bool = λ d. not (is_closed c.self.inside.journal.entries d) in
    let are = ap dests_of c.those_open-loads.ensures ∙ dests_kept is_open c.args.loads.items ∙ ap (filter is_open) c.requires.dests in
    let old : SendingState = record { entries = c.self.inside.journal.entries; is_shut = c.self.inside.is_shut } in
    let count : c.len.result ≡ length (open_among old.entries c.args.dests) = c.len.ensures ∙ c.those_open-loads.result.ok.0 ∙ sym (length-map c.those_open-loads.result.items (λ (u : Unplaced). u.dest)) ∙ ap length are in
    subst (λ (y : SendingState × SendingState). Enters c.args.offered c.args.dests y.0 c.args.client.now c.from_residual.result y.1 c.args.client.now)
    (λ i. (c.self.view_is i, record { entries = sym c.in_err-make_room.ensures.entries i; is_shut = c.self.inside.is_shut }))
    (no_room_told c.args.offered c.args.dests old c.args.client.now c.len.result c.in_err-make_room.field-0.0 c.from_residual.result count c.if-self.false c.in_err-make_room.ensures.refused c.from_residual.ensures.0 c.from_residual.ensures.1)

pub returns-in_err-make_room-clause-full : goal.returns-in_err-make_room-clause-full
returns-in_err-make_room-clause-full g c = not_full g.N.Naming.wires c.in_err-make_room.field-0.0 c.from_residual.result c.from_residual.ensures.1

pub full_among-requires : goal.full_among-requires
full_among-requires g c =
    let is_open : ℕ → Bool = λ d. not (is_closed c.self.inside.journal.entries d) in
    let are = ap dests_of c.those_open-loads.ensures ∙ dests_kept is_open c.args.loads.items ∙ ap (filter is_open) c.requires.dests in
    let within = subst (All (λ d. d < length g.N.Naming.wires)) (sym are) (all_filtered is_open (λ d. d < length g.N.Naming.wires) c.args.dests c.requires.within) in
    let count : length c.deref_mut.result.now ≡ length g.N.Naming.wires = ap length c.deref_mut.ensures.value ∙ c.self.invariant.0.count in
    subst (λ (y : List Unplaced × ℕ). All (λ d. d < y.1) (dests_of y.0)) (λ i. (sym c.deref.ensures.value i, sym count i)) within

pub returns-in-Some-clause-entered : goal.returns-in-Some-clause-entered
returns-in-Some-clause-entered g c =
    let is_open : ℕ → Bool = λ d. not (is_closed c.self.inside.journal.entries d) in
    let are = ap dests_of c.those_open-loads.ensures ∙ dests_kept is_open c.args.loads.items ∙ ap (filter is_open) c.requires.dests in
    let old : SendingState = record { entries = c.self.inside.journal.entries; is_shut = c.self.inside.is_shut } in
    let count : c.len.result ≡ length (open_among old.entries c.args.dests) = c.len.ensures ∙ c.those_open-loads.result.ok.0 ∙ sym (length-map c.those_open-loads.result.items (λ (u : Unplaced). u.dest)) ∙ ap length are in
    let fits = ap (has_place old.entries) (sym count) ∙ c.in_ok-make_room.ensures.fits in
    let d = c.in-Some.full.dest in
    let among : is_among (open_among old.entries c.args.dests) d ≡ true =
    ap (λ (ds : List ℕ). is_among ds d) (sym are) ∙ ap (λ (us : List Unplaced). is_among (dests_of us) d) (sym c.deref.ensures.value) ∙ c.in-Some.ensures.full.0 in
    subst (λ (y : SendingState × SendingState). Enters c.args.offered c.args.dests y.0 c.args.client.now (Err (Full c.in-Some.full)) y.1 c.args.client.now)
    (λ i. (c.self.view_is i, record { entries = sym c.in_ok-make_room.ensures.entries i; is_shut = c.self.inside.is_shut }))
    (full c.in-Some.full c.if-self.false fits among)

pub invariant_of-self-in-Some : goal.invariant_of-self-in-Some
invariant_of-self-in-Some g c =
    let new = c.full_among.new.ends in
    let items = with_items_is c.self.inside.ends new (omega (arith, c.full_among.auto.ends, ap length c.deref_mut.ensures.value, c.self.inside.ends.ok.0)) in
    let taken = subst (λ (es : List (Sender Parcel)). HaveTakenIn es new) c.deref_mut.ensures.value c.full_among.ensures.same in
    let same = c.in_ok-make_room.ensures.entries in (
      subst (λ (y : List Entry × List (Sender Parcel)). AreSent g.N.Naming.wires y.0 y.1) (λ i. (sym same i, sym items i))
          (taken_sent g.N.Naming.wires c.self.inside.journal.entries c.self.inside.ends.items new c.self.invariant.0 taken),
      c.self.invariant.1 ∙ ap (λ (es : List Entry). length (events_of es)) (sym same),
      c.self.invariant.2 ∙ ap (λ (es : List Entry). length (edus_of es)) (sym same),
      (λ is d within other. ap (λ (es : List Entry). is_closed es d) same ∙ c.self.invariant.3 is d within other),
      c.self.invariant.4,
    )

pub returns-in-Some-clause-full : goal.returns-in-Some-clause-full
returns-in-Some-clause-full g c =
    let new = c.full_among.new.ends in
    let taken = subst (λ (es : List (Sender Parcel)). HaveTakenIn es new) c.deref_mut.ensures.value c.full_among.ensures.same in
    full_named g.N.Naming.wires c.self.inside.journal.entries c.self.inside.ends.items new c.in-Some.full c.self.invariant.0 taken c.in-Some.ensures.full.1

pub pass_all_on-requires-clause-sent : goal.pass_all_on-requires-clause-sent
pass_all_on-requires-clause-sent g c =
    let new = c.full_among.new.ends in
    let items = with_items_is c.self.inside.ends new (omega (arith, c.full_among.auto.ends, ap length c.deref_mut.ensures.value, c.self.inside.ends.ok.0)) in
    let taken = subst (λ (es : List (Sender Parcel)). HaveTakenIn es new) c.deref_mut.ensures.value c.full_among.ensures.same in
    subst (λ (y : List Entry × List (Sender Parcel)). AreSent g.N.Naming.wires y.0 y.1) (λ i. (sym c.in_ok-make_room.ensures.entries i, sym (c.deref_mut-2.ensures.value ∙ items) i))
    (taken_sent g.N.Naming.wires c.self.inside.journal.entries c.self.inside.ends.items new c.self.invariant.0 taken)

pub pass_all_on-requires-clause-credits : goal.pass_all_on-requires-clause-credits
pass_all_on-requires-clause-credits g c =
    let items = with_items_is c.self.inside.ends c.full_among.new.ends (omega (arith, c.full_among.auto.ends, ap length c.deref_mut.ensures.value, c.self.inside.ends.ok.0)) in
    subst (λ (y : List Unplaced × List (Sender Parcel)). HaveRoom (λ d. is_among (dests_of y.0) d ≡ true) y.1) (λ i. (c.deref.ensures.value i, sym (c.deref_mut-2.ensures.value ∙ items) i)) c.in_default.ensures.full

pub invariant_of-self-2 : goal.invariant_of-self-2
invariant_of-self-2 g c =
    let is_open : ℕ → Bool = λ d. not (is_closed c.self.inside.journal.entries d) in
    let are = ap dests_of c.those_open-loads.ensures ∙ dests_kept is_open c.args.loads.items ∙ ap (filter is_open) c.requires.dests in
    let old : SendingState = record { entries = c.self.inside.journal.entries; is_shut = c.self.inside.is_shut } in
    let rising = subst IsStrictlyIncreasing (sym are) (IsStrictlyIncreasing-filter is_open c.args.dests (subst IsStrictlyIncreasing c.dests.view_is c.dests.invariant)) in
    let way = subst (λ (es : List Entry). IsUnderWay g.N.Naming.wires (load_of c.args.offered) (dests_of c.those_open-loads.result.items) es [] c.pass_all_on.new.journal c.pass_all_on.new.ends) c.in_ok-make_room.ensures.entries c.pass_all_on.ensures in
    let v = with_items c.self.inside.ends c.full_among.new.ends in
    let items = with_items_is v c.pass_all_on.new.ends (omega (arith, c.pass_all_on.auto.ends, ap length c.deref_mut-2.ensures.value, v.ok.0)) in
    let is : c.append_to.new.journal.entries ≡ c.pass_all_on.new.journal.entries ++ entry_of c.args.offered c.args.dests ∷ [] = ap (λ (j : JournalState). j.entries) c.append_to.ensures.entry in (
      subst (AreSent g.N.Naming.wires c.append_to.new.journal.entries) (sym items)
          (then_sent g.N.Naming.wires c.args.offered c.args.dests old c.args.client.now c.those_open-loads.result.items c.pass_all_on.new.journal c.pass_all_on.new.ends way are rising c.append_to.new.journal.entries is),
      c.note.ensures.events ∙ ap (λ n. n + event_count c.args.offered) c.self.invariant.1
          ∙ sym (then_events g.N.Naming.wires c.args.offered c.args.dests old c.args.client.now c.those_open-loads.result.items c.pass_all_on.new.journal c.pass_all_on.new.ends way are rising c.append_to.new.journal.entries is),
      c.note.ensures.edus ∙ ap (λ n. n + edu_count c.args.offered) c.self.invariant.2
          ∙ sym (then_edus g.N.Naming.wires c.args.offered c.args.dests old c.args.client.now c.those_open-loads.result.items c.pass_all_on.new.journal c.pass_all_on.new.ends way are rising c.append_to.new.journal.entries is),
      (λ shut. absurd (true≢false (sym shut ∙ c.if-self.false))),
      c.self.invariant.4,
    )

pub returns-clause-entered : goal.returns-clause-entered
returns-clause-entered g c =
    let is_open : ℕ → Bool = λ d. not (is_closed c.self.inside.journal.entries d) in
    let are = ap dests_of c.those_open-loads.ensures ∙ dests_kept is_open c.args.loads.items ∙ ap (filter is_open) c.requires.dests in
    let old : SendingState = record { entries = c.self.inside.journal.entries; is_shut = c.self.inside.is_shut } in
    let rising = subst IsStrictlyIncreasing (sym are) (IsStrictlyIncreasing-filter is_open c.args.dests (subst IsStrictlyIncreasing c.dests.view_is c.dests.invariant)) in
    let way = subst (λ (es : List Entry). IsUnderWay g.N.Naming.wires (load_of c.args.offered) (dests_of c.those_open-loads.result.items) es [] c.pass_all_on.new.journal c.pass_all_on.new.ends) c.in_ok-make_room.ensures.entries c.pass_all_on.ensures in
    let is : c.append_to.new.journal.entries ≡ c.pass_all_on.new.journal.entries ++ entry_of c.args.offered c.args.dests ∷ [] = ap (λ (j : JournalState). j.entries) c.append_to.ensures.entry in
    let count : c.len.result ≡ length (open_among old.entries c.args.dests) = c.len.ensures ∙ c.those_open-loads.result.ok.0 ∙ sym (length-map c.those_open-loads.result.items (λ (u : Unplaced). u.dest)) ∙ ap length are in
    let fits = ap (has_place old.entries) (sym count) ∙ c.in_ok-make_room.ensures.fits in
    subst (λ (s : SendingState). Enters c.args.offered c.args.dests s c.args.client.now (Ok c.append_to.result) (record { entries = c.append_to.new.journal.entries; is_shut = c.self.inside.is_shut }) c.note.new.self) c.self.view_is
    (then_told g.N.Naming.wires c.args.offered c.args.dests old c.args.client.now c.those_open-loads.result.items c.pass_all_on.new.journal c.pass_all_on.new.ends way are rising c.append_to.new.journal.entries c.append_to.result c.note.new.self is
    c.append_to.ensures.number c.note.ensures.told c.if-self.false fits)
