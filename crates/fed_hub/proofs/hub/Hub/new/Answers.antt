use Rattle.std.proofs.Common.{rules, arith, ◌≡◌, ◌<◌, ℕ, List, Some, length, refl, sym, ap, ◌∙◌, subst}
use Rattle.std.specs.List.{slice_get}
use Rattle.std.proofs.lemmas.List.{length-map}
use Rattle.std.specs.Option.{IfSome}
use Rattle.std.proofs.lemmas.Grind.{common_steps}
use Rattle.fed_dest.specs.List.{place_of}
use Rattle.fed_hub_state.specs.ClientToken.{ClientShare}
use Rattle.fed_hub_state.specs.KeptRoom.{id_of}
use Rattle.fed_journal.specs.declared.parcel.Parcel.{Parcel}
use Rattle.fed_wires.specs.Board.{BoardId, word_count}
use Rattle.fed_wires.specs.Seat.{AreOwners, AreReaders}
use Rattle.fed_wires.specs.SendEnd.{Sender}
use Rattle.fed_hub.specs.Names.{Names}
use Rattle.fed_hub.specs.Rooms.{RoomsShape}
use Rattle.fed_hub.specs.Setup.{has_room, ids_of}
use Rattle.fed_hub.specs.Wires.{wires_of, new_receivers}
use Rattle.fed_hub.proofs.Made.{unused, signs_as_own}
use Rattle.fed_hub.proofs.Given.{tokens_so}
use Rattle.fed_hub.proofs.hub.Hub.new.Goals as goal

-- ---- the reception

pub new-requires-clause-known : goal.new-requires-clause-known
new-requires-clause-known g c = c.requires.same_ids ∙ ap ids_of (sym c.deref.ensures.value)

pub new-requires-clause-inbox : goal.new-requires-clause-inbox
new-requires-clause-inbox g c = c.requires.reception

pub new-requires-clause-wires : goal.new-requires-clause-wires
new-requires-clause-wires g c = ap (λ (n : Names). n.rooms) c.opened.view_is ∙ c.requires.same_rooms

pub new-requires-clause-unused : goal.new-requires-clause-unused
new-requires-clause-unused g c = λ k e at.
    let none = unused (wires_of c.opened.inside.room_ends.items) k e (sym (ap (λ ends. slice_get ends k) c.opened.invariant.room_ends) ∙ at) in
    (none.sent, none.returned)

-- ---- the journal

pub new-requires-3-clause-wires : goal.new-requires-3-clause-wires
new-requires-3-clause-wires g c = ap (λ (n : Names). n.wires) c.opened.view_is ∙ c.requires.same_wires

pub new-requires-3-clause-unused : goal.new-requires-3-clause-unused
new-requires-3-clause-unused g c = λ d e at. (unused (wires_of c.opened.inside.ends.items) d e (sym (ap (λ ends. slice_get ends d) c.opened.invariant.ends) ∙ at)).sent

pub new-requires-3-clause-few : goal.new-requires-3-clause-few
new-requires-3-clause-few g c = omega (arith, c.requires.for_each_server, c.has_own_fault.ensures.few)

pub new-requires-3-clause-events : goal.new-requires-3-clause-events
new-requires-3-clause-events g c = (
  ap (λ (n : Names). n.events) c.opened.view_is ∙ c.requires.same_events,
  c.opened.invariant.parts ∙ ap (λ (n : Names). n.parts) c.opened.view_is ∙ c.requires.same_parts,
)

pub new-requires-3-clause-edus : goal.new-requires-3-clause-edus
new-requires-3-clause-edus g c = (
  ap (λ (n : Names). n.edus) c.opened.view_is ∙ c.requires.same_edus,
  c.opened.invariant.edu_parts ∙ ap (λ (n : Names). n.parts) c.opened.view_is ∙ c.requires.same_parts,
)

-- ---- the tokens and the outboxes

pub tokens_of-requires-clause-share : goal.tokens_of-requires-clause-share
tokens_of-requires-clause-share g c =
    let parts = ap (λ (n : Names). n.parts) c.opened.view_is ∙ c.requires.same_parts in
    let of_parts : ℕ → ClientShare = λ n. record { parts = n; events = 0; edus = 0 } in
    c.in_ok-journal.ensures.client ∙ ap of_parts (sym parts)

pub tokens_of-requires-clause-readers : goal.tokens_of-requires-clause-readers
tokens_of-requires-clause-readers g c =
    let readers = c.opened.inside.lent.readers.items in
    subst (λ (b : BoardId). AreReaders b (length readers) readers) (ap (λ (n : Names). n.board) c.opened.view_is ∙ c.requires.same_board) c.opened.invariant.readers

pub tokens_of-requires-clause-ends : goal.tokens_of-requires-clause-ends
tokens_of-requires-clause-ends g c = (
  c.opened.invariant.others ∙ ap new_receivers (ap (λ (n : Names). n.wires) c.opened.view_is ∙ c.requires.same_wires),
  omega (arith, c.requires.for_each_server, c.has_own_fault.ensures.few),
)

pub tokens_of-requires-clause-room_ends : goal.tokens_of-requires-clause-room_ends
tokens_of-requires-clause-room_ends g c = c.opened.invariant.room_others ∙ ap new_receivers (ap (λ (n : Names). n.rooms) c.opened.view_is ∙ c.requires.same_rooms)

pub outboxes_of-requires-clause-owners : goal.outboxes_of-requires-clause-owners
outboxes_of-requires-clause-owners g c =
    subst (λ (b : BoardId). AreOwners b c.opened.inside.owners.items) (ap (λ (n : Names). n.board) c.opened.view_is ∙ c.requires.same_board) c.opened.invariant.owners

-- ---- what is told

pub returns-clause-hub : goal.returns-clause-hub
returns-clause-hub g c =
    let place = c.in-Some.own in
    let at : place_of c.args.setup.list c.args.setup.own ≡ Some place = ap (place_of c.args.setup.list) (sym c.as_str.ensures.text) ∙ sym c.in-Some.ensures.place in
    record {
      same_list = c.list.view_is;
      own_place = sym (subst (λ o. IfSome o (λ n. g.N.Naming.own ≡ n)) at c.requires.own_place);
      own_name = signs_as_own c.args.setup.list c.args.setup.own (g.K.Keys.own_name c.args.setup.keys) (sym c.if-has_own_fault.ensures.told);
      same_epoch = refl;
      each_client = c.clients-clients.ensures ∙ c.requires.same_parts;
      each_reader = c.readers-readers.ensures;
      each_room = λ id. ap (λ (rooms : RoomsShape). has_room rooms.ids id) c.rooms.view_is ∙ c.in_ok-rooms.ensures.rooms id;
    }

pub returns-clause-tokens : goal.returns-clause-tokens
returns-clause-tokens g c =
    let place = c.in-Some.own in
    let at : place_of c.args.setup.list c.args.setup.own ≡ Some place = ap (place_of c.args.setup.list) (sym c.as_str.ensures.text) ∙ sym c.in-Some.ensures.place in
    let own = sym (subst (λ o. IfSome o (λ n. g.N.Naming.own ≡ n)) at c.requires.own_place) in
    let parts = ap (λ (n : Names). n.parts) c.opened.view_is ∙ c.requires.same_parts in
    let readers = ap (λ (n : Names). n.readers) c.opened.view_is in
    tokens_so _ _ _ _ _ _ _ _ _ _ _ _ _ _ _ _ parts readers own c.len.ensures.len c.in_ok-tokens.ensures

pub invariant_of-hub-3 : goal.invariant_of-hub-3
invariant_of-hub-3 g c =
    let place = c.in-Some.own in
    let at : place_of c.args.setup.list c.args.setup.own ≡ Some place = ap (place_of c.args.setup.list) (sym c.as_str.ensures.text) ∙ sym c.in-Some.ensures.place in
    let board = ap (λ (n : Names). n.board) c.opened.view_is ∙ c.requires.same_board in
    let wires = ap (λ (n : Names). n.wires) c.opened.view_is ∙ c.requires.same_wires in (
      ap length c.list.view_is ∙ sym c.requires.for_each_server,
      sym (subst (λ o. IfSome o (λ n. g.N.Naming.own ≡ n)) at c.requires.own_place),
      subst (λ (names : List (List ℕ)). place < length names) (sym c.list.view_is) c.in-Some.ensures.within,
      board,
      ap word_count (sym board) ∙ c.opened.invariant.words ∙ ap length wires,
      c.opened.invariant.all_readers ∙ ap (λ (n : Names). n.readers) c.opened.view_is ∙ sym c.readers-readers.ensures,
      first_of (search rules, grind (arith, common_steps)),
      c.credits.view_is ∙ c.in_ok-credits.ensures ∙ ap length c.deref-2.ensures.value ∙ sym (length-map c.opened.inside.ends.items (λ (end : Sender Parcel). end.wire)) ∙ ap length wires,
      record {
        same_checks = sym c.requires.same_checks;
        same_ids = c.in_ok-reception.ensures;
        same_rooms = λ id. ap (λ (rooms : RoomsShape). has_room rooms.ids id) c.rooms.view_is ∙ c.in_ok-rooms.ensures.rooms id ∙ ap (λ (ids : List (List ℕ)). has_room ids id) (sym c.requires.same_ids);
        each_wire = ap (λ (rooms : RoomsShape). rooms.count) c.rooms.view_is ∙ c.in_ok-rooms.ensures.count ∙ sym (length-map c.args.setup.rooms.items id_of) ∙ ap length (sym c.requires.same_ids) ∙ sym c.requires.for_each_room;
      },
    )
