use Rattle.std.proofs.Common.{arith, ◌≡◌, ◌+◌, ◌∷◌, ◌||◌, Bool, true, false, ℕ, List, length, bytes_eq, refl, sym, ap, ◌∙◌}
use Rattle.fed_hub_state.specs.KeptRoom.{KeptState, id_of}
use Rattle.fed_hub.specs.Setup.{has_room, ids_of}
use Rattle.fed_hub.proofs.Doubles.{doubled_yet, doubled_at_first, doubled_still}
use Rattle.fed_hub.proofs.making.rooms_of.Goals as goal

turned : (a b c : Bool) → ((a || b) || c) ≡ (b || (a || c))
turned true true c = refl
turned true false c = refl
turned false b c = refl

none_and : (n : ℕ) → 0 + n ≡ n
none_and n = omega arith

one_taken : (old new : ℕ) (room : KeptState) (rest : List KeptState) → new ≡ old + 1 → new + length rest ≡ old + length (room ∷ rest)
one_taken old new room rest is = omega (arith, is)

pub loop-room-init : goal.loop-room-init
loop-room-init c =
    let gives = c.into_iter-room-iterator.ensures.into_iter_gives.0 in
    record {
      all = λ id i. has_room (c.new-all.ensures i).ids id || has_room (ids_of (gives i)) id;
      count = (λ i. (c.new-all.ensures i).count + length (gives i)) ∙ none_and (length c.args.rooms.items);
      doubled = (λ i. doubled_yet (c.new-all.ensures i).ids (ids_of (gives i))) ∙ doubled_at_first (ids_of c.args.rooms.items);
    }

pub loop-room-preserved : goal.loop-room-preserved
loop-room-preserved c =
    let rest = ids_of c.next.new.self.rest.items in
    let room = id_of c.in-Some.room in
    let old = c.loop-room.all.ids in
    let new = c.add.new.self.ids in
    let absent = c.in_ok-add.ensures.added.absent in
    let more = c.in_ok-add.ensures.added.more in
    record {
      all = λ id. ap (λ b. b || has_room rest id) (more id) ∙ turned (bytes_eq id room) (has_room old id) (has_room rest id)
          ∙ ap (λ rs. has_room old id || has_room (ids_of rs) id) (sym c.in-Some.ensures.steps.0) ∙ c.loop-room.invariant.all id;
      count = one_taken c.loop-room.all.count c.add.new.self.count c.in-Some.room c.next.new.self.rest.items c.in_ok-add.ensures.added.one
          ∙ ap (λ rs. c.loop-room.all.count + length rs) (sym c.in-Some.ensures.steps.0) ∙ c.loop-room.invariant.count;
      doubled = sym (doubled_still room old new rest absent more) ∙ ap (λ rs. doubled_yet old (ids_of rs)) (sym c.in-Some.ensures.steps.0) ∙ c.loop-room.invariant.doubled;
    }
