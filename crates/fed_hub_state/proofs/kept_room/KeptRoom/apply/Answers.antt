use Rattle.std.proofs.Common.{◌≡◌, ◌++◌, refl, sym, ap, ◌∙◌, subst}
use Rattle.fed_room_contract.specs.Room.{RoomState, empty_room}
use Rattle.fed_room_contract.specs.Runs.{room_after, AllMayBeGiven}
use Rattle.fed_room_contract.proofs.Rooms.{room_after-++}
use Rattle.fed_room.specs.Room.{room_of, room_rules}
use Rattle.fed_room.specs.Start.{after_all}
use Rattle.fed_hub_state.specs.Applying.{EventIsApplied, given}
use Rattle.fed_hub_state.specs.KeptRoom.{KeptState}
use Rattle.fed_hub_state.specs.KeptRoomParts.{kept_of}
use Rattle.fed_hub_state.proofs.Applied.{may_be_given, after_given, few_given, event_is_applied}
use Rattle.fed_hub_state.proofs.Kept.{all_given}
use Rattle.fed_hub_state.proofs.kept_room.KeptRoom.apply.Goals as goal

pub keep_given-requires : goal.keep_given-requires
keep_given-requires c =
    let k = c.self.inside in
    few_given room_rules (room_of k.room) c.args.event (room_of c.apply-applied.new.room) c.apply-applied.result
    (c.apply-applied.ensures.applied, c.apply-applied.ensures.back, c.apply-applied.ensures.stopped) _ c.in-Ok.ensures.room

pub invariant_of-self-2 : goal.invariant_of-self-2
invariant_of-self-2 c =
    let k = c.self.inside in
    let base = after_all room_rules empty_room k.start.items in
    let event = c.args.event in
    let applied = c.apply-applied.result in
    let new = room_of c.apply-applied.new.room in
    let more = given event applied in
    let items : c.keep_given.new.inputs.items ≡ k.inputs.items ++ more = c.keep_given.ensures ∙ (λ i. c.make_room.ensures.items i ++ given (c.requires i) applied) in
    record {
      some = c.self.invariant.some;
      after =
          after_given room_rules (room_of k.room) event new applied (c.apply-applied.ensures.applied, c.apply-applied.ensures.back, c.apply-applied.ensures.stopped)
          ∙ ap (λ (r : RoomState). room_after room_rules r more) c.self.invariant.after ∙ sym (room_after-++ room_rules base k.inputs.items more) ∙ ap (room_after room_rules base) (sym items);
      may =
          subst (AllMayBeGiven room_rules base) (sym items)
          (all_given room_rules base k.inputs.items more c.self.invariant.may
          (subst (λ (r : RoomState). AllMayBeGiven room_rules r more) c.self.invariant.after (may_be_given room_rules (room_of k.room) event new applied)));
    }

pub returns : goal.returns
returns c =
    let k = c.self.inside in
    let applied = c.apply-applied.result in
    let items : c.keep_given.new.inputs.items ≡ k.inputs.items ++ given c.args.event applied = c.keep_given.ensures ∙ (λ i. c.make_room.ensures.items i ++ given (c.requires i) applied) in
    subst (λ (s : KeptState). EventIsApplied c.args.event s applied (kept_of (record { room = c.apply-applied.new.room; start = k.start; inputs = c.keep_given.new.inputs }))) c.self.view_is
    (event_is_applied c.args.event (kept_of k) (kept_of (record { room = c.apply-applied.new.room; start = k.start; inputs = c.keep_given.new.inputs })) applied
    (c.apply-applied.ensures.applied, c.apply-applied.ensures.back, c.apply-applied.ensures.stopped) refl items)
