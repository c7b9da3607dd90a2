use Rattle.std.proofs.Common.{◌≡◌, ◌++◌, ◌∷◌, [], is_ok, if◌then◌else◌, sym, ap, ◌∙◌, subst}
use Rattle.fed_room_contract.specs.declared.input.Input.TheVariants.{Commit}
use Rattle.fed_room_contract.specs.Room.{RoomState, empty_room, committed}
use Rattle.fed_room_contract.specs.Runs.{room_after, AllMayBeGiven, IsAcceptable}
use Rattle.fed_room_contract.proofs.Rooms.{room_after-++}
use Rattle.fed_room.specs.Room.{room_of, room_rules}
use Rattle.fed_room.specs.Start.{after_all}
use Rattle.fed_hub_state.specs.KeptRoom.{KeptState}
use Rattle.fed_hub_state.proofs.Kept.{all_given}
use Rattle.fed_hub_state.proofs.kept_room.KeptRoom.commit.Goals as goal

pub invariant_of-self : goal.invariant_of-self
invariant_of-self c =
    let k = c.self.inside in
    let base = after_all room_rules empty_room k.start.items in
    let event = c.args.prepared.event in
    let items : c.push.new.self.items ≡ k.inputs.items ++ Commit event ∷ [] =
    c.push.ensures.items ∙ ap (λ r. if is_ok r then k.inputs.items ++ Commit c.args.input ∷ [] else k.inputs.items) c.unwrap.ensures ∙ ap (λ e. k.inputs.items ++ Commit e ∷ []) c.requires.input in
    let is : room_of c.args.self.now.room ≡ room_after room_rules base k.inputs.items = ap (λ (s : KeptState). room_of s.room) (sym c.self.view_is) ∙ c.self.invariant.after in
    record {
      some = c.self.invariant.some;
      after =
          c.commit.ensures.after ∙ ap (λ (r : RoomState). committed r event) c.self.invariant.after ∙ sym (room_after-++ room_rules base k.inputs.items (Commit event ∷ []))
          ∙ ap (room_after room_rules base) (sym items);
      may =
          subst (AllMayBeGiven room_rules base) (sym items)
          (all_given room_rules base k.inputs.items (Commit event ∷ []) c.self.invariant.may
          ((λ new. subst (λ (r : RoomState). IsAcceptable room_rules r event) is (record { ready = c.requires.prepared.ready; accepted = c.requires.accepted })), tt));
    }
