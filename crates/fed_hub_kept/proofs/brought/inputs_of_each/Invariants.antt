use Rattle.std.proofs.Common.{◌≡◌, map, take}
use Rattle.fed_hub_kept.proofs.brought.inputs_of_each.Given as goal

-- what the rooms so far were given
abbrev pub invariant-loop-room : goal.invariant-loop-room
invariant-loop-room l = map (λ inputs. inputs.now) l.each.items ≡ map (λ room. room.inputs) (take l.room-index l.rooms)
