use Rattle.std.proofs.Common.{◌↔◌, drop, map}
use Rattle.fed_inbox.specs.History.{brought}
use Rattle.fed_hub_kept.specs.Unfound.{AreFronts, place_in}
use Rattle.fed_hub_kept.proofs.brought.are_brought.Given as goal

-- what is left decides
abbrev pub invariant-loop-point : goal.invariant-loop-point
invariant-loop-point l =
    AreFronts (place_in l.places) (brought l.points) (map (λ room. room.inputs) l.rooms)
    ↔ AreFronts (place_in l.places) (brought (drop l.point-index l.points)) (map (λ inputs. inputs.now) l.left.items)
