use Rattle.std.proofs.Common.{◌↔◌, ◌++◌, List, drop, map}
use Rattle.fed_event.specs.Checked.{CheckedEvent}
use Rattle.fed_hub_kept.specs.Unfound.{AreFronts, place_in}
use Rattle.fed_hub_kept.proofs.brought.take_all.Given as goal

-- what is left decides
abbrev pub invariant-loop-event : goal.invariant-loop-event
invariant-loop-event l =
    (later : List CheckedEvent) → AreFronts (place_in l.places) (l.events ++ later) (map (λ inputs. inputs.now) l.initial.left)
    ↔ AreFronts (place_in l.places) (drop l.event-index l.events ++ later) (map (λ inputs. inputs.now) l.left)
