use Rattle.std.proofs.Common.{◌≡◌, drop}
use Rattle.std.specs.List.{list_all}
use Rattle.fed_room.specs.Start.{is_of_version}
use Rattle.fed_room.proofs.start.are_of_version.Given as goal

-- what is left decides
abbrev pub invariant-loop-event : goal.invariant-loop-event
invariant-loop-event l = list_all (is_of_version l.name) (drop l.event-index l.events) ≡ list_all (is_of_version l.name) l.events
