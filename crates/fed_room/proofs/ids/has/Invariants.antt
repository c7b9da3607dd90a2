use Rattle.std.proofs.Common.{◌≡◌}
use Rattle.std.specs.List.{list_any}
use Rattle.std.specs.Str.{bytes_eq}
use Rattle.fed_event.specs.EventIds.{ids_left}
use Rattle.fed_room.proofs.ids.has.Given as goal

-- what is left decides
abbrev pub invariant-loop-named : goal.invariant-loop-named
invariant-loop-named l =
    list_any (λ named. bytes_eq named l.id) (ids_left l.named-iterator) ≡ list_any (λ named. bytes_eq named l.id) (ids_left l.initial.named-iterator)
