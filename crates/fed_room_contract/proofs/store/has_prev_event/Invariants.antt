use Rattle.std.proofs.Common.{◌≡◌}
use Rattle.std.specs.List.{list_any}
use Rattle.std.specs.Str.{bytes_eq}
use Rattle.fed_event.specs.EventIds.{ids_left}
use Rattle.fed_room_contract.proofs.store.has_prev_event.Given as goal

-- what is left decides
abbrev pub invariant-loop-prev : goal.invariant-loop-prev
invariant-loop-prev l =
    list_any (λ prev. bytes_eq prev l.id) (ids_left l.prev-iterator) ≡ list_any (λ prev. bytes_eq prev l.id) (ids_left l.initial.prev-iterator)
