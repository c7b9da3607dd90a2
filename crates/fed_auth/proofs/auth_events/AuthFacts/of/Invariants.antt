use Rattle.std.proofs.Common.{◌≡◌, ◌||◌}
use Rattle.std.specs.List.{list_any}
use Rattle.fed_auth.specs.AuthState.{is_outside_selection, is_rejected, is_create, is_of_other_room}
use Rattle.fed_auth.specs.AuthEvents.{events_left}
use Rattle.fed_auth.proofs.auth_events.AuthFacts.of.Given as goal

-- what is found so far, or is left
abbrev pub invariant-loop-auth : goal.invariant-loop-auth
invariant-loop-auth l =
    let all = events_left l.fn.events in
    let rest = events_left l.auth-iterator in
    (list_any (is_outside_selection l.event) all ≡ (l.facts.is_outside_selection || list_any (is_outside_selection l.event) rest))
    × (list_any is_rejected all ≡ (l.facts.is_rejected || list_any is_rejected rest))
    × (list_any is_create all ≡ (l.facts.is_create || list_any is_create rest))
    × (list_any (is_of_other_room l.event) all ≡ (l.facts.is_of_other_room || list_any (is_of_other_room l.event) rest))
