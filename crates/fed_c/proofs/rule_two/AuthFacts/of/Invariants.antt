use Rattle.std.proofs.Common.{◌≡◌, ◌||◌, drop}
use Rattle.std.specs.List.{list_any}
use Rattle.fed_auth.specs.AuthState.{is_outside_selection, is_rejected, is_create, is_of_other_room}
use Rattle.fed_c.proofs.rule_two.AuthFacts.of.Given as goal

-- what is found so far, or is left
abbrev pub invariant-loop-one : goal.invariant-loop-one
invariant-loop-one l =
    let rest = drop l.one-index l.auth in
    (list_any (is_outside_selection l.event) l.auth ≡ (l.facts.is_outside_selection || list_any (is_outside_selection l.event) rest))
    × (list_any is_rejected l.auth ≡ (l.facts.is_rejected || list_any is_rejected rest))
    × (list_any is_create l.auth ≡ (l.facts.is_create || list_any is_create rest))
    × (list_any (is_of_other_room l.event) l.auth ≡ (l.facts.is_of_other_room || list_any (is_of_other_room l.event) rest))
