-- The resolved state is by the states and the ancestry of the events that they name.
use Rattle.std.proofs.Common.{◌≡◌, ◌<◌, ℕ, List, [], ◌++◌, All, Option, None, Some, IfSome, length, option_and_then, refl, sym, ap, ◌∙◌, arith}
use Rattle.std.specs.Prelude.{codes}
use Rattle.std.specs.FinMap as finite
use Rattle.fed_room_contract.specs.declared.graph.Stored.{Stored}
use Rattle.fed_room_contract.specs.Graph.{IsAuthGraph}
use Rattle.fed_room_contract.specs.State.{StateMap, entry_at}
use Rattle.fed_room_contract.specs.Lawful.{NamesStored}
use Rattle.fed_resolve.specs.Chain.{members, place_of}
use Rattle.fed_resolve.specs.PowerOrder.{power_order, has_chain_listed, is_before_in_power}
use Rattle.fed_resolve.specs.Mainline.{mainline, mainline_order, at_once, is_before_in_mainline}
use Rattle.fed_resolve.specs.Conflict.{unconflicted}
use Rattle.fed_resolve.specs.Checks.{checked}
use Rattle.fed_resolve.specs.Resolution.{is_power, is_other, power_state, levels_place, checked_state, with_entries, resolved_of}
use Rattle.fed_resolve.specs.Laws.{AllNameStored}
use Rattle.fed_resolve.proofs.Listed.{order-passes}
use Rattle.fed_resolve.proofs.Named.{named-checked, named-unconflicted, named-resolved}
use Rattle.fed_resolve.proofs.Grown.{place_found}
use Rattle.fed_resolve.proofs.GrownConflicts.{members_within, power-members, other-members}
use Rattle.fed_resolve.proofs.GrownOrders.{power-same, mainline_order-same}
use Rattle.fed_resolve.proofs.GrownChecks.{checked-same}

-- states that name stored events resolve to one that does
pub names_stored : (events : List Stored) (states : List StateMap) → IsAuthGraph events → AllNameStored events states → NamesStored events (resolved_of events states)
names_stored events states graph all = named-resolved events states all

module _ (events more : List Stored) (states : List StateMap) (graph : IsAuthGraph (events ++ more)) (all : AllNameStored events states) where
  abbrev whole : List Stored
  whole = events ++ more

  abbrev power_set : List ℕ
  power_set = members events (is_power events states)

  abbrev other_set : List ℕ
  other_set = members events (is_other events states)

  power_within : All (λ p. p < length events) power_set
  power_within = members_within events (is_power events states)

  other_within : All (λ p. p < length events) other_set
  other_within = members_within events (is_other events states)

  start_named : NamesStored events (unconflicted states)
  start_named = named-unconflicted events states all

  power_named : NamesStored events (power_state events states)
  power_named = named-checked events (power_order events power_set) (unconflicted states) start_named

  power-state : power_state whole states ≡ power_state events states
  power-state =
      ap (λ set. checked whole (unconflicted states) (power_order whole set)) (power-members events more graph states all)
      ∙ ap (checked whole (unconflicted states)) (power-same events more graph power_set power_within)
      ∙ checked-same events more graph (power_order events power_set) (unconflicted states)
      (order-passes (λ p. p < length events) (has_chain_listed events power_set) (is_before_in_power events) power_set power_within) start_named

  levels : (option_and_then (place_of whole) (entry_at (power_state events states) (codes "m.room.power_levels") []) ≡ levels_place events states) × IfSome (levels_place events states) (λ p. p < length events)
  levels = by (entry_at (power_state events states) (codes "m.room.power_levels") []) refl
    where
      within : (id : List ℕ) (o : Option ℕ) (p : ℕ) → o ≡ Some p → p < length events → IfSome o (λ q. q < length events)
      within id None p e h = tt
      within id (Some q) p e h = let same : q ≡ p = cc in omega arith

      by : (o : Option (List ℕ)) → entry_at (power_state events states) (codes "m.room.power_levels") [] ≡ o
          → (option_and_then (place_of whole) o ≡ option_and_then (place_of events) o) × IfSome (option_and_then (place_of events) o) (λ p. p < length events)
      by None e = (refl, tt)
      by (Some id) e =
          let found = place_found events more id (power_named (codes "m.room.power_levels") [] id e) in
          (found.1.1.1 ∙ sym found.1.1.0, within id (place_of events id) found.0 found.1.1.0 found.1.0)

  levels-same : levels_place whole states ≡ levels_place events states
  levels-same = ap (λ state. option_and_then (place_of whole) (entry_at state (codes "m.room.power_levels") [])) power-state ∙ levels.0

  checked-state : checked_state whole states ≡ checked_state events states
  checked-state =
      (λ i. checked whole (power-state i) (mainline_order whole (levels-same i) (other-members events more graph states all i)))
      ∙ ap (checked whole (power_state events states)) (mainline_order-same events more graph (levels_place events states) other_set levels.1 other_within)
      ∙ checked-same events more graph (mainline_order events (levels_place events states) other_set) (power_state events states)
      (order-passes (λ p. p < length events) at_once (is_before_in_mainline events (mainline events (levels_place events states))) other_set other_within) power_named

  -- events that come later, and that no state names, change nothing
  pub later_events : resolved_of (events ++ more) states ≡ resolved_of events states
  later_events = ap (λ state. with_entries state (finite.entries (unconflicted states))) checked-state
