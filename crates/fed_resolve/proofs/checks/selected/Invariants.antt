use Rattle.std.proofs.Common.{map, take, option_map}
use Rattle.fed_event.specs.Fields.{auth_events_of}
use Rattle.fed_auth.specs.AuthState.{stored_of}
use Rattle.fed_auth.specs.Selection.{selector_of, selection_keys}
use Rattle.fed_auth.specs.SelectionKey.{seen}
use Rattle.fed_resolve.specs.Checks.{with_keys}
use Rattle.fed_resolve.specs.ChecksParts.{IsSelected}
use Rattle.fed_resolve.proofs.checks.selected.Given as goal

-- what the completed state has at the keys so far
abbrev pub invariant-loop-key : goal.invariant-loop-key
invariant-loop-key l =
    IsSelected (with_keys (stored_of l.graph.stored (auth_events_of l.stored.event.event)) l.state (selection_keys (selector_of l.stored.event.event)))
    (map (option_map seen) (take l.key-index l.key-items)) l.known
