use Rattle.std.proofs.Common.{◌≡◌, ◌++◌, drop}
use Rattle.fed_room_contract.specs.StateRef.{seen as seen-state}
use Rattle.fed_auth.specs.Selection.{ids_at, each_once, selection_of}
use Rattle.fed_auth.specs.SelectionKey.{all_seen}
use Rattle.fed_auth.proofs.Selections.{lacking}
use Rattle.fed_auth.proofs.selector.Selector.select_in.Given as goal

-- what is left completes the ids
abbrev pub invariant-loop-key : goal.invariant-loop-key
invariant-loop-key l = selection_of l.self (seen-state l.state) ≡ l.ids.items ++ lacking l.ids.items (each_once (ids_at (seen-state l.state) (all_seen (drop l.key-index l.key-items))))
