use Rattle.std.proofs.Common.{◌≡◌, drop}
use Rattle.std.specs.List.{list_any}
use Rattle.fed_event.specs.Tests.{holds}
use Rattle.fed_auth.specs.Selection.{is_key, is_selected}
use Rattle.fed_auth.specs.SelectionKey.{all_seen}
use Rattle.fed_auth.proofs.selector.Selector.selects.Given as goal

-- what is left decides
abbrev pub invariant-loop-key : goal.invariant-loop-key
invariant-loop-key l = is_selected l.self l.kind l.fn.state_key ≡ list_any (holds (is_key l.kind l.fn.state_key)) (all_seen (drop l.key-index l.key-items))
