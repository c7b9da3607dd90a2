use Rattle.std.proofs.Common.{◌≡◌, max, drop}
use Rattle.serde_json.specs.Data.{items_depth, members_depth}
use Rattle.fed_json.specs.Tree.{items_view, members_view}
use Rattle.fed_json.proofs.depth.+depth.Given as goal

-- what is left, and the deepest so far
abbrev pub invariant-items_depth-loop-item : goal.invariant-items_depth-loop-item
invariant-items_depth-loop-item l = items_depth (items_view l.item-items) ≡ max l.deepest (items_depth (items_view (drop l.item-index l.item-items)))

abbrev pub invariant-members_depth-loop-name : goal.invariant-members_depth-loop-name
invariant-members_depth-loop-name l = members_depth (members_view l._name-items) ≡ max l.deepest (members_depth (members_view (drop l._name-index l._name-items)))
