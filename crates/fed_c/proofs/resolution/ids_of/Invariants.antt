use Rattle.std.proofs.Common.{◌≡◌, map, drop}
use Rattle.serde_json.specs.Data.{string}
use Rattle.fed_room_contract.specs.Entry.{seen}
use Rattle.fed_c.specs.ListParts.{with_items}
use Rattle.fed_c.specs.Resolution.{ids_value}
use Rattle.fed_c.proofs.resolution.ids_of.Given as goal

-- what is left completes the array
abbrev pub invariant-loop-entry : goal.invariant-loop-entry
invariant-loop-entry l = ids_value l.state ≡ with_items l.ids (map (λ entry. string entry.1) (map seen (drop l.entry-index l.entry-items)))
