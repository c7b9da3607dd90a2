use Rattle.std.proofs.Common.{◌≡◌, All, map, take}
use Rattle.std.specs.FinMap as finite
use Rattle.fed_room_contract.specs.Entry.{seen}
use Rattle.fed_room_contract.specs.ChangeParts.{IsTagged, held_by, key_of}
use Rattle.fed_room_contract.proofs.change.changes_at.Given as goal

-- a change for each entry so far, to what the state has
abbrev pub invariant-loop-entry : goal.invariant-loop-entry
invariant-loop-entry l = record {
  tags : All IsTagged l.changes.items;
  keys : map key_of l.changes.items ≡ map (λ e. (seen e).0) (take l.entry-index l.entry-items);
  held : All (λ c. held_by c ≡ finite.get l.state (key_of c)) l.changes.items;
}
