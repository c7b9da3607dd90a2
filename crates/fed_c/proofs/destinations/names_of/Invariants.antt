use Rattle.std.proofs.Common.{◌≡◌, ◌++◌, All, map}
use Rattle.serde_json.specs.Data.{string}
use Rattle.fed_json.specs.Items.{left}
use Rattle.fed_dest.specs.ServerName.{IsServerName}
use Rattle.fed_c.proofs.destinations.names_of.Given as goal

-- those that were read are names, and the others are left
abbrev pub invariant-loop-item : goal.invariant-loop-item
invariant-loop-item l = record { read : left l.fn.items ≡ map string l.names.items ++ left l.item-iterator; each : All IsServerName l.names.items }
