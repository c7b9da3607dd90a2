-- The name by which contracts know a wire: no other wire has it, and both of its ends do.
use Rattle.atomic_table.specs.Seated.{TableId}
use Rattle.atomic_table.specs.declared.badge.Badge.{Badge}
use Rattle.crossbeam_channel.specs.declared.flavors.array.Key.{Key}
use Rattle.crossbeam_channel.specs.Claims.{Pass}
use Rattle.fed_wires.specs.declared.rule.Log.{Log}

pub record WireId (T : Type 0) : Type 0 where
  pub table : TableId
  pub keys : Badge (Key T)

-- the wire that a pass is of
abbrev pub wire_of : {T : Type 0} → Pass T (Log T) → WireId T
wire_of pass = record { table = pass.table_id; keys = pass.me.0.of }

-- what the pass knows of it
abbrev pub log_of : {T : Type 0} → Pass T (Log T) → Log T
log_of pass = pass.me.0.client
