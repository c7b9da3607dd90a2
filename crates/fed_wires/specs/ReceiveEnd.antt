-- What contracts see of an end that receives: its wire, all that was received, and whether a receive ever answered Gone.
use Rattle.std.specs.Prelude.{Bool, true, false, List, [], ◌∷◌, ◌++◌}
use Rattle.crossbeam_channel.specs.Claims.{Pass}
use Rattle.fed_wires.specs.declared.rule.Log.{Log}
use Rattle.fed_wires.specs.WireId.{WireId, wire_of, log_of}

pub record Receiver (T : Type 0) : Type 0 where
  pub wire : WireId T
  pub received : List T
  pub gone : Bool

abbrev pub receiver_of : {T : Type 0} → Pass T (Log T) → Bool → Receiver T
receiver_of pass gone = record { wire = wire_of pass; received = (log_of pass).received; gone = gone }

abbrev pub new_receiver : {T : Type 0} → WireId T → Receiver T
new_receiver wire = record { wire = wire; received = []; gone = false }

-- the message was received
abbrev pub with_received : {T : Type 0} → Receiver T → T → Receiver T
with_received r message = record { wire = r.wire; received = r.received ++ message ∷ []; gone = r.gone }

-- the end that sends was seen to be gone
abbrev pub with_gone : {T : Type 0} → Receiver T → Receiver T
with_gone r = record { wire = r.wire; received = r.received; gone = true }
