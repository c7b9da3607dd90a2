-- Wires that nobody has used.
use Rattle.std.specs.Prelude.{List, map}
use Rattle.fed_wires.specs.ReceiveEnd.{Receiver, new_receiver}
use Rattle.fed_wires.specs.SendEnd.{Sender, new_sender}
use Rattle.fed_wires.specs.WireId.{WireId}

-- the wires of ends that send
abbrev pub wires_of : {T : Type 0} → List (Sender T) → List (WireId T)
wires_of {T} ends = map (λ (end : Sender T). end.wire) ends

-- new ends of these wires
abbrev pub new_senders : {T : Type 0} → List (WireId T) → List (Sender T)
new_senders {T} wires = map (λ (wire : WireId T). new_sender wire) wires

abbrev pub new_receivers : {T : Type 0} → List (WireId T) → List (Receiver T)
new_receivers {T} wires = map (λ (wire : WireId T). new_receiver wire) wires
