-- What contracts see of an end that sends: its wire, all that was sent over it, how many messages were handed back, and for how many more the
-- wire has room, by the credits in hand.
use Rattle.std.specs.Prelude.{ℕ, ◌+◌, ◌-◌, List, [], ◌∷◌, ◌++◌, min}
use Rattle.crossbeam_channel.specs.Claims.{Pass}
use Rattle.fed_wires.specs.declared.rule.Log.{Log}
use Rattle.fed_wires.specs.declared.rule.TheConstants.{CAPACITY}
use Rattle.fed_wires.specs.WireId.{WireId, wire_of, log_of}

pub record Sender (T : Type 0) : Type 0 where
  pub wire : WireId T
  pub sent : List T
  pub returned : ℕ
  pub room : ℕ

abbrev pub sender_of : {T : Type 0} → Pass T (Log T) → ℕ → Sender T
sender_of pass room = record { wire = wire_of pass; sent = (log_of pass).sent; returned = (log_of pass).returned; room = room }

abbrev pub new_sender : {T : Type 0} → WireId T → Sender T
new_sender wire = record { wire = wire; sent = []; returned = 0; room = CAPACITY }

-- the message was sent, with one of the credits
abbrev pub with_sent : {T : Type 0} → Sender T → T → Sender T
with_sent s message = record { wire = s.wire; sent = s.sent ++ message ∷ []; returned = s.returned; room = s.room - 1 }

-- one message more was handed back; what was sent is as it was
abbrev pub with_returned : {T : Type 0} → Sender T → Sender T
with_returned s = record { wire = s.wire; sent = s.sent; returned = s.returned + 1; room = s.room }

-- so many credits are in hand; nothing was sent or handed back
abbrev pub with_room : {T : Type 0} → Sender T → ℕ → Sender T
with_room s room = record { wire = s.wire; sent = s.sent; returned = s.returned; room = room }

-- one credit more, up to the most that a count may be
abbrev pub with_credit : {T : Type 0} → Sender T → Sender T
with_credit s = with_room s (min (s.room + 1) 18446744073709551615)
