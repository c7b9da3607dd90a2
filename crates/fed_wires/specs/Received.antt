-- What a receive does: a message joins those received and fits its number, and nothing else changes but that Gone is kept in mind.
use Rattle.std.specs.Prelude.{◌≡◌, ℕ, ◌+◌, length}
use Rattle.fed_wires.specs.declared.received.Received.{Received}
use Rattle.fed_wires.specs.declared.received.Received.TheVariants.{Message, Empty, Gone}
use Rattle.fed_wires.specs.ReceiveEnd.{Receiver, with_received, with_gone}

abbrev pub Receives : {T : Type 0} → (ℕ → T → Type 0) → Received T → Receiver T → Receiver T → Type 0
Receives fits (Message m) old new = (new ≡ with_received old m) × fits (length old.received + 1) m
Receives fits Empty old new = new ≡ old
Receives fits Gone old new = new ≡ with_gone old

-- a receive that waits finds a message, or that the other end is gone
abbrev pub IsWaited : {T : Type 0} → Received T → Type 0
IsWaited (Message m) = Unit {0}
IsWaited Empty = ⊥
IsWaited Gone = Unit {0}
