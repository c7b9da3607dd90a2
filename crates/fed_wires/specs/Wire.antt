-- A wire: what was sent over it is what was received, followed by its queue, which is what it holds.
use Rattle.std.specs.Prelude.{◌≡◌, ℕ, ◌+◌, ◌≤◌, Bool, true, false, List, [], ◌∷◌, ◌++◌, length}
use mathlib.Core.Option.{some}
use lib.ListN.{get_elem?}
use Rattle.fed_wires.specs.declared.rule.Log.{Log}

abbrev pub log : {T : Type 0} → Bool → Bool → List T → List T → ℕ → Log T
log sends receives sent received returned = record { sends = sends; receives = receives; sent = sent; received = received; returned = returned }

-- neither sends nor receives, and knows nothing
abbrev pub idle : {T : Type 0} → Log T
idle = log false false [] [] 0

-- each message fits its number; n others stand before these
abbrev pub Numbered : {T : Type 0} → (ℕ → T → Type 0) → ℕ → List T → Type 0
Numbered fits n [] = Unit {0}
Numbered fits n (x ∷ xs) = fits (n + 1) x × Numbered fits (n + 1) xs

-- what was sent is what was received, followed by the queue, which is no longer than room
abbrev pub Follows : {T : Type 0} → List T → List T → List T → ℕ → Type 0
Follows sent received queue room = (sent ≡ received ++ queue) × (length queue ≤ room)

-- a pass that sends is the one that does, and knows all that was sent; the same of receiving
abbrev pub Knows : {T : Type 0} → ℕ → ℕ → List T → List T → ℕ → Log T → Type 0
Knows sender receiver sent received pass v =
    (v.sends ≡ true → (pass ≡ sender) × (v.sent ≡ sent)) × (v.receives ≡ true → (pass ≡ receiver) × (v.received ≡ received))

-- the rule: there are one list sent and one list received, which the queue ties, and each pass knows them as far as it sends or receives
abbrev pub Relays : {T : Type 0} → (ℕ → T → Type 0) → ℕ → List T → List (Log T) → Type 0
Relays {T} fits room queue views =
    (sender : ℕ) × (receiver : ℕ) × (sent : List T) × (received : List T)
    × Follows sent received queue room
    × Numbered fits 0 sent
    × ((pass : ℕ) (v : Log T) → get_elem? views pass ≡ some v → Knows sender receiver sent received pass v)
