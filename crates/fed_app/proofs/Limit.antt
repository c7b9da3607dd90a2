-- An input that ends well gave no more bytes than it had room for.
use Rattle.std.specs.Prelude.{⊤}
use Rattle.std.proofs.Common.{◌≡◌, ℕ, List, [], ◌+◌, ◌≤◌, Option, None, Some, IfSome, is_none, true≢false, length, ap, arith}
use Rattle.fed_app.specs.Input.{Spends}
use Rattle.fed_app.specs.Steps.{TakesFirst}

none_is_not : (a : List ℕ) → None ≡ Some a → ⊥
none_is_not a e = true≢false (ap is_none e)

-- no more bytes were taken so far than the room fell by
abbrev pub Within : Option (List ℕ) → Option (List ℕ) → ℕ → ℕ → Type 0
Within None left room now = ⊤
Within (Some bytes) None room now = ⊥
Within (Some bytes) (Some rest) room now = length bytes + now ≤ length rest + room

pub within_first : (known : Option (List ℕ)) (room : ℕ) → Within known known room room
within_first None room = tt
within_first (Some bytes) room = omega arith

pub within_next : (known left then : Option (List ℕ)) (room now later : ℕ) (line : List ℕ) → Within known left room now → IfSome left (λ bytes. TakesFirst bytes then line) → Spends left then now later
    → Within known then room later
within_next None left then room now later line so_far took spent = tt
within_next (Some bytes) None then room now later line so_far took spent = absurd so_far
within_next (Some bytes) (Some given) None room now later line so_far took spent = absurd (none_is_not took.0 took.1)
within_next (Some bytes) (Some given) (Some rest) room now later line so_far took spent = omega (arith, so_far, spent)

pub within_end : (known left : Option (List ℕ)) (room now : ℕ) → Within known left room now → IfSome left (λ bytes. bytes ≡ []) → IfSome known (λ bytes. length bytes ≤ room)
within_end None left room now so_far none = tt
within_end (Some bytes) None room now so_far none = absurd so_far
within_end (Some bytes) (Some given) room now so_far none = omega (arith, so_far, ap length none)
