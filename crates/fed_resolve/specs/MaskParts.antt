-- Words of marks by place, a bit for each of several groups of events, for the clauses of private functions.
use Rattle.std.specs.Prelude.{◌≡◌, ◌<◌, ◌≤◌, ℕ, List, [], ◌∷◌, Bool, ◌==◌, ◌&&◌, Option, None, Some, All, length, map, slice_index, slice_get, nat_lt, if◌then◌else◌}
use Rattle.std.specs.List.{list_any}
use Rattle.std.specs.Int.{bit_at}
use Rattle.std.specs.Int.Bits.{bit_or}
use Rattle.fed_room_contract.specs.declared.graph.Stored.{Stored}
use Rattle.fed_resolve.specs.Chain.{is_in_chain, is_in_chains}
use Rattle.fed_resolve.specs.ChainParts.{is_auth}

abbrev pub has_bit : ℕ → ℕ → Bool
has_bit bit mask = bit_at mask bit == 1

-- the marks of one bit
abbrev pub bit_marks : ℕ → List ℕ → List Bool
bit_marks bit masks = map (has_bit bit) masks

-- an auth event of one of these
abbrev pub is_auth_of : List Stored → List ℕ → ℕ → Bool
is_auth_of events places auth = list_any (λ p. is_auth events p auth) places

abbrev pub with_bits : ℕ → Bool → ℕ → ℕ
with_bits bits pass mask = if pass then bit_or mask bits else mask

-- words, and those of the places that pass the test with these bits too
pub record AreMasked (count : ℕ) (test : ℕ → Bool) (bits : ℕ) (before after : List ℕ) : Type 0 where
  pub long : length after ≡ count
  pub each : (place : ℕ) → place < count → slice_index after place ≡ with_bits bits (test place) (slice_index before place)

-- ---- groups of events: the places that each of some things gives

abbrev pub group_in : {X : Type 0} → (X → List ℕ) → Option X → List ℕ
group_in places None = []
group_in places (Some x) = places x

abbrev pub group_of : {X : Type 0} → (X → List ℕ) → List X → ℕ → List ℕ
group_of places xs bit = group_in places (slice_get xs bit)

-- of the first groups, the auth events of each have its bit
pub record AreFirstMasks {X : Type 0} (events : List Stored) (places : X → List ℕ) (xs : List X) (groups : ℕ) (masks : List ℕ) : Type 0 where
  pub long : length masks ≡ length events
  pub each : (bit place : ℕ) → place < length events → has_bit bit (slice_index masks place) ≡ (nat_lt bit groups && is_auth_of events (group_of places xs bit) place)

-- from a place on, what is in the auth chains of a group has its bit
pub record AreChainMasks {X : Type 0} (events : List Stored) (places : X → List ℕ) (xs : List X) (to : ℕ) (masks : List ℕ) : Type 0 where
  pub long : length masks ≡ length events
  pub each : (bit place : ℕ) → to ≤ place → place < length events → has_bit bit (slice_index masks place) ≡ is_in_chains events (group_of places xs bit) place

abbrev pub itself_alone : ℕ → List ℕ
itself_alone place = place ∷ []

-- what of a set is in the auth chains of some events has their bits
pub record AreSetMasks (events : List Stored) (places set masks : List ℕ) : Type 0 where
  pub long : length masks ≡ length events
  pub each : (bit : ℕ) → bit < length places → All (λ other. has_bit bit (slice_index masks other) ≡ is_in_chain events (slice_index places bit) other) set
