-- Marks by place, and auth chains, for the clauses of private functions.
use Rattle.std.specs.Prelude.{◌≡◌, ◌≤◌, ◌⊎◌, ℕ, List, Bool, true, false, ◌||◌, ◌==◌, length, slice_index_or}
use Rattle.std.specs.List.{list_any}
use Rattle.fed_room_contract.specs.declared.graph.Stored.{Stored}
use Rattle.fed_resolve.specs.Chain.{auths_at, IsInChain}

abbrev pub is_marked : List Bool → ℕ → Bool
is_marked marks place = slice_index_or marks place false

-- marks, and some places marked too
abbrev pub or_among : List ℕ → List Bool → ℕ → Bool
or_among places marks place = slice_index_or marks place false || list_any (λ p. p == place) places

-- the second is an auth event of the first
abbrev pub is_auth : List Stored → ℕ → ℕ → Bool
is_auth events place auth = list_any (λ a. a == auth) (auths_at events place)

-- marks, and the auth events of some places marked too
abbrev pub or_auths : List Stored → List ℕ → List Bool → ℕ → Bool
or_auths events places marks place = slice_index_or marks place false || list_any (λ p. is_auth events p place) places

-- Marks and what is in the auth chains of what they mark. Of what is marked from a place on, the auth events are marked.
pub record AreClosedFrom (events : List Stored) (from : ℕ) (before after : List Bool) : Type 0 where
  pub long : length after ≡ length events
  pub kept : (p : ℕ) → is_marked before p ≡ true → is_marked after p ≡ true
  pub sound : (q : ℕ) → is_marked after q ≡ true → (is_marked before q ≡ true) ⊎ ((p : ℕ) × ((is_marked before p ≡ true) × IsInChain events p q))
  pub closed : (p auth : ℕ) → from ≤ p → is_marked after p ≡ true → is_auth events p auth ≡ true → is_marked after auth ≡ true
