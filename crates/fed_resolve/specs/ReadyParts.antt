-- Events that may be listed, and those that wait for others, for the clauses of private functions.
use Rattle.std.specs.Prelude.{Vec, ◌≡◌, ◌<◌, ◌==◌, ◌||◌, ◌⊎◌, ℕ, List, [], Bool, true, false, Some, All, Contains, length, option_map, unwrap_or, slice_get}
use Rattle.std.specs.List.{list_all}
use Rattle.std.specs.declared.alloc.Global.{Global}
use Rattle.fed_resolve.specs.declared.order.Candidate.{Candidate}
use Rattle.fed_resolve.specs.declared.ready.Ready.{Ready}
use Rattle.fed_resolve.specs.declared.ready.ReadySet.{ReadySet}
use Rattle.fed_resolve.specs.ChainParts.{is_marked}
use Rattle.fed_resolve.specs.Order.{is_among}
use Rattle.fed_resolve.specs.OrderParts.{AreListedFronts}

-- it is one of these, by its index, and all that it comes after are listed
pub record IsReady {R : Type 0} (marks : List Bool) (all : List (Candidate R)) (key : Ready R) : Type 0 where
  pub one : Candidate R
  pub here : slice_get all key.index ≡ Some one
  pub rank : key.rank ≡ one.rank
  pub listed : list_all (is_marked marks) one.after.items ≡ true

-- the list at a place
abbrev pub waiting_in : Vec (Vec ℕ Global) Global → ℕ → List ℕ
waiting_in lists place = unwrap_or (option_map (λ indices. indices.items) (slice_get lists.items place)) []

-- the indices of those that wait for the event at a place
abbrev pub waiting_for : {R : Type 0} → ReadySet R → ℕ → List ℕ
waiting_for ready place = waiting_in ready.waiting place

-- it waits for an event that it comes after and that is not listed
pub record IsWaiting {R : Type 0} (marks : List Bool) (ready : ReadySet R) (index : ℕ) (one : Candidate R) : Type 0 where
  pub place : ℕ
  pub after : Contains one.after.items place
  pub unlisted : is_marked marks place ≡ false
  pub waits : Contains (waiting_for ready place) index

-- it is among those that may be listed, or it waits
abbrev pub IsHeld : {R : Type 0} → List Bool → ReadySet R → ℕ → Candidate R → Type 0
IsHeld marks ready index one = Contains ready.first.keys (record { rank = one.rank; index = index }) ⊎ IsWaiting marks ready index one

-- what is known to be listed is, each that may be listed is one of these events, and so is each that waits
pub record AreKept {R : Type 0} (marks : List Bool) (all : List (Candidate R)) (ready : ReadySet R) : Type 0 where
  pub fronts : AreListedFronts marks all ready.fronts.items
  pub long : length ready.waiting.items ≡ length marks
  pub waiting : (place : ℕ) → All (λ index. index < length all) (waiting_for ready place)
  pub first : All (IsReady marks all) ready.first.keys

-- each of these events that is not listed may be listed or waits, but for those that are left out
abbrev pub AreHeld : {R : Type 0} → (ℕ → Bool) → List Bool → List (Candidate R) → ReadySet R → Type 0
AreHeld {R} is_left marks all ready =
    (index : ℕ) (one : Candidate R) → slice_get all index ≡ Some one → is_left index ≡ false → is_marked marks one.place ≡ false → IsHeld marks ready index one

pub record IsReadySet {R : Type 0} (is_left : ℕ → Bool) (marks : List Bool) (all : List (Candidate R)) (ready : ReadySet R) : Type 0 where
  pub kept : AreKept marks all ready
  pub held : AreHeld is_left marks all ready

-- none is left out
abbrev pub none_left : ℕ → Bool
none_left index = false

-- those at a place are left out
abbrev pub is_left_at : {R : Type 0} → List (Candidate R) → ℕ → ℕ → Bool
is_left_at all place index = unwrap_or (option_map (λ one. one.place == place) (slice_get all index)) false

-- those that wait for the event at a place are
abbrev pub is_left_waiting : {R : Type 0} → ReadySet R → ℕ → ℕ → Bool
is_left_waiting ready place = is_among (waiting_for ready place)

-- one more is
abbrev pub or_left : ℕ → (ℕ → Bool) → ℕ → Bool
or_left index is_left other = (index == other) || is_left other
