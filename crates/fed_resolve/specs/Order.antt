-- Events listed one after another: of those that may be listed, each time the one that an order puts first. And the relation that such a list
-- meets (Matrix, room version 2, "State resolution", "Reverse topological power ordering", "Mainline ordering").
use Rattle.std.specs.Prelude.{◌≡◌, ◌≢◌, ℕ, zero, suc, List, [], ◌∷◌, ◌++◌, Bool, true, false, not, ◌==◌, Option, None, Some, length, filter, if◌then◌else◌, AllPairs}
use Rattle.std.specs.List.{list_any}

-- whether one place comes before another one
abbrev pub Before : Type 0
Before = ℕ → ℕ → Bool

abbrev pub earlier_of : Before → ℕ → Option ℕ → ℕ
earlier_of before place None = place
earlier_of before place (Some other) = if before other place then other else place

-- the first of some places
abbrev pub first_of : Before → List ℕ → Option ℕ
first_of before [] = None
first_of before (place ∷ places) = Some (earlier_of before place (first_of before places))

abbrev pub without : ℕ → List ℕ → List ℕ
without place places = filter (λ p. not (p == place)) places

-- whether a place may be listed, once those places are
abbrev pub MayBeListed : Type 0
MayBeListed = List ℕ → ℕ → Bool

-- a place and what comes behind it; nothing, where there is none
abbrev pub and_later : (ℕ → List ℕ) → Option ℕ → List ℕ
and_later later None = []
and_later later (Some place) = place ∷ later place

module _ (may_be_listed : MayBeListed) (before : Before) where
  -- of those left, the first that may be listed, and then the others, in at most so many steps
  abbrev pub listed_from : ℕ → List ℕ → List ℕ → List ℕ
  listed_from zero listed left = []
  listed_from (suc steps) listed left =
      and_later (λ place. listed_from steps (listed ++ place ∷ []) (without place left)) (first_of before (filter (may_be_listed listed) left))

  -- these places in order
  abbrev pub in_order : List ℕ → List ℕ
  in_order places = listed_from (length places) [] places

abbrev pub is_among : List ℕ → ℕ → Bool
is_among places place = list_any (λ p. p == place) places

-- the list has these places, each once, and each may be listed where it stands, and comes first among those that may be listed there and are not listed before it
pub record IsOrder (may_be_listed : MayBeListed) (before : Before) (places list : List ℕ) : Type 0 where
  pub same : (place : ℕ) → is_among list place ≡ is_among places place
  pub once : AllPairs (λ one other. one ≢ other) list
  pub in_turn : (front : List ℕ) (place : ℕ) (back : List ℕ) → list ≡ front ++ place ∷ back → may_be_listed front place ≡ true
  pub first : (front : List ℕ) (place : ℕ) (back : List ℕ) (other : ℕ) → list ≡ front ++ place ∷ back → is_among back other ≡ true
      → may_be_listed front other ≡ true → before other place ≡ false
