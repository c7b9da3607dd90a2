-- States that are followed to those that they were made of: a place is told as one more, and 0 stands for no state.
use Rattle.std.proofs.Common.{◌≡◌, ◌<◌, ◌+◌, ◌-◌, ◌++◌, ◌∷◌, [], ◌⊎◌, inl, inr, ℕ, zero, suc, List, All, Contains, Ordering, Less, Equal, Greater, nat_cmp, get_or, length, refl, sym, ap, subst, ◌∙◌, arith}
use Rattle.std.proofs.lemmas.Cmp.{ranked}
use Rattle.std.proofs.lemmas.List.Elements.{All-contains, Contains-get_or, Contains-push}
use Rattle.std.specs.FinMap as finite
use Rattle.std.specs.BTreeMap.Range.{IsLtBy}
use Rattle.std.specs.BTreeSet.{insert_key}
use Rattle.std.specs.Ordering.{match_ordering}
use Rattle.fed_room_contract.specs.State.{StateMap}
use Rattle.fed_room_contract.specs.Steps.{IsAlikeBut, AreAlikeBut, state_at}
use Rattle.fed_room_contract.specs.ChangeParts.{HasMoreKeys}
use Rattle.fed_room_contract.specs.StepParts.{head_state}

-- ---- members of lists

contains-here : (x : ℕ) (xs : List ℕ) → Contains (x ∷ xs) x
contains-here x xs = (0, omega arith, refl)

contains-later : (y : ℕ) (xs : List ℕ) (x : ℕ) → Contains xs x → Contains (y ∷ xs) x
contains-later y xs x c = let less = c.1 in (suc c.0, omega (arith, less), c.2)

pub contains-cases : (y : ℕ) (xs : List ℕ) (x : ℕ) → Contains (y ∷ xs) x → (y ≡ x) ⊎ Contains xs x
contains-cases y xs x (zero, less, same) = inl same
contains-cases y xs x (suc k, less, same) = inr (k, omega (arith, less), same)

contains-none : (x : ℕ) → Contains [] x → ⊥
contains-none x c = let less = c.1 in omega (arith, less)

pub contains-turned : (xs : List ℕ) (y x : ℕ) → Contains (xs ++ y ∷ []) x → Contains (y ∷ xs) x
contains-turned [] y x c = c
contains-turned (z ∷ xs) y x c = elim (contains-cases z (xs ++ y ∷ []) x c) as (λ _. Contains (y ∷ z ∷ xs) x) [
  | inl same ↦ (1, omega arith, same)
  | inr later ↦ elim (contains-cases y xs x (contains-turned xs y x later)) as (λ _. Contains (y ∷ z ∷ xs) x) [
    | inl same ↦ (0, omega arith, same)
    | inr behind ↦ contains-later y (z ∷ xs) x (contains-later z xs x behind)
  ]
]

-- ---- a number more in an ordered set

pub inserted-keeps : (k x : ℕ) (ks : List ℕ) → Contains ks x → Contains (insert_key nat_cmp ks k) x
inserted-keeps k x [] c = absurd (contains-none x c)
inserted-keeps k x (y ∷ ks) c = by (nat_cmp k y) (inserted-keeps k x ks)
  where
    by : (o : Ordering) → (Contains ks x → Contains (insert_key nat_cmp ks k) x) → Contains (match_ordering o (k ∷ y ∷ ks) (y ∷ ks) (y ∷ insert_key nat_cmp ks k)) x
    by Less rest = contains-later k (y ∷ ks) x c
    by Equal rest = c
    by Greater rest = elim (contains-cases y ks x c) as (λ _. Contains (y ∷ insert_key nat_cmp ks k) x) [
      | inl same ↦ (0, omega arith, same)
      | inr later ↦ contains-later y (insert_key nat_cmp ks k) x (rest later)
    ]

pub inserted-here : (k : ℕ) (ks : List ℕ) → Contains (insert_key nat_cmp ks k) k
inserted-here k [] = contains-here k []
inserted-here k (y ∷ ks) = by (nat_cmp k y) refl (inserted-here k ks)
  where
    by : (o : Ordering) → nat_cmp k y ≡ o → Contains (insert_key nat_cmp ks k) k → Contains (match_ordering o (k ∷ y ∷ ks) (y ∷ ks) (y ∷ insert_key nat_cmp ks k)) k
    by Less e rest = contains-here k (y ∷ ks)
    by Equal e rest = let same : k ≡ y = ranked k y Equal (sym e) in (0, omega arith, sym same)
    by Greater e rest = contains-later y (insert_key nat_cmp ks k) k rest

pub inserted-cases : (k x : ℕ) (ks : List ℕ) → Contains (insert_key nat_cmp ks k) x → (x ≡ k) ⊎ Contains ks x
inserted-cases k x [] c = elim (contains-cases k [] x c) as (λ _. (x ≡ k) ⊎ Contains [] x) [
  | inl same ↦ inl (sym same)
  | inr none ↦ inr none
]
inserted-cases k x (y ∷ ks) c = by (nat_cmp k y) (inserted-cases k x ks) c
  where
    by : (o : Ordering) → (Contains (insert_key nat_cmp ks k) x → (x ≡ k) ⊎ Contains ks x) → Contains (match_ordering o (k ∷ y ∷ ks) (y ∷ ks) (y ∷ insert_key nat_cmp ks k)) x → (x ≡ k) ⊎ Contains (y ∷ ks) x
    by Less rest there = elim (contains-cases k (y ∷ ks) x there) as (λ _. (x ≡ k) ⊎ Contains (y ∷ ks) x) [
      | inl same ↦ inl (sym same)
      | inr later ↦ inr later
    ]
    by Equal rest there = inr there
    by Greater rest there = elim (contains-cases y (insert_key nat_cmp ks k) x there) as (λ _. (x ≡ k) ⊎ Contains (y ∷ ks) x) [
      | inl same ↦ inr (0, omega arith, same)
      | inr later ↦ elim (rest later) as (λ _. (x ≡ k) ⊎ Contains (y ∷ ks) x) [
        | inl same ↦ inl same
        | inr behind ↦ inr (contains-later y ks x behind)
      ]
    ]

pub all-inserted : (P : ℕ → Type 0) (k : ℕ) (ks : List ℕ) → All P ks → P k → All P (insert_key nat_cmp ks k)
all-inserted P k ks all one i d less = by (inserted-cases k (get_or (insert_key nat_cmp ks k) i d) ks (Contains-get_or (insert_key nat_cmp ks k) i d less))
  where
    by : (get_or (insert_key nat_cmp ks k) i d ≡ k) ⊎ Contains ks (get_or (insert_key nat_cmp ks k) i d) → P (get_or (insert_key nat_cmp ks k) i d)
    by (inl same) = subst P (sym same) one
    by (inr there) = All-contains P ks (get_or (insert_key nat_cmp ks k) i d) all there

pub head-is : (states : List StateMap) (head : ℕ) → 0 < head → head_state states head ≡ state_at states (head - 1)
head-is states zero some = absurd (omega arith)
head-is states (suc place) some = let same : place ≡ suc place - 1 = omega arith in ap (state_at states) same

pub head-next : (states : List StateMap) (place : ℕ) → head_state states (place + 1) ≡ state_at states place
head-next states place = let next : place + 1 ≡ suc place = omega arith in ap (head_state states) next

-- ---- followed

-- one of these has what the state has, but for some keys
pub record IsFollowed (states : List StateMap) (keys : StateMap) (heads : List ℕ) (state : StateMap) : Type 0 where
  pub head : ℕ
  pub among : Contains heads head
  pub alike : IsAlikeBut keys (head_state states head) state

-- the latest is followed
pub followed-on : (states : List StateMap) (keys more : StateMap) (latest below next : ℕ) (left rest : List ℕ) (state : StateMap)
    → HasMoreKeys keys more → IsAlikeBut more (head_state states below) (head_state states latest) → insert_key nat_cmp left below ≡ rest ++ next ∷ []
    → IsFollowed states keys (latest ∷ left) state → IsFollowed states more (next ∷ rest) state
followed-on states keys more latest below next left rest state grown alike made f = by (contains-cases latest left f.head f.among)
  where
    moved : (h : ℕ) → Contains (insert_key nat_cmp left below) h → Contains (next ∷ rest) h
    moved h c = contains-turned rest next h (subst (λ (xs : List ℕ). Contains xs h) made c)

    by : (latest ≡ f.head) ⊎ Contains left f.head → IsFollowed states more (next ∷ rest) state
    by (inl same) = record {
      head = below;
      among = moved below (inserted-here below left);
      alike = λ key none. f.alike key (grown key none) ∙ ap (λ h. finite.get (head_state states h) key) (sym same) ∙ alike key none;
    }
    by (inr later) = record {
      head = f.head;
      among = moved f.head (inserted-keeps below f.head left later);
      alike = λ key none. f.alike key (grown key none);
    }

-- all have come to one
pub all-followed : (states : List StateMap) (keys : StateMap) (places : List ℕ) (latest : ℕ) (left : List ℕ) → length left ≡ 0
    → ((place : ℕ) → Contains places place → IsFollowed states keys (latest ∷ left) (state_at states place)) → AreAlikeBut keys states places
all-followed states keys places latest [] none f one other a b key missing =
    let first = f one a in
    let second = f other b in
    second.alike key missing ∙ ap (λ h. finite.get (head_state states h) key) (only second.head second.among) ∙ sym (first.alike key missing ∙ ap (λ h. finite.get (head_state states h) key) (only first.head first.among))
  where
    only : (h : ℕ) → Contains (latest ∷ []) h → h ≡ latest
    only h c = elim (contains-cases latest [] h c) as (λ _. h ≡ latest) [
      | inl same ↦ sym same
      | inr none ↦ absurd (contains-none h none)
    ]
all-followed states keys places latest (x ∷ left) none f one other a b key missing = absurd (omega arith)

-- ---- at the start, and in turn

pub first-followed : (states : List StateMap) (keys : StateMap) (heads : List ℕ) (place : ℕ) → Contains heads (place + 1) → IsFollowed states keys heads (state_at states place)
first-followed states keys heads place there =
    let next : place + 1 ≡ suc place = omega arith in
    record { head = suc place; among = subst (λ (h : ℕ). Contains heads h) next there; alike = λ key none. refl }

pub last-of : (P : ℕ → Type 0) (xs : List ℕ) (x : ℕ) (all : List ℕ) → All P all → all ≡ xs ++ x ∷ [] → P x
last-of P xs x all holds same = All-contains P (xs ++ x ∷ []) x (subst (All P) same holds) (Contains-push xs x)

pub all-less : (xs : List ℕ) (k : ℕ) → All (λ q. IsLtBy nat_cmp q k) xs → All (λ q. q < k) xs
all-less xs k all i d less = ranked (get_or xs i d) k Less (sym (all i d less))
