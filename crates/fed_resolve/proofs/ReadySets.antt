-- The set of those that may be listed.
use Rattle.std.proofs.Common.{Vec, Global, ◌≡◌, true≢false, ◌<◌, ◌++◌, ◌∷◌, [], ◌⊎◌, inl, inr, ◌&&◌, ◌||◌, ℕ, zero, suc, List, Bool, true, false, not, cond, eqb, Option, None, Some, All, Contains, length, filter, set, replicate, get_or, option_map, unwrap_or, refl, sym, ap, subst, ◌∙◌, arith}
use Rattle.std.proofs.lemmas.Bool.{and_parts, cases_eq, eq-eqb, ne_eqb, or_left as or-first, or_right}
use Rattle.std.proofs.lemmas.Cmp.{ranked}
use Rattle.std.proofs.lemmas.List.{length-set, length-replicate}
use Rattle.std.proofs.lemmas.List.Elements.{All-contains, All-push, Contains-append_left, Contains-push}
use Rattle.std.proofs.lemmas.List.Sums.{AllPass-from_list_all}
use Rattle.std.proofs.lemmas.Option.{slice_get_read, slice_get_within, get_or_from_slice_get}
use Rattle.std.specs.BTreeMap.Range.{IsLtBy}
use Rattle.std.specs.Cmp.{IsTotalOrder}
use Rattle.std.specs.List.{list_all, slice_get}
use Rattle.std.specs.Ordering.{is_lt, match_ordering, MatchOrdering, ordering_reverse, ordering_then, nat_cmp}
use Rattle.std.specs.BTreeSet.{BTreeSet, insert_key}
use Rattle.std.specs.declared.cmp.Ordering.{Ordering}
use Rattle.std.specs.declared.cmp.Ordering.TheVariants.{Less, Equal, Greater}
use Rattle.fed_resolve.specs.declared.order.Candidate.{Candidate}
use Rattle.fed_resolve.specs.declared.ready.Ready.{Ready}
use Rattle.fed_resolve.specs.declared.ready.ReadySet.{ReadySet}
use Rattle.fed_resolve.specs.ChainParts.{is_marked}
use Rattle.fed_resolve.specs.Order.{is_among}
use Rattle.fed_resolve.specs.OrderParts.{IsListedFront, AreListedFronts, candidate_place, may_follow, earlier_candidate, first_candidate, next_place}
use Rattle.fed_resolve.specs.ReadyParts.{IsReady, IsHeld, AreKept, AreHeld, IsReadySet, waiting_in, waiting_for, none_left, is_left_at, is_left_waiting, or_left}
use Rattle.fed_resolve.proofs.Marks.{one_set}
use Rattle.fed_resolve.proofs.Orders.{all-more, eqb-turned, fronts-more}

-- ---- members of a list

pub contains-here : {X : Type 0} (x : X) (xs : List X) → Contains (x ∷ xs) x
contains-here x xs = (0, omega arith, refl)

pub contains-later : {X : Type 0} (y : X) (xs : List X) (x : X) → Contains xs x → Contains (y ∷ xs) x
contains-later y xs x c = let less = c.1 in (suc c.0, omega (arith, less), c.2)

pub contains-cases : {X : Type 0} (y : X) (xs : List X) (x : X) → Contains (y ∷ xs) x → (y ≡ x) ⊎ Contains xs x
contains-cases y xs x (zero, less, same) = inl same
contains-cases y xs x (suc k, less, same) = inr (k, omega (arith, less), same)

pub contains-none : {X : Type 0} (x : X) → Contains [] x → ⊥
contains-none x c = let less = c.1 in omega (arith, less)

-- ---- a key more in an ordered set

pub inserted-keeps : {K : Type 0} (cmp : K → K → Ordering) (k x : K) (ks : List K) → Contains ks x → Contains (insert_key cmp ks k) x
inserted-keeps cmp k x [] c = absurd (contains-none x c)
inserted-keeps {K} cmp k x (y ∷ ks) c = by (cmp k y) (inserted-keeps cmp k x ks)
  where
    by : (o : Ordering) → (Contains ks x → Contains (insert_key cmp ks k) x) → Contains (match_ordering o (k ∷ y ∷ ks) (y ∷ ks) (y ∷ insert_key cmp ks k)) x
    by Less rest = contains-later k (y ∷ ks) x c
    by Equal rest = c
    by Greater rest = elim (contains-cases y ks x c) as (λ _. Contains (y ∷ insert_key cmp ks k) x) [
      | inl same ↦ (0, omega arith, same)
      | inr later ↦ contains-later y (insert_key cmp ks k) x (rest later)
    ]

pub inserted-here : {K : Type 0} (cmp : K → K → Ordering) (k : K) (ks : List K) → ((e : K) → Contains ks e → cmp k e ≡ Equal → e ≡ k) → Contains (insert_key cmp ks k) k
inserted-here cmp k [] same = contains-here k []
inserted-here {K} cmp k (y ∷ ks) same = by (cmp k y) refl (inserted-here cmp k ks (λ other c. same other (contains-later y ks other c)))
  where
    by : (o : Ordering) → cmp k y ≡ o → Contains (insert_key cmp ks k) k → Contains (match_ordering o (k ∷ y ∷ ks) (y ∷ ks) (y ∷ insert_key cmp ks k)) k
    by Less e rest = contains-here k (y ∷ ks)
    by Equal e rest = (0, omega arith, same y (contains-here y ks) e)
    by Greater e rest = contains-later y (insert_key cmp ks k) k rest

-- ---- the first candidate

-- by rank, and of equal ranks by index
abbrev Precedes : {R : Type 0} → (R → R → Ordering) → R → ℕ → R → ℕ → Type 0
Precedes cmp rank i other j = (cmp rank other ≡ Less) ⊎ ((cmp rank other ≡ Equal) × (i < j))

module _ {R : Type 0} (cmp : R → R → Ordering) (total : IsTotalOrder cmp) (test : Candidate R → Bool) where
  chosen-in : (x : Candidate R) (o : Option (Candidate R)) (d : Candidate R) → Some (earlier_candidate cmp x o) ≡ Some d → (x ≡ d) ⊎ (o ≡ Some d)
  chosen-in x None d e = inl (cc)
  chosen-in x (Some c) d e = by (is_lt (cmp c.rank x.rank)) e
    where
      by : (b : Bool) → Some (cond b c x) ≡ Some d → (x ≡ d) ⊎ (Some c ≡ Some d)
      by true same = inr same
      by false same = inl (cc)

  found-in : (xs : List (Candidate R)) (d : Candidate R) → first_candidate cmp (filter test xs) ≡ Some d → (j : ℕ) × (slice_get xs j ≡ Some d) × (test d ≡ true)
  found-in [] d e = absurd (cc)
  found-in (x ∷ xs) d e = by (test x) refl e (λ first. let rest = found-in xs d first in (suc rest.0, rest.1, rest.2))
    where
      Found : Type 0
      Found = (j : ℕ) × (slice_get (x ∷ xs) j ≡ Some d) × (test d ≡ true)

      by : (b : Bool) → test x ≡ b → first_candidate cmp (cond b (x ∷ filter test xs) (filter test xs)) ≡ Some d → (first_candidate cmp (filter test xs) ≡ Some d → Found) → Found
      by false t first later = later first
      by true t first later = elim (chosen-in x (first_candidate cmp (filter test xs)) d first) as (λ _. Found) [
        | inl same ↦ (0, ap Some same, ap test (sym same) ∙ t)
        | inr behind ↦ later behind
      ]

  turned : (one other : R) → (cmp one other ≡ Less) ⊎ (cmp one other ≡ Equal) → is_lt (cmp other one) ≡ false
  turned one other (inl e) = ap is_lt (total.antisymm other one ∙ ap ordering_reverse e)
  turned one other (inr e) = ap is_lt (total.antisymm other one ∙ ap ordering_reverse e)

  pub first-found : (xs : List (Candidate R)) (i : ℕ) (one : Candidate R) → slice_get xs i ≡ Some one → test one ≡ true
      → ((j : ℕ) (other : Candidate R) → slice_get xs j ≡ Some other → test other ≡ true → (j ≡ i) ⊎ Precedes cmp one.rank i other.rank j)
      → first_candidate cmp (filter test xs) ≡ Some one
  first-found [] i one e t before = absurd (cc)
  first-found (x ∷ xs) zero one e t before =
      let same : x ≡ one = cc in
      ap (λ b. first_candidate cmp (cond b (x ∷ filter test xs) (filter test xs))) (ap test same ∙ t)
      ∙ ap Some (ap (λ c. earlier_candidate cmp c (first_candidate cmp (filter test xs))) same ∙ stays (first_candidate cmp (filter test xs)) refl)
    where
      stays : (o : Option (Candidate R)) → first_candidate cmp (filter test xs) ≡ o → earlier_candidate cmp one o ≡ one
      stays None first = refl
      stays (Some d) first =
          let there = found-in xs d first in
          let late : is_lt (cmp d.rank one.rank) ≡ false = elim (before (suc there.0) d there.1 there.2) as (λ _. is_lt (cmp d.rank one.rank) ≡ false) [
            | inl same ↦ absurd (omega (arith, same))
            | inr (inl less) ↦ turned one.rank d.rank (inl less)
            | inr (inr equal) ↦ turned one.rank d.rank (inr equal.0)
          ] in
          ap (λ b. cond b d one) late
  first-found (x ∷ xs) (suc i) one e t before = by (test x) refl (first-found xs i one e t (λ j other there passes. shifted j other (before (suc j) other there passes)))
    where
      shifted : (j : ℕ) (other : Candidate R) → (suc j ≡ suc i) ⊎ Precedes cmp one.rank (suc i) other.rank (suc j) → (j ≡ i) ⊎ Precedes cmp one.rank i other.rank j
      shifted j other (inl same) = inl (omega (arith, same))
      shifted j other (inr (inl less)) = inr (inl less)
      shifted j other (inr (inr equal)) = let less = equal.1 in inr (inr (equal.0, omega (arith, less)))

      by : (b : Bool) → test x ≡ b → first_candidate cmp (filter test xs) ≡ Some one → first_candidate cmp (cond b (x ∷ filter test xs) (filter test xs)) ≡ Some one
      by false h rest = rest
      by true h rest =
          let early : is_lt (cmp one.rank x.rank) ≡ true = elim (before 0 x refl h) as (λ _. is_lt (cmp one.rank x.rank) ≡ true) [
            | inl same ↦ absurd (omega (arith, same))
            | inr (inl less) ↦ ap is_lt less
            | inr (inr equal) ↦ let less = equal.1 in absurd (omega (arith, less))
          ] in
          ap (λ o. Some (earlier_candidate cmp x o)) rest ∙ ap (λ b. Some (cond b one x)) early

  pub none-found : (xs : List (Candidate R)) → ((j : ℕ) (other : Candidate R) → slice_get xs j ≡ Some other → test other ≡ false) → first_candidate cmp (filter test xs) ≡ None
  none-found [] fails = refl
  none-found (x ∷ xs) fails =
      ap (λ b. first_candidate cmp (cond b (x ∷ filter test xs) (filter test xs))) (fails 0 x refl) ∙ none-found xs (λ j other there. fails (suc j) other there)

-- ---- the first key

marked-all : (marks : List Bool) (places : List ℕ) (place : ℕ) → list_all (is_marked marks) places ≡ true → Contains places place → is_marked marks place ≡ true
marked-all marks places place h c = All-contains (λ p. is_marked marks p ≡ true) places place (AllPass-from_list_all (is_marked marks) places h) c

not-marked : (b : Bool) → not b ≡ true → b ≡ false
not-marked true h = absurd (true≢false (sym h))
not-marked false h = refl

module _ {R : Type 0} (marks : List Bool) (all : List (Candidate R)) where
  abbrev follows : Candidate R → Bool
  follows = may_follow (is_marked marks)

  -- what is not left out and may follow has a key
  key-of : (is_left : ℕ → Bool) (ready : ReadySet R) → IsReadySet is_left marks all ready → (index : ℕ) (one : Candidate R) → slice_get all index ≡ Some one → is_left index ≡ false → follows one ≡ true
      → Contains ready.first.keys (record { rank = one.rank; index = index })
  key-of is_left ready is index one here kept follow =
      let parts = and_parts (not (is_marked marks one.place)) (list_all (is_marked marks) one.after.items) follow in
      elim (is.held index one here kept (not-marked (is_marked marks one.place) parts.0)) as (λ _. Contains ready.first.keys (record { rank = one.rank; index = index })) [
        | inl found ↦ found
        | inr waits ↦ absurd (true≢false (sym (marked-all marks one.after.items waits.place parts.1 waits.after) ∙ waits.unlisted))
      ]

  -- where no key is left, nothing may follow
  pub none-ready : (cmp : R → R → Ordering) → IsTotalOrder cmp → (ready : ReadySet R) → IsReadySet none_left marks all ready → ready.first.keys ≡ [] → next_place cmp (is_marked marks) all ≡ None
  none-ready cmp total ready is none = ap (option_map candidate_place) (none-found cmp total follows all (λ j other there. fails j other there (follows other) refl))
    where
      fails : (j : ℕ) (other : Candidate R) → slice_get all j ≡ Some other → (b : Bool) → follows other ≡ b → follows other ≡ false
      fails j other there false e = e
      fails j other there true e =
          absurd (contains-none (record { rank = other.rank; index = j }) (subst (λ (keys : List (Ready R)). Contains keys (record { rank = other.rank; index = j })) none (key-of none_left ready is j other there refl e)))

  pub popped-key : (ready : ReadySet R) (key : Ready R) (later : List (Ready R)) → All (IsReady marks all) ready.first.keys → ready.first.keys ≡ key ∷ later → IsReady marks all key
  popped-key ready key later are keys = All-contains (IsReady marks all) (key ∷ later) key (subst (All (IsReady marks all)) keys are) (contains-here key later)

  -- without the first key, all but it are as they were
  pub popped : (is_left : ℕ → Bool) (ready new : ReadySet R) (key : Ready R) → IsReadySet none_left marks all ready → ready.first.keys ≡ key ∷ new.first.keys → new.waiting ≡ ready.waiting → new.fronts ≡ ready.fronts
      → ((one : Candidate R) → slice_get all key.index ≡ Some one → (is_left key.index ≡ true) ⊎ (is_marked marks one.place ≡ true)) → IsReadySet is_left marks all new
  popped is_left ready new key is keys waiting fronts away = record {
    kept = record {
      fronts = subst (λ (v : Vec ℕ Global). AreListedFronts marks all v.items) (sym fronts) is.kept.fronts;
      long = ap (λ (v : Vec (Vec ℕ Global) Global). length v.items) waiting ∙ is.kept.long;
      waiting = λ place. subst (λ (v : Vec (Vec ℕ Global) Global). All (λ index. index < length all) (waiting_in v place)) (sym waiting) (is.kept.waiting place);
      first = λ k d less. (subst (All (IsReady marks all)) keys is.kept.first) (suc k) d (omega (arith, less));
    };
    held = λ index one here kept unmarked. held index one here kept unmarked (is.held index one here refl unmarked);
  }
    where
      held : (index : ℕ) (one : Candidate R) → slice_get all index ≡ Some one → is_left index ≡ false → is_marked marks one.place ≡ false → IsHeld marks ready index one → IsHeld marks new index one
      held index one here kept unmarked (inr waits) =
          inr (record { place = waits.place; after = waits.after; unlisted = waits.unlisted; waits = subst (λ (v : Vec (Vec ℕ Global) Global). Contains (waiting_in v waits.place) index) (sym waiting) waits.waits })
      held index one here kept unmarked (inl found) =
          elim (contains-cases key new.first.keys (record { rank = one.rank; index = index }) (subst (λ (ks : List (Ready R)). Contains ks (record { rank = one.rank; index = index })) keys found)) as (λ _. IsHeld marks new index one) [
            | inl same ↦
                let at : key.index ≡ index = ap (λ (k : Ready R). k.index) same in
                elim (away one (ap (slice_get all) at ∙ here)) as (λ _. IsHeld marks new index one) [
                  | inl left ↦ absurd (true≢false (sym left ∙ ap is_left at ∙ kept))
                  | inr listed ↦ absurd (true≢false (sym listed ∙ unmarked))
                ]
            | inr later ↦ inl later
          ]

  module _ (cmp : R → R → Ordering) (total : IsTotalOrder cmp) (key_cmp : Ready R → Ready R → Ordering) (keyed : (one other : Ready R) → key_cmp one other ≡ ordering_then (cmp one.rank other.rank) (nat_cmp one.index other.index)) where
    precedes : (rank other : R) (i j : ℕ) → ordering_then (cmp rank other) (nat_cmp i j) ≡ Less → Precedes cmp rank i other j
    precedes rank other i j less = by (cmp rank other) refl less
      where
        by : (o : Ordering) → cmp rank other ≡ o → ordering_then o (nat_cmp i j) ≡ Less → Precedes cmp rank i other j
        by Less e h = inl e
        by Equal e h = inr (e, subst (λ (o : Ordering). MatchOrdering o (i < j) (i ≡ j) (j < i)) h (ranked i j (nat_cmp i j) refl))
        by Greater e h = absurd (cc)

    -- the first key is the first that may follow
    pub first-ready : (ready : ReadySet R) (key : Ready R) (later : List (Ready R)) (one : Candidate R) → IsReadySet none_left marks all ready → ready.first.keys ≡ key ∷ later → All (IsLtBy key_cmp key) later
        → slice_get all key.index ≡ Some one → is_marked marks one.place ≡ false → next_place cmp (is_marked marks) all ≡ Some one.place
    first-ready ready key later one is keys least here unmarked =
        let its = popped-key ready key later is.kept.first keys in
        let same : its.one ≡ one = let both = sym its.here ∙ here in cc in
        let rank : key.rank ≡ one.rank = its.rank ∙ ap (λ (c : Candidate R). c.rank) same in
        let follow : follows one ≡ true = ap (λ b. not b && list_all (is_marked marks) one.after.items) unmarked ∙ ap (λ (c : Candidate R). list_all (is_marked marks) c.after.items) (sym same) ∙ its.listed in
        ap (option_map candidate_place) (first-found cmp total follows all key.index one here follow (before rank))
      where
        before : key.rank ≡ one.rank → (j : ℕ) (other : Candidate R) → slice_get all j ≡ Some other → follows other ≡ true → (j ≡ key.index) ⊎ Precedes cmp one.rank key.index other.rank j
        before rank j other there follow =
            elim (contains-cases key later (record { rank = other.rank; index = j }) (subst (λ (ks : List (Ready R)). Contains ks (record { rank = other.rank; index = j })) keys (key-of none_left ready is j other there refl follow))) as (λ _. (j ≡ key.index) ⊎ Precedes cmp one.rank key.index other.rank j) [
              | inl same ↦ inl (sym (ap (λ (k : Ready R). k.index) same))
              | inr found ↦
                  inr (subst (λ (r : R). Precedes cmp r key.index other.rank j) rank
                  (precedes key.rank other.rank key.index j (sym (keyed key (record { rank = other.rank; index = j })) ∙ All-contains (IsLtBy key_cmp key) later (record { rank = other.rank; index = j }) least found)))
            ]

-- ---- one event more is held

pub list-at : (lists : Vec (Vec ℕ Global) Global) (place : ℕ) (list : Vec ℕ Global) → place < length lists.items → list ≡ get_or lists.items place list → waiting_in lists place ≡ list.items
list-at lists place list within is = ap (λ (o : Option (Vec ℕ Global)). unwrap_or (option_map (λ (v : Vec ℕ Global). v.items) o) []) (slice_get_read lists.items (length lists.items) place list refl within is)

get-set-here : {X : Type 0} (xs : List X) (i : ℕ) (x : X) → i < length xs → slice_get (set xs i x) i ≡ Some x
get-set-here [] i x less = absurd (omega (arith, less))
get-set-here (y ∷ xs) zero x less = refl
get-set-here (y ∷ xs) (suc i) x less = get-set-here xs i x (omega (arith, less))

get-set-other : {X : Type 0} (xs : List X) (i j : ℕ) (x : X) → (j ≡ i → ⊥) → slice_get (set xs i x) j ≡ slice_get xs j
get-set-other [] i j x other = refl
get-set-other (y ∷ xs) zero zero x other = absurd (other refl)
get-set-other (y ∷ xs) zero (suc j) x other = refl
get-set-other (y ∷ xs) (suc i) zero x other = refl
get-set-other (y ∷ xs) (suc i) (suc j) x other = get-set-other xs i j x (λ e. other (ap suc e))

module _ (lists new : Vec (Vec ℕ Global) Global) (place : ℕ) (list : Vec ℕ Global) (written : new.items ≡ set lists.items place list) where
  pub waiting-here : place < length lists.items → waiting_in new place ≡ list.items
  waiting-here less = ap (λ ls. list_of (slice_get ls place)) written ∙ ap list_of (get-set-here lists.items place list less)
    where
      list_of : Option (Vec ℕ Global) → List ℕ
      list_of o = unwrap_or (option_map (λ (v : Vec ℕ Global). v.items) o) []

  pub waiting-other : (p : ℕ) → (p ≡ place → ⊥) → waiting_in new p ≡ waiting_in lists p
  waiting-other p other = ap (λ ls. list_of (slice_get ls p)) written ∙ ap list_of (get-set-other lists.items place p list other)
    where
      list_of : Option (Vec ℕ Global) → List ℕ
      list_of o = unwrap_or (option_map (λ (v : Vec ℕ Global). v.items) o) []

  pub waiting-below : (index count : ℕ) → place < length lists.items → list.items ≡ waiting_in lists place ++ index ∷ [] → ((p : ℕ) → All (λ i. i < count) (waiting_in lists p)) → index < count → (p : ℕ) → All (λ i. i < count) (waiting_in new p)
  waiting-below index count within grown below less p = by (cases_eq p place)
    where
      by : (p ≡ place) ⊎ (p ≡ place → ⊥) → All (λ i. i < count) (waiting_in new p)
      by (inl e) =
          subst (λ q. All (λ i. i < count) (waiting_in new q)) (sym e)
          (subst (All (λ i. i < count)) (sym (waiting-here within ∙ grown)) (All-push (λ i. i < count) (waiting_in lists place) index (below place) less))
      by (inr apart) = subst (All (λ i. i < count)) (sym (waiting-other p apart)) (below p)

module _ {R : Type 0} (marks : List Bool) (all : List (Candidate R)) (ready new : ReadySet R) (index : ℕ) (one : Candidate R) (there : slice_get all index ≡ Some one) where
  same-one : (j : ℕ) (other : Candidate R) → slice_get all j ≡ Some other → j ≡ index → other ≡ one
  same-one j other here e = let both = sym here ∙ ap (slice_get all) e ∙ there in cc

  held-before : (is_left : ℕ → Bool) → AreHeld (or_left index is_left) marks all ready → (j : ℕ) (other : Candidate R) → slice_get all j ≡ Some other → is_left j ≡ false → is_marked marks other.place ≡ false → (j ≡ index → ⊥)
      → IsHeld marks ready j other
  held-before is_left held j other here kept unmarked apart = held j other here (ap (λ b. b || is_left j) (ne_eqb index j (λ e. apart (sym e))) ∙ kept) unmarked

  -- by a key
  module _ (cmp : R → R → Ordering) (key_cmp : Ready R → Ready R → Ordering) (keyed : (a b : Ready R) → key_cmp a b ≡ ordering_then (cmp a.rank b.rank) (nat_cmp a.index b.index))
      (keys : new.first.keys ≡ insert_key key_cmp ready.first.keys (record { rank = one.rank; index = index })) (waiting : new.waiting ≡ ready.waiting) where
    equal-index : (o : Ordering) (i j : ℕ) → ordering_then o (nat_cmp i j) ≡ Equal → i ≡ j
    equal-index Less i j e = absurd (cc)
    equal-index Equal i j e = subst (λ (o : Ordering). MatchOrdering o (i < j) (i ≡ j) (j < i)) e (ranked i j (nat_cmp i j) refl)
    equal-index Greater i j e = absurd (cc)

    its-key : AreKept marks all ready → Contains new.first.keys (record { rank = one.rank; index = index })
    its-key are = subst (λ (ks : List (Ready R)). Contains ks (record { rank = one.rank; index = index })) (sym keys) (inserted-here key_cmp (record { rank = one.rank; index = index }) ready.first.keys same)
      where
        same : (e : Ready R) → Contains ready.first.keys e → key_cmp (record { rank = one.rank; index = index }) e ≡ Equal → e ≡ record { rank = one.rank; index = index }
        same e c equal =
            let at : index ≡ e.index = equal-index (cmp one.rank e.rank) index e.index (sym (keyed (record { rank = one.rank; index = index }) e) ∙ equal) in
            let its = All-contains (IsReady marks all) ready.first.keys e are.first c in
            let rank : e.rank ≡ one.rank = its.rank ∙ ap (λ (x : Candidate R). x.rank) (same-one e.index its.one its.here (sym at)) in
            λ i. record { rank = rank i; index = sym at i }

    pub held-by-key : AreKept marks all ready → (is_left : ℕ → Bool) → AreHeld (or_left index is_left) marks all ready → AreHeld is_left marks all new
    held-by-key are is_left held j other here kept unmarked = by (cases_eq j index)
      where
        moved : IsHeld marks ready j other → IsHeld marks new j other
        moved (inl found) = inl (subst (λ (ks : List (Ready R)). Contains ks (record { rank = other.rank; index = j })) (sym keys) (inserted-keeps key_cmp (record { rank = one.rank; index = index }) (record { rank = other.rank; index = j }) ready.first.keys found))
        moved (inr waits) = inr (record { place = waits.place; after = waits.after; unlisted = waits.unlisted; waits = subst (λ (v : Vec (Vec ℕ Global) Global). Contains (waiting_in v waits.place) j) (sym waiting) waits.waits })

        by : (j ≡ index) ⊎ (j ≡ index → ⊥) → IsHeld marks new j other
        by (inl e) =
            let rank : one.rank ≡ other.rank = ap (λ (x : Candidate R). x.rank) (sym (same-one j other here e)) in
            inl (subst (λ (k : Ready R). Contains new.first.keys k) (λ i. record { rank = rank i; index = sym e i }) (its-key are))
        by (inr apart) = moved (held-before is_left held j other here kept unmarked apart)

  -- by what it waits for
  module _ (place : ℕ) (list : Vec ℕ Global) (first : new.first ≡ ready.first) (written : new.waiting.items ≡ set ready.waiting.items place list) (grown : list.items ≡ waiting_in ready.waiting place ++ index ∷ []) (within : place < length ready.waiting.items) where
    at-place : waiting_in new.waiting place ≡ waiting_in ready.waiting place ++ index ∷ []
    at-place = waiting-here ready.waiting new.waiting place list written within ∙ grown

    pub held-by-place : Contains one.after.items place → is_marked marks place ≡ false → (is_left : ℕ → Bool) → AreHeld (or_left index is_left) marks all ready → AreHeld is_left marks all new
    held-by-place after unlisted is_left held j other here kept unmarked = by (cases_eq j index)
      where
        still : (p : ℕ) → Contains (waiting_in ready.waiting p) j → (p ≡ place) ⊎ (p ≡ place → ⊥) → Contains (waiting_in new.waiting p) j
        still p c (inl e) =
            subst (λ q. Contains (waiting_in new.waiting q) j) (sym e)
            (subst (λ (is : List ℕ). Contains is j) (sym at-place) (Contains-append_left (waiting_in ready.waiting place) (index ∷ []) j (subst (λ q. Contains (waiting_in ready.waiting q) j) e c)))
        still p c (inr apart) = subst (λ (is : List ℕ). Contains is j) (sym (waiting-other ready.waiting new.waiting place list written p apart)) c

        moved : IsHeld marks ready j other → IsHeld marks new j other
        moved (inl found) = inl (subst (λ (s : BTreeSet (Ready R)). Contains s.keys (record { rank = other.rank; index = j })) (sym first) found)
        moved (inr waits) = inr (record { place = waits.place; after = waits.after; unlisted = waits.unlisted; waits = still waits.place waits.waits (cases_eq waits.place place) })

        by : (j ≡ index) ⊎ (j ≡ index → ⊥) → IsHeld marks new j other
        by (inl e) =
            inr (record {
              place = place;
              after = subst (λ (x : Candidate R). Contains x.after.items place) (sym (same-one j other here e)) after;
              unlisted = unlisted;
              waits = subst (λ i. Contains (waiting_in new.waiting place) i) (sym e) (subst (λ (is : List ℕ). Contains is index) (sym at-place) (Contains-push (waiting_in ready.waiting place) index));
            })
        by (inr apart) = moved (held-before is_left held j other here kept unmarked apart)

-- ---- those that wait for one that is listed are left out

module _ {R : Type 0} (marks : List Bool) (all : List (Candidate R)) (ready new : ReadySet R) (place : ℕ) (list : Vec ℕ Global) (within : place < length ready.waiting.items) (none : list.items ≡ []) (first : new.first ≡ ready.first) (written : new.waiting.items ≡ set ready.waiting.items place list) (fronts : new.fronts ≡ ready.fronts) where
  below-none : (count : ℕ) (is : List ℕ) → is ≡ [] → All (λ i. i < count) is
  below-none count is e = subst (All (λ i. i < count)) (sym e) (λ k d less. absurd (omega (arith, less)))

  pub woken : is_marked marks place ≡ true → IsReadySet (is_left_waiting ready place) marks all ready → IsReadySet (is_left_waiting ready place) marks all new
  woken listed is = record {
    kept = record {
      fronts = subst (λ (v : Vec ℕ Global). AreListedFronts marks all v.items) (sym fronts) is.kept.fronts;
      long = ap length written ∙ length-set ready.waiting.items place list ∙ is.kept.long;
      waiting = λ p. below p (cases_eq p place);
      first = subst (λ (s : BTreeSet (Ready R)). All (IsReady marks all) s.keys) (sym first) is.kept.first;
    };
    held = λ index one here kept unmarked. moved index one (is.held index one here kept unmarked);
  }
    where
      below : (p : ℕ) → (p ≡ place) ⊎ (p ≡ place → ⊥) → All (λ i. i < length all) (waiting_in new.waiting p)
      below p (inl e) = below-none (length all) (waiting_in new.waiting p) (ap (waiting_in new.waiting) e ∙ waiting-here ready.waiting new.waiting place list written within ∙ none)
      below p (inr apart) = subst (All (λ i. i < length all)) (sym (waiting-other ready.waiting new.waiting place list written p apart)) (is.kept.waiting p)

      moved : (index : ℕ) (one : Candidate R) → IsHeld marks ready index one → IsHeld marks new index one
      moved index one (inl found) = inl (subst (λ (s : BTreeSet (Ready R)). Contains s.keys (record { rank = one.rank; index = index })) (sym first) found)
      moved index one (inr waits) =
          inr (record {
            place = waits.place;
            after = waits.after;
            unlisted = waits.unlisted;
            waits = subst (λ (is : List ℕ). Contains is index) (sym (waiting-other ready.waiting new.waiting place list written waits.place (λ e. true≢false (sym listed ∙ ap (is_marked marks) (sym e) ∙ waits.unlisted)))) waits.waits;
          })

-- ---- at the beginning

zeros : (n i : ℕ) → ◌≡◌ {A = ℕ} (get_or (replicate n 0) i 0) 0
zeros zero i = refl
zeros (suc n) zero = refl
zeros (suc n) (suc i) = zeros n i

nothing-in : (lists : Vec (Vec ℕ Global) Global) → All (λ (v : Vec ℕ Global). v.items ≡ []) lists.items → (place : ℕ) → waiting_in lists place ≡ []
nothing-in lists empty place = by (slice_get lists.items place) refl
  where
    by : (o : Option (Vec ℕ Global)) → slice_get lists.items place ≡ o → unwrap_or (option_map (λ (v : Vec ℕ Global). v.items) o) [] ≡ []
    by None e = refl
    by (Some v) e = ap (λ (w : Vec ℕ Global). w.items) (sym (get_or_from_slice_get lists.items place v v e)) ∙ empty place v (slice_get_within lists.items place v e)

pub begun : {R : Type 0} (marks : List Bool) (all : List (Candidate R)) (ready : ReadySet R) → ready.first.keys ≡ [] → length ready.waiting.items ≡ length marks → All (λ (v : Vec ℕ Global). v.items ≡ []) ready.waiting.items
    → ready.fronts.items ≡ replicate (length all) 0 → AreKept marks all ready
begun {R} marks all ready first long empty fronts = record {
  fronts = record {
    long = ap length fronts ∙ length-replicate (length all) 0;
    each = λ index d less. subst (IsListedFront marks (get_or all index d).after.items) (sym (ap (λ fs. get_or fs index 0) fronts ∙ zeros (length all) index)) (record { within = omega arith; marked = refl });
  };
  long = long;
  waiting = λ place. subst (All (λ i. i < length all)) (sym (nothing-in ready.waiting empty place)) (λ k d less. absurd (omega (arith, less)));
  first = subst (All (IsReady marks all)) (sym first) (λ k d less. absurd (omega (arith, less)));
}

-- ---- one place more is listed

among-of : (places : List ℕ) (place : ℕ) → Contains places place → is_among places place ≡ true
among-of [] place c = absurd (contains-none place c)
among-of (p ∷ ps) place c = elim (contains-cases p ps place c) as (λ _. (eqb p place || is_among ps place) ≡ true) [
  | inl same ↦ or-first (eqb p place) (is_among ps place) (eq-eqb p place same)
  | inr later ↦ or_right (eqb p place) (is_among ps place) (among-of ps place later)
]

module _ {R : Type 0} (marks : List Bool) (all : List (Candidate R)) (ready : ReadySet R) (place : ℕ) (below : place < length marks) where
  unmarked-before : (q : ℕ) → is_marked (set marks place true) q ≡ false → (eqb place q ≡ false) × (is_marked marks q ≡ false)
  unmarked-before q e = parts (eqb place q) (is_marked marks q) (sym (one_set marks place q below) ∙ e)
    where
      parts : (a b : Bool) → (a || b) ≡ false → (a ≡ false) × (b ≡ false)
      parts true b e = absurd (true≢false e)
      parts false b e = (refl, e)

  -- those that stand at the place need not be held, and those that wait for it have to be looked at
  pub listed-more : IsReadySet (is_left_at all place) marks all ready → IsReadySet (is_left_waiting ready place) (set marks place true) all ready
  listed-more is = record {
    kept = record {
      fronts = fronts-more marks place all ready.fronts.items below is.kept.fronts;
      long = is.kept.long ∙ sym (length-set marks place true);
      waiting = is.kept.waiting;
      first = λ k d less. let key = is.kept.first k d less in record { one = key.one; here = key.here; rank = key.rank; listed = all-more marks place below key.one.after.items key.listed };
    };
    held = λ index one here kept unmarked.
        let before = unmarked-before one.place unmarked in
        moved index one kept
        (is.held index one here (ap (λ (o : Option (Candidate R)). unwrap_or (option_map (λ (x : Candidate R). eqb x.place place) o) false) here ∙ eqb-turned one.place place ∙ before.0) before.1);
  }
    where
      moved : (index : ℕ) (one : Candidate R) → is_left_waiting ready place index ≡ false → IsHeld marks ready index one → IsHeld (set marks place true) ready index one
      moved index one kept (inl found) = inl found
      moved index one kept (inr waits) =
          let apart : waits.place ≡ place → ⊥ = λ e. true≢false (sym (among-of (waiting_for ready place) index (subst (λ p. Contains (waiting_for ready p) index) e waits.waits)) ∙ kept) in
          inr (record {
            place = waits.place;
            after = waits.after;
            unlisted = one_set marks place waits.place below ∙ ap (λ b. b || is_marked marks waits.place) (ne_eqb place waits.place (λ e. apart (sym e))) ∙ waits.unlisted;
            waits = waits.waits;
          })
