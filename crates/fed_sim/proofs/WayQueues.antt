-- Parcels that get on the ways to their destinations.
use Rattle.std.proofs.Common.{arith, ◌≡◌, ◌≢◌, ◌⊎◌, inl, inr, ℕ, zero, suc, ◌+◌, ◌<◌, ◌≤◌, ◌==◌, Bool, true, false, ◌||◌, not, if◌then◌else◌, List, [], ◌∷◌, ◌++◌, length, set, map, take, get_or, Option, Some, None, refl, sym, ap, ◌∙◌, subst, append_assoc, append-nil, length-set, true≢false}
use Rattle.std.specs.List.{slice_get, filter_map, cons_option, AllPairs}
use Rattle.std.specs.Option.{option_map, option_to_list}
use Rattle.std.specs.List.Sorted.{IsStrictlyIncreasing}
use Rattle.std.proofs.lemmas.List.{map-set, take_more}
use Rattle.std.proofs.lemmas.List.Elements.{filter_map-append}
use Rattle.std.proofs.lemmas.List.Folds.{list_any_none}
use Rattle.std.proofs.lemmas.List.Kept.{AllPairs-from_increasing}
use Rattle.std.proofs.lemmas.Option.{same_Some, none-some, slice_get-map, slice_get_within}
use Rattle.std.proofs.lemmas.Bool.{eq-eqb, ne_eqb, eqb-true, cases_Bool, cases_eq}
use Rattle.fed_dest.specs.ServerSet.{is_among}
use Rattle.fed_journal.specs.declared.entry.Entry.{Entry}
use Rattle.fed_journal.specs.declared.entry.Cause.TheVariants.{Asked}
use Rattle.fed_journal.specs.declared.entry.Entry.TheVariants as entry
use Rattle.fed_journal.specs.declared.parcel.Load.{Load}
use Rattle.fed_journal.specs.declared.parcel.Load.TheVariants as load
use Rattle.fed_journal.specs.declared.parcel.Parcel.{Parcel}
use Rattle.fed_journal.specs.Journal.{is_closed, placed, load_for}
use Rattle.fed_journal.specs.Queues.{parcel_after, parcel_to}
use Rattle.fed_outbox.specs.Collecting.{Way}
use Rattle.fed_journal.specs.declared.offered.Offered.{Offered}
use Rattle.fed_journal.specs.declared.offered.Offered.TheVariants as offered
use Rattle.fed_journal.specs.Offered.{entry_of, load_of}
use Rattle.fed_journal.specs.Offering.{open_among}
use Rattle.fed_sim.specs.Way.{WayState, with_parcel, ways_of}
use Rattle.fed_sim.specs.Sending.{AreAmong, AreFor, parcels_for, pushed_from}
use Rattle.fed_sim.proofs.Offers.{ways_from}

-- one of them changes, and not in what is seen of it
pub same_seen : {A B : Type 0} (f : A → B) (xs : List A) (i : ℕ) (y d : A) → f y ≡ f (get_or xs i d) → map f (set xs i y) ≡ map f xs
same_seen f [] i y d same = refl
same_seen f (x ∷ xs) zero y d same = ap (λ z. z ∷ map f xs) same
same_seen f (x ∷ xs) (suc i) y d same = ap (λ zs. f x ∷ zs) (same_seen f xs i y d same)

module _ {X : Type 0} where
  pub set_here : (xs : List X) (i : ℕ) (y : X) → i < length xs → slice_get (set xs i y) i ≡ Some y
  set_here [] i y h = absurd (omega arith)
  set_here (x ∷ xs) zero y h = refl
  set_here (x ∷ xs) (suc i) y h = set_here xs i y (omega arith)

  pub set_there : (xs : List X) (i d : ℕ) (y : X) → d ≢ i → slice_get (set xs i y) d ≡ slice_get xs d
  set_there [] i d y ne = refl
  set_there (x ∷ xs) zero zero y ne = absurd (ne refl)
  set_there (x ∷ xs) zero (suc d) y ne = refl
  set_there (x ∷ xs) (suc i) zero y ne = refl
  set_there (x ∷ xs) (suc i) (suc d) y ne = set_there xs i d y (λ e. ne (ap suc e))

  -- what holds at each place holds there still where it holds of what is new
  pub set_all : (P : ℕ → X → Type 0) (xs : List X) (i : ℕ) (y : X) → P i y → ((d : ℕ) (x : X) → d ≢ i → slice_get xs d ≡ Some x → P d x)
      → (d : ℕ) (x : X) → slice_get (set xs i y) d ≡ Some x → P d x
  set_all P xs i y this others d x here = by (cases_eq d i)
    where
      by : (d ≡ i) ⊎ (d ≢ i) → P d x
      by (inl same) =
          let within : i < length xs = omega (arith, slice_get_within (set xs i y) d x here, length-set xs i y, same) in
          let new : y ≡ x = same_Some y x (sym (set_here xs i y within) ∙ ap (slice_get (set xs i y)) (sym same) ∙ here) in
          subst (λ k. P k x) (sym same) (subst (P i) new this)
      by (inr other) = others d x other (sym (set_there xs i d y other) ∙ here)

pub none_left : {X : Type 0} (xs : List X) → length xs ≡ 0 → xs ≡ []
none_left [] none = refl
none_left (x ∷ xs) none = absurd (omega (arith, none))

-- ---- parcels that are pushed

pub pushed_nothing : (n : ℕ) (ways : List Way) → pushed_from n [] ways ≡ ways
pushed_nothing n [] = refl
pushed_nothing n (way ∷ ways) = λ i. record { queue = append-nil way.queue i; outbox = way.outbox } ∷ pushed_nothing (n + 1) ways i

not_reached : (n : ℕ) (parcel : Parcel) (later : List Parcel) (ways : List Way) → ((k : ℕ) → k < length ways → parcel.place.dest ≢ n + k)
    → pushed_from n (parcel ∷ later) ways ≡ pushed_from n later ways
not_reached n parcel later [] apart = refl
not_reached n parcel later (way ∷ ways) apart =
    let other : (parcel.place.dest == n) ≡ false = ne_eqb _ _ (λ same. apart 0 (omega arith) (omega (arith, same))) in
    λ i. record { queue = way.queue ++ (if other i then parcel ∷ parcels_for n later else parcels_for n later); outbox = way.outbox }
    ∷ not_reached (n + 1) parcel later ways (λ k below same. apart (k + 1) (omega (arith, below)) (omega (arith, same))) i

one_pushed : (n : ℕ) (parcel : Parcel) (later : List Parcel) (ways : List Way) (k : ℕ) (way : Way) → parcel.place.dest ≡ n + k → slice_get ways k ≡ Some way
    → pushed_from n later (set ways k (with_parcel way parcel)) ≡ pushed_from n (parcel ∷ later) ways
one_pushed n parcel later [] k way is here = absurd (none-some way here)
one_pushed n parcel later (x ∷ xs) zero way is here =
    let same : x ≡ way = same_Some x way here in
    let this : (parcel.place.dest == n) ≡ true = eq-eqb _ _ (omega (arith, is)) in
    let queue : (way.queue ++ parcel ∷ []) ++ parcels_for n later ≡ x.queue ++ parcels_for n (parcel ∷ later) =
    ap (λ (l : Way). (l.queue ++ parcel ∷ []) ++ parcels_for n later) (sym same)
    ∙ append_assoc x.queue (parcel ∷ []) (parcels_for n later)
    ∙ ap (λ (b : Bool). x.queue ++ (if b then parcel ∷ parcels_for n later else parcels_for n later)) (sym this) in
    let outbox : way.outbox ≡ x.outbox = ap (λ (l : Way). l.outbox) (sym same) in
    let rest : pushed_from (n + 1) later xs ≡ pushed_from (n + 1) (parcel ∷ later) xs = sym (not_reached (n + 1) parcel later xs (λ k below e. absurd (omega (arith, is, e)))) in
    λ i. record { queue = queue i; outbox = outbox i } ∷ rest i
one_pushed n parcel later (x ∷ xs) (suc k) way is here =
    let other : (parcel.place.dest == n) ≡ false = ne_eqb _ _ (λ e. absurd (omega (arith, is, e))) in
    let rest = one_pushed (n + 1) parcel later xs k way (omega (arith, is)) here in
    λ i. record { queue = x.queue ++ (if sym other i then parcel ∷ parcels_for n later else parcels_for n later); outbox = x.outbox } ∷ rest i

-- a parcel is pushed on its way
pub pushed_here : (parcel : Parcel) (later : List Parcel) (ways : List WayState) (k : ℕ) (way new : WayState) → parcel.place.dest ≡ k → slice_get ways k ≡ Some way
    → new.way ≡ with_parcel way.way parcel → pushed_from 0 later (ways_of (set ways k new)) ≡ pushed_from 0 (parcel ∷ later) (ways_of ways)
pushed_here parcel later ways k way new is here gives =
    ap (pushed_from 0 later) (map-set (λ (l : WayState). l.way) ways k new ∙ ap (set (ways_of ways) k) gives)
    ∙ one_pushed 0 parcel later (ways_of ways) k way.way (omega (arith, is)) (slice_get-map (λ (l : WayState). l.way) ways k ∙ ap (option_map (λ (l : WayState). l.way)) here)

-- those for a destination, with a parcel before them
pub one_here : (parcel : Parcel) (later : List Parcel) (d : ℕ) → parcel.place.dest ≡ d → length (parcels_for d (parcel ∷ later)) ≡ 1 + length (parcels_for d later)
one_here parcel later d is = ap (λ (b : Bool). length (if b then parcel ∷ parcels_for d later else parcels_for d later)) (eq-eqb parcel.place.dest d is) ∙ omega arith

pub no_more : (parcel : Parcel) (later : List Parcel) (d : ℕ) → length (parcels_for d later) ≤ length (parcels_for d (parcel ∷ later))
no_more parcel later d = by (parcel.place.dest == d)
  where
    by : (b : Bool) → length (parcels_for d later) ≤ length (if b then parcel ∷ parcels_for d later else parcels_for d later)
    by true = omega arith
    by false = omega arith

-- ---- the parcels of an entry

-- one more
pub picked_more : {X Y : Type 0} (f : X → Option Y) (xs : List X) (i : ℕ) (d : X) → i < length xs → filter_map f (take (i + 1) xs) ≡ filter_map f (take i xs) ++ cons_option (f (get_or xs i d)) []
picked_more f xs i d within = ap (filter_map f) (take_more xs i d within) ∙ filter_map-append f (take i xs) (get_or xs i d ∷ [])

tail_rises : (x : ℕ) (xs : List ℕ) → AllPairs (λ a b. a < b) (x ∷ xs) → AllPairs (λ a b. a < b) xs
tail_rises x xs rising i j d less within = rising (suc i) (suc j) d (omega (arith, less)) (omega (arith, within))

not_again : (x : ℕ) (xs : List ℕ) → AllPairs (λ a b. a < b) (x ∷ xs) → is_among xs x ≡ false
not_again x xs rising =
    list_any_none (λ other. other == x) xs (λ k e below. let less = rising 0 (suc k) e (omega arith) (omega (arith, below)) in ne_eqb _ _ (λ same. absurd (omega (arith, less, same))))

module _ (entries : List Entry) (load : Load) where
  abbrev to_all : List ℕ → List Parcel
  to_all dests = filter_map (parcel_to entries load) dests

  one_by_one : (d x : ℕ) (xs : List ℕ)
      → parcels_for d (to_all (x ∷ xs)) ≡ (if x == d then option_to_list (parcel_to entries load x) ++ parcels_for d (to_all xs) else parcels_for d (to_all xs))
  one_by_one d x xs =
      elim (is_closed entries x) as (λ closed. let to : Option Parcel = option_map (λ place. record { place = place; load = load }) (if closed then None else Some (record { dest = x; number = placed entries x + 1 })) in
      parcels_for d (cons_option to (to_all xs)) ≡ (if x == d then option_to_list to ++ parcels_for d (to_all xs) else parcels_for d (to_all xs))) [
        | true ↦ elim (x == d) as (λ this. parcels_for d (to_all xs) ≡ (if this then parcels_for d (to_all xs) else parcels_for d (to_all xs))) [ true ↦ refl | false ↦ refl ]
        | false ↦ refl
      ]

  none_for : (d : ℕ) (dests : List ℕ) → is_among dests d ≡ false → parcels_for d (to_all dests) ≡ []
  none_for d [] none = refl
  none_for d (x ∷ xs) none = one_by_one d x xs ∙ by (none_for d xs) (cases_Bool (x == d))
    where
      by : (is_among xs d ≡ false → parcels_for d (to_all xs) ≡ []) → ((x == d) ≡ true) ⊎ ((x == d) ≡ false)
          → (if x == d then option_to_list (parcel_to entries load x) ++ parcels_for d (to_all xs) else parcels_for d (to_all xs)) ≡ []
      by later (inl this) = absurd (true≢false (ap (λ b. b || is_among xs d) (sym this) ∙ none))
      by later (inr other) =
          ap (λ (b : Bool). if b then option_to_list (parcel_to entries load x) ++ parcels_for d (to_all xs) else parcels_for d (to_all xs)) other
          ∙ later (ap (λ b. b || is_among xs d) (sym other) ∙ none)

  one_for : (d : ℕ) (dests : List ℕ) → AllPairs (λ a b. a < b) dests → is_among dests d ≡ true → parcels_for d (to_all dests) ≡ option_to_list (parcel_to entries load d)
  one_for d [] rising among = absurd (true≢false (sym among))
  one_for d (x ∷ xs) rising among = one_by_one d x xs ∙ by (one_for d xs (tail_rises x xs rising)) (cases_Bool (x == d))
    where
      by : (is_among xs d ≡ true → parcels_for d (to_all xs) ≡ option_to_list (parcel_to entries load d)) → ((x == d) ≡ true) ⊎ ((x == d) ≡ false)
          → (if x == d then option_to_list (parcel_to entries load x) ++ parcels_for d (to_all xs) else parcels_for d (to_all xs)) ≡ option_to_list (parcel_to entries load d)
      by later (inl this) =
          let same : x ≡ d = eqb-true _ _ this in
          ap (λ (b : Bool). if b then option_to_list (parcel_to entries load x) ++ parcels_for d (to_all xs) else parcels_for d (to_all xs)) this
          ∙ ap (λ l. option_to_list (parcel_to entries load x) ++ l) (none_for d xs (ap (is_among xs) (sym same) ∙ not_again x xs rising))
          ∙ append-nil (option_to_list (parcel_to entries load x)) ∙ ap (λ e. option_to_list (parcel_to entries load e)) same
      by later (inr other) =
          ap (λ (b : Bool). if b then option_to_list (parcel_to entries load x) ++ parcels_for d (to_all xs) else parcels_for d (to_all xs)) other
          ∙ later (ap (λ b. b || is_among xs d) (sym other) ∙ among)

  -- what is for d is what is placed for it
  abbrev parcel_where : ℕ → Bool → Option Load → Option Parcel
  parcel_where d closed l = option_map (λ (x : Load). record { place = record { dest = d; number = placed entries d + 1 }; load = x }) (if closed then None else l)

  placed_where : (d : ℕ) (dests : List ℕ) → AllPairs (λ a b. a < b) dests
      → parcels_for d (to_all dests) ≡ option_to_list (parcel_where d (is_closed entries d) (if is_among dests d then Some load else None))
  placed_where d dests rising = by (cases_Bool (is_among dests d))
    where
      closed_or_not : (closed : Bool) → option_map (λ place. record { place = place; load = load }) (if closed then None else Some (record { dest = d; number = placed entries d + 1 })) ≡ parcel_where d closed (Some load)
      closed_or_not true = refl
      closed_or_not false = refl

      none_either_way : (closed : Bool) → [] ≡ option_to_list (parcel_where d closed None)
      none_either_way true = refl
      none_either_way false = refl

      by : (is_among dests d ≡ true) ⊎ (is_among dests d ≡ false)
          → parcels_for d (to_all dests) ≡ option_to_list (parcel_where d (is_closed entries d) (if is_among dests d then Some load else None))
      by (inl among) =
          one_for d dests rising among ∙ ap option_to_list (closed_or_not (is_closed entries d))
          ∙ ap (λ (b : Bool). option_to_list (parcel_where d (is_closed entries d) (if b then Some load else None))) (sym among)
      by (inr not_among) =
          none_for d dests not_among ∙ none_either_way (is_closed entries d)
          ∙ ap (λ (b : Bool). option_to_list (parcel_where d (is_closed entries d) (if b then Some load else None))) (sym not_among)

-- there is one for a destination at most
pub one_at_most : (entries : List Entry) (load : Load) (d : ℕ) (dests : List ℕ) → IsStrictlyIncreasing dests → length (parcels_for d (filter_map (parcel_to entries load) dests)) ≤ 1
one_at_most entries load d dests rising =
    let are = ap length (placed_where entries load d dests (AllPairs-from_increasing dests rising)) in
    let few = by (parcel_where entries load d (is_closed entries d) (if is_among dests d then Some load else None)) in
    omega (arith, are, few)
  where
    by : (parcel : Option Parcel) → length (option_to_list parcel) ≤ 1
    by None = omega arith
    by (Some parcel) = omega arith

load_sent : (offered : Offered) (dests : List ℕ) (d : ℕ) → (if is_among dests d then Some (load_of offered) else None) ≡ load_for d (entry_of offered dests)
load_sent (offered.Event event) dests d = refl
load_sent (offered.Edu edu) dests d = refl

-- the parcels of what is offered, each on its way
pub all_sent : (offered : Offered) (dests : List ℕ) (entries : List Entry) → IsStrictlyIncreasing dests → (n : ℕ) (ways : List Way)
    → pushed_from n (filter_map (parcel_to entries (load_of offered)) dests) ways ≡ ways_from n entries (entry_of offered dests) ways
all_sent offered dests entries rising n [] = refl
all_sent offered dests entries rising n (way ∷ ways) =
    let parcels : parcels_for n (filter_map (parcel_to entries (load_of offered)) dests) ≡ option_to_list (parcel_after entries (entry_of offered dests) n) =
    placed_where entries (load_of offered) n dests (AllPairs-from_increasing dests rising)
    ∙ ap (λ l. option_to_list (parcel_where entries (load_of offered) n (is_closed entries n) l)) (load_sent offered dests n) in
    λ i. record { queue = way.queue ++ parcels i; outbox = way.outbox } ∷ all_sent offered dests entries rising (n + 1) ways i

-- how many they are
pub count_sent : (load : Load) (dests : List ℕ) (entries : List Entry) → length (filter_map (parcel_to entries load) dests) ≡ length (open_among entries dests)
count_sent load [] entries = refl
count_sent load (x ∷ xs) entries =
    elim (is_closed entries x) as (λ closed. let to : Option Parcel = option_map (λ place. record { place = place; load = load }) (if closed then None else Some (record { dest = x; number = placed entries x + 1 })) in
    length (cons_option to (filter_map (parcel_to entries load) xs)) ≡ length (if not closed then x ∷ open_among entries xs else open_among entries xs))
    [ true ↦ count_sent load xs entries | false ↦ ap suc (count_sent load xs entries) ]

-- they are for servers among so many, where these are
pub are_for : (entries : List Entry) (load : Load) (count : ℕ) (dests : List ℕ) → AreAmong count dests → AreFor count (filter_map (parcel_to entries load) dests)
are_for entries load count [] among = λ k parcel e. absurd (none-some parcel e)
are_for entries load count (d ∷ dests) among =
    let rest : AreFor count (filter_map (parcel_to entries load) dests) = are_for entries load count dests (λ x e. among x (later x (d == x) e)) in
    elim (is_closed entries d) as (λ closed. AreFor count
    (cons_option (option_map (λ place. record { place = place; load = load }) (if closed then None else Some (record { dest = d; number = placed entries d + 1 }))) (filter_map (parcel_to entries load) dests)))
    [ true ↦ rest | false ↦ by rest ]
  where
    -- one that is among the others is among all
    later : (x : ℕ) (same : Bool) → is_among dests x ≡ true → (same || is_among dests x) ≡ true
    later x true e = refl
    later x false e = e

    by : AreFor count (filter_map (parcel_to entries load) dests) → AreFor count (record { place = record { dest = d; number = placed entries d + 1 }; load = load } ∷ filter_map (parcel_to entries load) dests)
    by rest zero parcel e = subst (λ (p : Parcel). p.place.dest < count) (same_Some _ parcel e) (among d (ap (λ b. b || is_among dests d) (eq-eqb d d refl)))
    by rest (suc k) parcel e = rest k parcel e

-- the end that a closing places
pub end_sent : (d : ℕ) (entries : List Entry) → is_closed entries d ≡ false → (n : ℕ) (ways : List Way)
    → pushed_from n (record { place = record { dest = d; number = placed entries d + 1 }; load = load.End } ∷ []) ways ≡ ways_from n entries (entry.Close d Asked) ways
end_sent d entries is_open n [] = refl
end_sent d entries is_open n (way ∷ ways) =
    λ i. record { queue = way.queue ++ parcels i; outbox = way.outbox } ∷ end_sent d entries is_open (n + 1) ways i
  where
    this : Parcel
    this = record { place = record { dest = d; number = placed entries d + 1 }; load = load.End }

    by : ((d == n) ≡ true) ⊎ ((d == n) ≡ false) → parcels_for n (this ∷ []) ≡ option_to_list (parcel_after entries (entry.Close d Asked) n)
    by (inl same) =
        let e : d ≡ n = eqb-true _ _ same in
        subst (λ m. parcels_for m (this ∷ []) ≡ option_to_list (parcel_after entries (entry.Close d Asked) m)) e
        (ap (λ (b : Bool). if b then this ∷ [] else []) (eq-eqb d d refl)
        ∙ sym (ap (λ (b : Bool). option_to_list (parcel_where entries load.End d (is_closed entries d) (if b then Some load.End else None))) (eq-eqb d d refl)
        ∙ ap (λ (b : Bool). option_to_list (parcel_where entries load.End d b (Some load.End))) is_open))
    by (inr other) =
        ap (λ (b : Bool). if b then this ∷ [] else []) other
        ∙ sym (ap (λ (b : Bool). option_to_list (parcel_where entries load.End n (is_closed entries n) (if b then Some load.End else None))) other ∙ nothing (is_closed entries n))
      where
        nothing : (closed : Bool) → option_to_list (parcel_where entries load.End n closed None) ≡ []
        nothing true = refl
        nothing false = refl

    parcels : parcels_for n (this ∷ []) ≡ option_to_list (parcel_after entries (entry.Close d Asked) n)
    parcels = by (cases_Bool (d == n))
