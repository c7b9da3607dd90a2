-- The mainline of a power levels event, and positions in it, without a count of steps.
use Rattle.std.proofs.Common.{◌≡◌, ◌<◌, ◌≤◌, ◌+◌, ℕ, zero, suc, List, [], ◌∷◌, Bool, true, false, not, ◌||◌, cond, eqb, min, Option, None, Some, IfSome, length, find, ◌⊎◌, inl, inr, true≢false, refl, sym, ap, ◌∙◌, subst, arith}
use Rattle.std.specs.List.{list_any, position, position_or_len, slice_get}
use Rattle.std.proofs.lemmas.Bool.{cases_lt, lt-ltb, eq-eqb, eqb-true, or_left, or_right, or_cases}
use Rattle.std.proofs.lemmas.List.Quantifiers.{position-Some}
use Rattle.std.proofs.lemmas.Option.{slice_get-get_or, slice_get_within}
use Rattle.fed_room_contract.specs.declared.graph.Stored.{Stored}
use Rattle.fed_room_contract.specs.Graph.{IsAuthGraph}
use Rattle.fed_resolve.specs.Chain.{auths_at}
use Rattle.fed_resolve.specs.Mainline.{is_levels_at, levels_auth, mainline_from, mainline, least_of, least_index, position_of}
use Rattle.fed_resolve.specs.Order.{is_among}
use Rattle.fed_resolve.specs.Laws.{IsMainline, IsReachedByLevels, IsPosition}
use Rattle.fed_resolve.specs.Laws.IsMainline.{ended, further as longer}
use Rattle.fed_resolve.specs.Laws.IsReachedByLevels.{named, further}
use Rattle.fed_resolve.proofs.ChainMarks.{auth_below}

-- ---- a power levels event stands before the event that names it

found_among : (p : ℕ → Bool) (xs : List ℕ) (x : ℕ) → find p xs ≡ Some x → list_any (λ a. eqb a x) xs ≡ true
found_among p [] x e = absurd (cc)
found_among p (y ∷ xs) x e = by (p y) e (found_among p xs x)
  where
    by : (b : Bool) → cond b (Some y) (find p xs) ≡ Some x → (find p xs ≡ Some x → list_any (λ a. eqb a x) xs ≡ true) → (eqb y x || list_any (λ a. eqb a x) xs) ≡ true
    by true e rest = let same : y ≡ x = cc in or_left (eqb y x) (list_any (λ a. eqb a x) xs) (eq-eqb y x same)
    by false e rest = or_right (eqb y x) (list_any (λ a. eqb a x) xs) (rest e)

module _ (events : List Stored) (graph : IsAuthGraph events) where
  levels_below : (place levels : ℕ) → levels_auth events place ≡ Some levels → (levels < place) × (place < length events)
  levels_below place levels e = auth_below events graph place levels (found_among (is_levels_at events) (auths_at events place) levels e)

  pub auth-levels_below : (place : ℕ) (o : Option ℕ) → levels_auth events place ≡ o → IfSome o (λ levels. levels < place)
  auth-levels_below place None e = tt
  auth-levels_below place (Some levels) e = (levels_below place levels e).0

  -- ---- the mainline

  less : (o : Option ℕ) (m n : ℕ) → m ≤ n → IfSome o (λ p. p < m) → IfSome o (λ p. p < n)
  less None m n h below = tt
  less (Some p) m n h below = omega arith

  walked : (steps : ℕ) (next : Option ℕ) → IfSome next (λ p. p < steps) → IsMainline events next (mainline_from events steps next)
  walked zero None below = ended
  walked zero (Some p) below = absurd (omega arith)
  walked (suc steps) None below = ended
  walked (suc steps) (Some p) below =
      longer p _ (walked steps (levels_auth events p) (less (levels_auth events p) p steps (omega arith) (auth-levels_below p (levels_auth events p) refl)))

  pub mainline-is : (levels : Option ℕ) → IfSome levels (λ place. place < length events) → IsMainline events levels (mainline events levels)
  mainline-is levels below = walked (length events) levels below

  -- ---- what the walk of an event meets

  walk-is : (place : ℕ) → IsMainline events (levels_auth events place) (mainline events (levels_auth events place))
  walk-is place = mainline-is (levels_auth events place) (by (levels_auth events place) refl)
    where
      by : (o : Option ℕ) → levels_auth events place ≡ o → IfSome o (λ p. p < length events)
      by None e = tt
      by (Some levels) e = let below = levels_below place levels e in omega (arith, below.0, below.1)

  met-reached : (place : ℕ) (next : Option ℕ) (walk : List ℕ) → levels_auth events place ≡ next → IsMainline events next walk → (q : ℕ) → is_among walk q ≡ true → IsReachedByLevels events place q
  met-reached place _ _ e ended q h = absurd (true≢false (sym h))
  met-reached place _ _ e (longer p walk rest) q h = by (met-reached p (levels_auth events p) walk refl rest q) (or_cases (eqb p q) (is_among walk q) h)
    where
      by : (is_among walk q ≡ true → IsReachedByLevels events p q) → (eqb p q ≡ true) ⊎ (is_among walk q ≡ true) → IsReachedByLevels events place q
      by later (inl t) = named place q (e ∙ ap (λ k. Some k) (eqb-true p q t))
      by later (inr t) = further place p q e (later t)

  reached-met : (place q : ℕ) → IsReachedByLevels events place q → (next : Option ℕ) (walk : List ℕ) → levels_auth events place ≡ next → IsMainline events next walk → is_among walk q ≡ true
  reached-met _ _ (named place q h) _ _ e ended = absurd (cc)
  reached-met _ _ (named place q h) _ _ e (longer p walk rest) = let same : p ≡ q = cc in or_left (eqb p q) (is_among walk q) (eq-eqb p q same)
  reached-met _ _ (further place levels q h chain) _ _ e ended = absurd (cc)
  reached-met _ _ (further place levels q h chain) _ _ e (longer p walk rest) =
      let same : levels ≡ p = cc in
      or_right (eqb p q) (is_among walk q) (reached-met levels q chain (levels_auth events p) walk (ap (levels_auth events) same) rest)

-- ---- the least index

chosen : (b : Bool) (n k : ℕ) → cond b (Some n) None ≡ Some k → n ≡ k
chosen true n k e = cc
chosen false n k e = absurd (cc)

abbrev index_of : List ℕ → ℕ → Option ℕ
index_of line place = position (λ p. eqb p place) line

-- the list has the place where its index is
at-index : (line : List ℕ) (place index : ℕ) → index_of line place ≡ Some index → slice_get line index ≡ Some place
at-index line place index e =
    let found = position-Some (λ p. eqb p place) line index 0 e in
    slice_get-get_or line index 0 found.0 ∙ ap (λ k. Some k) (eqb-true _ place found.1)

first_most : {X : Type 0} (p : X → Bool) (xs : List X) (other : ℕ) (x : X) → slice_get xs other ≡ Some x → p x ≡ true → position_or_len p xs ≤ other
first_most p [] other x e h = absurd (cc)
first_most p (y ∷ xs) zero x e h =
    let same : y ≡ x = cc in
    let here : p y ≡ true = ap p same ∙ h in
    subst (λ b. cond (not b) (1 + position_or_len p xs) 0 ≤ zero) (sym here) (omega arith)
first_most p (y ∷ xs) (suc other) x e h =
    let rest = first_most p xs other x e h in
    elim (p y) as (λ b. cond (not b) (1 + position_or_len p xs) 0 ≤ suc other) [ true ↦ omega arith | false ↦ omega arith ]

-- where the list has a place, its index is no greater
index-least : (line : List ℕ) (place other : ℕ) → slice_get line other ≡ Some place → (index : ℕ) × ((index_of line place ≡ Some index) × (index ≤ other))
index-least line place other e =
    let least = first_most (λ p. eqb p place) line other place e (eq-eqb place place refl) in
    let inside = slice_get_within line other place e in
    let within : position_or_len (λ p. eqb p place) line < length line = omega (arith, least, inside) in
    (position_or_len (λ p. eqb p place) line, (ap (λ b. cond b (Some (position_or_len (λ p. eqb p place) line)) None) (lt-ltb (position_or_len (λ p. eqb p place) line) (length line) within), least))

-- the index is the least of those of some places
abbrev IsLeastOf : List ℕ → List ℕ → Option ℕ → Type 0
IsLeastOf line places None = (place : ℕ) → is_among places place ≡ true → index_of line place ≡ None
IsLeastOf line places (Some index) =
    ((place : ℕ) × ((is_among places place ≡ true) × (index_of line place ≡ Some index)))
    × ((place other : ℕ) → is_among places place ≡ true → index_of line place ≡ Some other → index ≤ other)

least : (line places : List ℕ) → IsLeastOf line places (least_index line places)
least line [] = λ place h. absurd (true≢false (sym h))
least line (first ∷ places) = by (index_of line first) refl (least_index line places) (least line places)
  where
    here : is_among (first ∷ places) first ≡ true
    here = or_left (eqb first first) (is_among places first) (eq-eqb first first refl)

    -- one of these is the first, or one of the others
    each : (place : ℕ) → is_among (first ∷ places) place ≡ true → (first ≡ place) ⊎ (is_among places place ≡ true)
    each place h = one (or_cases (eqb first place) (is_among places place) h)
      where
        one : (eqb first place ≡ true) ⊎ (is_among places place ≡ true) → (first ≡ place) ⊎ (is_among places place ≡ true)
        one (inl t) = inl (eqb-true first place t)
        one (inr t) = inr t

    none : index_of line first ≡ None → ((place : ℕ) → is_among places place ≡ true → index_of line place ≡ None) → (place : ℕ) → (first ≡ place) ⊎ (is_among places place ≡ true) → index_of line place ≡ None
    none e rest place (inl same) = ap (index_of line) (sym same) ∙ e
    none e rest place (inr t) = rest place t

    only_first : (i : ℕ) → index_of line first ≡ Some i → ((place : ℕ) → is_among places place ≡ true → index_of line place ≡ None)
        → (place other : ℕ) → index_of line place ≡ Some other → (first ≡ place) ⊎ (is_among places place ≡ true) → i ≤ other
    only_first i e rest place other h (inl same) = let one : i ≡ other = cc in omega arith
    only_first i e rest place other h (inr t) = let no = rest place t in absurd (cc)

    not_first : (j : ℕ) → index_of line first ≡ None → ((place other : ℕ) → is_among places place ≡ true → index_of line place ≡ Some other → j ≤ other)
        → (place other : ℕ) → index_of line place ≡ Some other → (first ≡ place) ⊎ (is_among places place ≡ true) → j ≤ other
    not_first j e rest place other h (inl same) = absurd (cc)
    not_first j e rest place other h (inr t) = rest place other t h

    of_both : (i j : ℕ) → index_of line first ≡ Some i → ((place other : ℕ) → is_among places place ≡ true → index_of line place ≡ Some other → j ≤ other)
        → (place other : ℕ) → index_of line place ≡ Some other → (first ≡ place) ⊎ (is_among places place ≡ true) → min i j ≤ other
    of_both i j e rest place other h (inl same) = let one : i ≡ other = cc in omega arith
    of_both i j e rest place other h (inr t) = let more = rest place other t h in omega arith

    smaller : (i j : ℕ) → index_of line first ≡ Some i → ((place : ℕ) × ((is_among places place ≡ true) × (index_of line place ≡ Some j))) → (min i j ≡ i) ⊎ (min i j ≡ j)
        → (place : ℕ) × ((is_among (first ∷ places) place ≡ true) × (index_of line place ≡ Some (min i j)))
    smaller i j e found (inl m) = (first, (here, e ∙ ap (λ k. Some k) (sym m)))
    smaller i j e found (inr m) = (found.0, (or_right (eqb first found.0) (is_among places found.0) found.1.0, found.1.1 ∙ ap (λ k. Some k) (sym m)))

    either : (i j : ℕ) → (min i j ≡ i) ⊎ (min i j ≡ j)
    either i j = elim (cases_lt i j) [ inl below ↦ inl (omega arith) | inr above ↦ inr (omega arith) ]

    by : (o : Option ℕ) → index_of line first ≡ o → (rest : Option ℕ) → IsLeastOf line places rest → IsLeastOf line (first ∷ places) (least_of o rest)
    by None e None all = λ place h. none e all place (each place h)
    by None e (Some j) all =
        ((all.0.0, (or_right (eqb first all.0.0) (is_among places all.0.0) all.0.1.0, all.0.1.1)), λ place other h i. not_first j e all.1 place other i (each place h))
    by (Some i) e None all = ((first, (here, e)), λ place other h k. only_first i e all place other k (each place h))
    by (Some i) e (Some j) all = (smaller i j e all.0 (either i j), λ place other h k. of_both i j e all.1 place other k (each place h))

-- ---- positions

pub position-is : (events : List Stored) (line : List ℕ) (place : ℕ) → IsAuthGraph events → IsPosition events line place (position_of events line place)
position-is events line place graph = by (position_of events line place) (least line walk)
  where
    walk : List ℕ
    walk = mainline events (levels_auth events place)

    is_met : (q : ℕ) → IsReachedByLevels events place q → is_among walk q ≡ true
    is_met q chain = reached-met events graph place q chain (levels_auth events place) walk refl (walk-is events graph place)

    is_reached : (q : ℕ) → is_among walk q ≡ true → IsReachedByLevels events place q
    is_reached q h = met-reached events graph place (levels_auth events place) walk refl (walk-is events graph place) q h

    by : (o : Option ℕ) → IsLeastOf line walk o → IsPosition events line place o
    by None all = λ index r. let there = index-least line r.levels index r.there in let no = all r.levels (is_met r.levels r.reached) in absurd (cc)
    by (Some index) all = record {
      here = record { levels = all.0.0; there = at-index line all.0.0 index all.0.1.1; reached = is_reached all.0.0 all.0.1.0 };
      least = λ other r. let there = index-least line r.levels other r.there in let first = all.1 r.levels there.0 (is_met r.levels r.reached) there.1.0 in omega (arith, first, there.1.1);
    }
