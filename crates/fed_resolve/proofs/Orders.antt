-- Candidates that are listed, and the places that they stand for.
use Rattle.std.proofs.Common.{◌≤◌, ◌⊎◌, inl, inr, drop, subst, ◌&&◌, ◌||◌, set, take, get_or, sym, ◌≡◌, ◌<◌, ◌+◌, ◌-◌, arith, All, ℕ, zero, suc, List, [], ◌∷◌, ◌++◌, Bool, true, false, not, cond, eqb, map, length, filter, Option, None, Some, option_map, refl, ap, ◌∙◌}
use Rattle.std.specs.List.{list_all, AllByRecursion}
use Rattle.std.proofs.lemmas.Bool.{cases_eq, eq-eqb, eqb-true, and_parts, and_from, or_right}
use Rattle.std.proofs.lemmas.List.{length-set, get_or-set_same, get_or-set_other, get_or_default}
use Rattle.std.proofs.Math.Seq.{drop-cons}
use Rattle.std.proofs.lemmas.List.Folds.{list_any-append}
use Rattle.std.specs.Ordering.{is_lt}
use Rattle.std.proofs.lemmas.List.Elements.{All-from_recursion, recursion_from_All}
use Rattle.std.specs.declared.cmp.Ordering.{Ordering}
use Rattle.fed_resolve.specs.declared.order.Candidate.{Candidate}
use Rattle.fed_resolve.specs.Order.{MayBeListed, Before, earlier_of, first_of, without, is_among, and_later, listed_from, in_order}
use Rattle.fed_resolve.specs.ChainParts.{is_marked}
use Rattle.fed_resolve.specs.Marks.{AreMarks}
use Rattle.fed_resolve.specs.OrderParts.{IsWithin, IsListedFront, AreListedFronts, candidate_place, may_follow, earlier_candidate, first_candidate, next_place, candidates_from}
use Rattle.fed_resolve.proofs.ChainMarks.{same_by}
use Rattle.fed_resolve.proofs.Marks.{one_set}

pub kept : {X : Type 0} (P : X → Type 0) (test : X → Bool) (xs : List X) → AllByRecursion P xs → AllByRecursion P (filter test xs)
kept P test [] all = tt
kept P test (x ∷ xs) all = elim (test x) as (λ b. AllByRecursion P (cond b (x ∷ filter test xs) (filter test xs))) [ true ↦ (all.0, kept P test xs all.1) | false ↦ kept P test xs all.1 ]

-- the places of those that pass, where what is tested goes by the place
filter-places : {R : Type 0} (test : Candidate R → Bool) (by_place : ℕ → Bool) (left : List (Candidate R)) → AllByRecursion (λ one. test one ≡ by_place one.place) left
    → map candidate_place (filter test left) ≡ filter by_place (map candidate_place left)
filter-places test by_place [] all = refl
filter-places {R} test by_place (one ∷ left) all =
    moved (test one) ∙ ap (λ b. cond b (one.place ∷ map candidate_place (filter test left)) (map candidate_place (filter test left))) all.0
    ∙ ap (λ ps. cond (by_place one.place) (one.place ∷ ps) ps) (filter-places test by_place left all.1)
  where
    moved : (b : Bool) → map candidate_place (cond b (one ∷ filter test left) (filter test left)) ≡ cond b (one.place ∷ map candidate_place (filter test left)) (map candidate_place (filter test left))
    moved true = refl
    moved false = refl

each : {X : Type 0} (P Q : X → Type 0) → ((x : X) → P x → Q x) → (xs : List X) → AllByRecursion P xs → AllByRecursion Q xs
each P Q f [] all = tt
each P Q f (x ∷ xs) all = (f x all.0, each P Q f xs all.1)

filter-twice : {X : Type 0} (f g : X → Bool) (xs : List X) → filter g (filter f xs) ≡ filter (λ x. f x && g x) xs
filter-twice f g [] = refl
filter-twice {X} f g (x ∷ xs) = by (filter-twice f g xs) (f x)
  where
    by : filter g (filter f xs) ≡ filter (λ y. f y && g y) xs → (a : Bool) → filter g (cond a (x ∷ filter f xs) (filter f xs)) ≡ cond (a && g x) (x ∷ filter (λ y. f y && g y) xs) (filter (λ y. f y && g y) xs)
    by rest true = ap (λ ys. cond (g x) (x ∷ ys) ys) rest
    by rest false = rest

filter-same : {X : Type 0} (f g : X → Bool) (xs : List X) → AllByRecursion (λ x. f x ≡ g x) xs → filter f xs ≡ filter g xs
filter-same f g [] all = refl
filter-same f g (x ∷ xs) all = ap (λ ys. cond (f x) (x ∷ ys) ys) (filter-same f g xs all.1) ∙ ap (λ b. cond b (x ∷ filter g xs) (filter g xs)) all.0

everywhere : {X : Type 0} (P : X → Type 0) → ((x : X) → P x) → (xs : List X) → AllByRecursion P xs
everywhere P f [] = tt
everywhere P f (x ∷ xs) = (f x, everywhere P f xs)

pub eqb-turned : (p q : ℕ) → eqb p q ≡ eqb q p
eqb-turned p q = same_by (eqb p q) (eqb q p) (λ h. eq-eqb q p (sym (eqb-true p q h))) (λ h. eq-eqb p q (sym (eqb-true q p h)))

-- those that are not listed, once one more is
not-listed : (listed : List ℕ) (place p : ℕ) → (not (is_among listed p) && not (eqb p place)) ≡ not (is_among (listed ++ place ∷ []) p)
not-listed listed place p =
    ap (λ b. not (is_among listed p) && not b) (eqb-turned p place)
    ∙ neither (is_among listed p) (eqb place p) ∙ ap not (sym (list_any-append (λ q. eqb q p) listed (place ∷ [])))
  where
    neither : (a b : Bool) → (not a && not b) ≡ not (a || (b || false))
    neither true b = refl
    neither false true = refl
    neither false false = refl

without-listed : (listed : List ℕ) (place : ℕ) (ps : List ℕ) → without place (filter (λ p. not (is_among listed p)) ps) ≡ filter (λ p. not (is_among (listed ++ place ∷ []) p)) ps
without-listed listed place ps =
    filter-twice (λ p. not (is_among listed p)) (λ p. not (eqb p place)) ps
    ∙ filter-same (λ p. not (is_among listed p) && not (eqb p place)) (λ p. not (is_among (listed ++ place ∷ []) p)) ps
    (everywhere (λ p. (not (is_among listed p) && not (eqb p place)) ≡ not (is_among (listed ++ place ∷ []) p)) (not-listed listed place) ps)

filter-whole : (ps : List ℕ) → filter (λ p. true) ps ≡ ps
filter-whole [] = refl
filter-whole (p ∷ ps) = ap (λ qs. p ∷ qs) (filter-whole ps)

later_same : (f g : ℕ → List ℕ) (o : Option ℕ) → ((place : ℕ) → f place ≡ g place) → and_later f o ≡ and_later g o
later_same f g None same = refl
later_same f g (Some place) same = ap (λ ps. place ∷ ps) (same place)

length-places : {R : Type 0} (left : List (Candidate R)) → length left ≡ length (map candidate_place left)
length-places [] = refl
length-places (one ∷ left) = ap suc (length-places left)

module _ {R : Type 0} (cmp : R → R → Ordering) (may_be_listed : MayBeListed) (before : Before) (Is : Candidate R → Type 0) (listings : (one : Candidate R) → Is one → (listed : List ℕ) → list_all (is_among listed) one.after.items ≡ may_be_listed listed one.place) (firsts : (one other : Candidate R) → Is one → Is other → is_lt (cmp one.rank other.rank) ≡ before one.place other.place) where
  -- a candidate and the place that it stands for
  abbrev IsFor : Option (Candidate R) → Option ℕ → Type 0
  IsFor None None = Unit {0}
  IsFor (Some one) (Some place) = Is one × (one.place ≡ place)
  IsFor None (Some place) = ⊥
  IsFor (Some one) None = ⊥

  place-for : (o : Option (Candidate R)) (p : Option ℕ) → IsFor o p → option_map candidate_place o ≡ p
  place-for None None h = refl
  place-for (Some one) (Some place) h = ap Some h.1
  place-for None (Some place) h = absurd h
  place-for (Some one) None h = absurd h

  earlier-for : (one : Candidate R) → Is one → (o : Option (Candidate R)) (p : Option ℕ) → IsFor o p → IsFor (Some (earlier_candidate cmp one o)) (Some (earlier_of before one.place p))
  earlier-for one is None None h = (is, refl)
  earlier-for one is None (Some place) h = absurd h
  earlier-for one is (Some other) None h = absurd h
  earlier-for one is (Some other) (Some place) h =
      chosen (is_lt (cmp other.rank one.rank)) (before place one.place) (firsts other one h.0 is ∙ ap (λ p. before p one.place) h.1)
    where
      chosen : (a b : Bool) → a ≡ b → Is (cond a other one) × ((cond a other one).place ≡ cond b place one.place)
      chosen true true e = h
      chosen false false e = (is, refl)
      chosen true false e = absurd (cc)
      chosen false true e = absurd (cc)

  first-for : (left : List (Candidate R)) → AllByRecursion Is left → IsFor (first_candidate cmp left) (first_of before (map candidate_place left))
  first-for [] all = tt
  first-for (one ∷ left) all = earlier-for one all.0 (first_candidate cmp left) (first_of before (map candidate_place left)) (first-for left all.1)

  module _ (all : List (Candidate R)) (are : AllByRecursion Is all) where
    abbrev places : List ℕ
    places = map candidate_place all

    abbrev left : List ℕ → List ℕ
    left listed = filter (λ p. not (is_among listed p)) places

    next-place : (listed : List ℕ) → next_place cmp (is_among listed) all ≡ first_of before (filter (may_be_listed listed) (left listed))
    next-place listed =
        place-for (first_candidate cmp following) (first_of before (map candidate_place following)) (first-for following (kept Is (may_follow (is_among listed)) all are))
        ∙ ap (first_of before)
        (filter-places (may_follow (is_among listed)) by_place all (each Is (λ one. may_follow (is_among listed) one ≡ by_place one.place) (λ one is. ap (λ b. not (is_among listed one.place) && b) (listings one is listed)) all are)
        ∙ sym (filter-twice (λ p. not (is_among listed p)) (may_be_listed listed) places))
      where
        following : List (Candidate R)
        following = filter (may_follow (is_among listed)) all

        by_place : ℕ → Bool
        by_place p = not (is_among listed p) && may_be_listed listed p

    listed-places : (steps : ℕ) (listed : List ℕ) → candidates_from cmp all steps listed ≡ listed_from may_be_listed before steps listed (left listed)
    listed-places zero listed = refl
    listed-places (suc steps) listed =
        ap (and_later (λ place. candidates_from cmp all steps (listed ++ place ∷ []))) (next-place listed)
        ∙ later_same (λ place. candidates_from cmp all steps (listed ++ place ∷ [])) (λ place. listed_from may_be_listed before steps (listed ++ place ∷ []) (without place (left listed)))
        (first_of before (filter (may_be_listed listed) (left listed)))
        (λ place. listed-places steps (listed ++ place ∷ []) ∙ ap (listed_from may_be_listed before steps (listed ++ place ∷ [])) (sym (without-listed listed place places)))

    -- the candidates of some places are listed as these are
    pub in-order : (set : List ℕ) → places ≡ set → candidates_from cmp all (length all) [] ≡ in_order may_be_listed before set
    in-order set same =
        listed-places (length all) []
        ∙ ap (listed_from may_be_listed before (length all) []) (filter-whole places)
        ∙ ap (λ n. listed_from may_be_listed before n [] places) (length-places all)
        ∙ ap (λ ps. listed_from may_be_listed before (length ps) [] ps) same

-- what holds of all places holds of those that are listed
module _ (may_be_listed : MayBeListed) (before : Before) (P : ℕ → Type 0) where
  abbrev HoldsOf : Option ℕ → Type 0
  HoldsOf None = Unit {0}
  HoldsOf (Some place) = P place

  earlier-holds : (place : ℕ) (o : Option ℕ) → P place → HoldsOf o → P (earlier_of before place o)
  earlier-holds place None p h = p
  earlier-holds place (Some other) p h = elim (before other place) as (λ b. P (cond b other place)) [ true ↦ h | false ↦ p ]

  first-holds : (places : List ℕ) → AllByRecursion P places → HoldsOf (first_of before places)
  first-holds [] all = tt
  first-holds (place ∷ places) all = earlier-holds place (first_of before places) all.0 (first-holds places all.1)

  listed-hold : (steps : ℕ) (listed left : List ℕ) → AllByRecursion P left → AllByRecursion P (listed_from may_be_listed before steps listed left)
  listed-hold zero listed left all = tt
  listed-hold (suc steps) listed left all =
      by (λ place. listed-hold steps (listed ++ place ∷ []) (without place left) (kept P (λ p. not (eqb p place)) left all))
      (first_of before (filter (may_be_listed listed) left)) (first-holds (filter (may_be_listed listed) left) (kept P (may_be_listed listed) left all))
    where
      by : ((place : ℕ) → AllByRecursion P (listed_from may_be_listed before steps (listed ++ place ∷ []) (without place left))) → (o : Option ℕ) → HoldsOf o
          → AllByRecursion P (and_later (λ place. listed_from may_be_listed before steps (listed ++ place ∷ []) (without place left)) o)
      by rest None h = tt
      by rest (Some place) h = (h, rest place)

  pub order-holds : (places : List ℕ) → All P places → All P (in_order may_be_listed before places)
  order-holds places all = All-from_recursion P (in_order may_be_listed before places) (listed-hold (length places) [] places (recursion_from_All P places all))

-- ---- the steps of the loop

module _ {R : Type 0} (cmp : R → R → Ordering) (all : List (Candidate R)) (listed : List ℕ) where
  pub order-next : (n i place : ℕ) → i < n → next_place cmp (is_among listed) all ≡ Some place → candidates_from cmp all (n - i) listed ≡ place ∷ candidates_from cmp all (n - (i + 1)) (listed ++ place ∷ [])
  order-next n i place below first =
      let steps : n - i ≡ suc (n - (i + 1)) = omega arith in
      ap (λ k. candidates_from cmp all k listed) steps ∙ ap (and_later (λ p. candidates_from cmp all (n - (i + 1)) (listed ++ p ∷ []))) first

  pub order-end : (steps : ℕ) → next_place cmp (is_among listed) all ≡ None → candidates_from cmp all steps listed ≡ []
  order-end zero first = refl
  order-end (suc steps) first = ap (and_later (λ p. candidates_from cmp all steps (listed ++ p ∷ []))) first

  module _ (count : ℕ) (marks : List Bool) (are : AreMarks count (is_among listed) marks) (within : All (IsWithin count) all) where
    all-same : (ps : List ℕ) → AllByRecursion (λ p. p < count) ps → list_all (is_marked marks) ps ≡ list_all (is_among listed) ps
    all-same [] below = refl
    all-same (p ∷ ps) below = ap (λ b. b && list_all (is_marked marks) ps) (are.each p below.0) ∙ ap (λ b. is_among listed p && b) (all-same ps below.1)

    one-same : (one : Candidate R) → IsWithin count one → may_follow (is_marked marks) one ≡ may_follow (is_among listed) one
    one-same one is =
        ap (λ b. not b && list_all (is_marked marks) one.after.items) (are.each one.place is.place)
        ∙ ap (λ b. not (is_among listed one.place) && b) (all-same one.after.items (recursion_from_All (λ p. p < count) one.after.items is.after))

    -- by marks, the first is the same
    pub first-marked : next_place cmp (is_marked marks) all ≡ next_place cmp (is_among listed) all
    first-marked =
        ap (λ ones. option_map candidate_place (first_candidate cmp ones))
        (filter-same (may_follow (is_marked marks)) (may_follow (is_among listed)) all
        (each (IsWithin count) (λ one. may_follow (is_marked marks) one ≡ may_follow (is_among listed) one) one-same all (recursion_from_All (IsWithin count) all within)))

  abbrev PlaceBelow : ℕ → Option (Candidate R) → Type 0
  PlaceBelow count None = Unit {0}
  PlaceBelow count (Some one) = one.place < count

  earlier-below : (count : ℕ) (one : Candidate R) (o : Option (Candidate R)) → one.place < count → PlaceBelow count o → PlaceBelow count (Some (earlier_candidate cmp one o))
  earlier-below count one None h other = h
  earlier-below count one (Some c) h other = elim (is_lt (cmp c.rank one.rank)) as (λ b. (cond b c one).place < count) [ true ↦ other | false ↦ h ]

  first-below : (count : ℕ) (ones : List (Candidate R)) → AllByRecursion (IsWithin count) ones → PlaceBelow count (first_candidate cmp ones)
  first-below count [] below = tt
  first-below count (one ∷ ones) below = earlier-below count one (first_candidate cmp ones) below.0.place (first-below count ones below.1)

  place-below : (count place : ℕ) (o : Option (Candidate R)) → PlaceBelow count o → option_map candidate_place o ≡ Some place → place < count
  place-below count place None below e = absurd (cc)
  place-below count place (Some one) below e = let same : one.place ≡ place = cc in omega arith

  -- the first is one of them
  pub next-below : (count place : ℕ) → All (IsWithin count) all → next_place cmp (is_among listed) all ≡ Some place → place < count
  next-below count place within first =
      place-below count place (first_candidate cmp (filter (may_follow (is_among listed)) all))
      (first-below count (filter (may_follow (is_among listed)) all) (kept (IsWithin count) (may_follow (is_among listed)) all (recursion_from_All (IsWithin count) all within))) first

-- ---- marks of what is listed

pub marks-more : (count : ℕ) (listed grown : List ℕ) (marks : List Bool) (place : ℕ) → place < count → grown ≡ listed ++ place ∷ [] → AreMarks count (is_among listed) marks → AreMarks count (is_among grown) (set marks place true)
marks-more count listed grown marks place below more are = record {
  long = length-set marks place true ∙ are.long;
  each = λ q inside.
      let long = are.long in
      one_set marks place q (omega arith) ∙ ap (λ b. eqb place q || b) (are.each q inside) ∙ turned (eqb place q) (is_among listed q)
      ∙ sym (list_any-append (λ p. eqb p q) listed (place ∷ [])) ∙ ap (λ ps. is_among ps q) (sym more);
}
  where
    turned : (a b : Bool) → (a || b) ≡ (b || (a || false))
    turned true true = refl
    turned true false = refl
    turned false true = refl
    turned false false = refl

pub all-more : (marks : List Bool) (place : ℕ) → place < length marks → (ps : List ℕ) → list_all (is_marked marks) ps ≡ true → list_all (is_marked (set marks place true)) ps ≡ true
all-more marks place below [] h = refl
all-more marks place below (p ∷ ps) h =
    let parts = and_parts (is_marked marks p) (list_all (is_marked marks) ps) h in
    and_from (is_marked (set marks place true) p) (list_all (is_marked (set marks place true)) ps) (one_set marks place p below ∙ or_right (eqb place p) (is_marked marks p) parts.0) (all-more marks place below ps parts.1)

-- what is marked stays so
pub fronts-more : {R : Type 0} (marks : List Bool) (place : ℕ) (all : List (Candidate R)) (fronts : List ℕ) → place < length marks → AreListedFronts marks all fronts → AreListedFronts (set marks place true) all fronts
fronts-more marks place all fronts below are = record {
  long = are.long;
  each = λ index d inside. let front = are.each index d inside in record { within = front.within; marked = all-more marks place below (take (get_or fronts index 0) (get_or all index d).after.items) front.marked };
}

-- the front of one more is looked at
pub fronts-set : {R : Type 0} (marks : List Bool) (all : List (Candidate R)) (fronts : List ℕ) (i front : ℕ) (one : Candidate R) → i < length all → one ≡ get_or all i one
    → IsListedFront marks one.after.items front → AreListedFronts marks all fronts → AreListedFronts marks all (set fronts i front)
fronts-set {R} marks all fronts i front one below here is are = record {
  long = length-set fronts i front ∙ are.long;
  each = λ index d inside. by index d inside (cases_eq index i);
}
  where
    by : (index : ℕ) (d : Candidate R) → index < length all → (index ≡ i) ⊎ (index ≡ i → ⊥) → IsListedFront marks (get_or all index d).after.items (get_or (set fronts i front) index 0)
    by index d inside (inl e) =
        let long = are.long in
        let found : get_or all index d ≡ one = ap (λ k. get_or all k d) e ∙ get_or_default all i d one below ∙ sym here in
        let set_here : get_or (set fronts i front) index 0 ≡ front = ap (λ k. get_or (set fronts i front) k 0) e ∙ get_or-set_same fronts i front 0 (omega arith) in
        subst (λ (c : Candidate R). IsListedFront marks c.after.items (get_or (set fronts i front) index 0)) (sym found) (subst (λ (k : ℕ). IsListedFront marks one.after.items k) (sym set_here) is)
    by index d inside (inr n) =
        subst (λ (k : ℕ). IsListedFront marks (get_or all index d).after.items k) (sym (get_or-set_other fronts i index front 0 n)) (are.each index d inside)

-- one more, from the back
pub follow-step : {R : Type 0} (test : ℕ → Bool) (all : List (Candidate R)) (index : ℕ) (one : Candidate R) → 0 < index → index ≤ length all → one ≡ get_or all (index - 1) one → (b : Bool) → may_follow test one ≡ b
    → filter (may_follow test) (drop (index - 1) all) ≡ cond b (one ∷ filter (may_follow test) (drop index all)) (filter (may_follow test) (drop index all))
follow-step test all index one some most here b is =
    let below : index - 1 < length all = omega arith in
    let next : suc (index - 1) ≡ index = omega arith in
    ap (filter (may_follow test)) (drop-cons all (index - 1) one below ∙ ap (λ x. x ∷ drop (suc (index - 1)) all) (sym here) ∙ ap (λ k. one ∷ drop k all) next)
    ∙ ap (λ a. cond a (one ∷ filter (may_follow test) (drop index all)) (filter (may_follow test) (drop index all))) is
