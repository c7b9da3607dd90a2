-- Places that are listed, each time the first that may be listed: the list is in order.
use Rattle.std.proofs.Common.{◌≡◌, ◌≢◌, ◌≤◌, ℕ, zero, suc, List, [], ◌∷◌, ◌++◌, append-nil, append_assoc, length, Bool, true, false, true≢false, not, ◌&&◌, ◌||◌, cond, eqb, All, AllPairs, Option, None, Some, IfSome, Ordering, Less, Equal, Greater, refl, sym, ap, ◌∙◌, arith, ◌⊎◌, inl, inr}
use Rattle.std.proofs.lemmas.Bool.{cases_eq, eq-eqb, eqb-true, ne_eqb, or_left, or_right, or_cases, and_parts, and_from, false_from_ne_true}
use Rattle.std.proofs.lemmas.List.Elements.{All-head, All-tail, All-filter}
use Rattle.std.proofs.lemmas.List.Folds.{list_any-append}
use Rattle.std.proofs.lemmas.List.Kept.{AllPairs-cons}
use Rattle.std.specs.List.{filter}
use Rattle.std.specs.Ordering.{is_lt, is_gt, ordering_reverse}
use Rattle.std.specs.Cmp.{IsTotalOrder, upto, tied_itself}
use Rattle.fed_resolve.specs.Order.{Before, MayBeListed, IsOrder, earlier_of, first_of, without, and_later, listed_from, in_order, is_among}
use Rattle.fed_resolve.proofs.Among.{among-at, among-filter, all-among, fewer}

-- ---- the first of some places

pub record IsWeakOrder (P : ℕ → Type 0) (before : Before) : Type 0 where
  pub own : (p : ℕ) → P p → before p p ≡ false
  pub turned : (p q : ℕ) → P p → P q → before p q ≡ true → before q p ≡ false
  pub chained : (p q r : ℕ) → P p → P q → P r → before p q ≡ false → before q r ≡ false → before p r ≡ false

-- one of the places, before which none of them comes
record IsFirst (before : Before) (places : List ℕ) (place : ℕ) : Type 0 where
  pub among : is_among places place ≡ true
  pub none : (q : ℕ) → is_among places q ≡ true → before q place ≡ false

module _ (P : ℕ → Type 0) (before : Before) (weak : IsWeakOrder P before) where
  first-is : (places : List ℕ) → All P places → IfSome (first_of before places) (IsFirst before places)
  first-is [] all = tt
  first-is (place ∷ places) all = by places (All-tail P place places all) (first-is places (All-tail P place places all))
    where
      here : P place
      here = All-head P place places all

      itself : (xs : List ℕ) → is_among (place ∷ xs) place ≡ true
      itself xs = or_left (eqb place place) (is_among xs place) (eq-eqb place place refl)

      alone : (q : ℕ) → (eqb place q ≡ true) ⊎ (false ≡ true) → before q place ≡ false
      alone q (inl t) = ap (λ k. before k place) (sym (eqb-true place q t)) ∙ weak.own place here
      alone q (inr t) = absurd (cc)

      or : (xs : List ℕ) → All P xs → (other : ℕ) → IsFirst before xs other → (b : Bool) → before other place ≡ b → IsFirst before (place ∷ xs) (cond b other place)
      or xs rest other first true t = record {
        among = or_right (eqb place other) (is_among xs other) first.among;
        none = λ q h. later q (or_cases (eqb place q) (is_among xs q) h);
      }
        where
          later : (q : ℕ) → (eqb place q ≡ true) ⊎ (is_among xs q ≡ true) → before q other ≡ false
          later q (inl s) = ap (λ k. before k other) (sym (eqb-true place q s)) ∙ weak.turned other place (all-among P xs rest other first.among) here t
          later q (inr s) = first.none q s
      or xs rest other first false t = record { among = itself xs; none = λ q h. later q (or_cases (eqb place q) (is_among xs q) h) }
        where
          later : (q : ℕ) → (eqb place q ≡ true) ⊎ (is_among xs q ≡ true) → before q place ≡ false
          later q (inl s) = ap (λ k. before k place) (sym (eqb-true place q s)) ∙ weak.own place here
          later q (inr s) = weak.chained q other place (all-among P xs rest q s) (all-among P xs rest other first.among) here (first.none q s) t

      by : (xs : List ℕ) → All P xs → IfSome (first_of before xs) (IsFirst before xs) → IsFirst before (place ∷ xs) (earlier_of before place (first_of before xs))
      by [] rest first = record { among = itself []; none = λ q h. alone q (or_cases (eqb place q) false h) }
      by (x ∷ xs) rest first = or (x ∷ xs) rest (earlier_of before x (first_of before xs)) first (before (earlier_of before x (first_of before xs)) place) refl

-- what a total order says of the places' keys
module _ {K : Type 0} (R : K → K → Ordering) (total : IsTotalOrder R) (P : ℕ → Type 0) (before : Before) (key : (p : ℕ) → P p → K)
    (is : (p q : ℕ) (h : P p) (g : P q) → before p q ≡ is_lt (R (key p h) (key q g))) where
  mirrored : (r : Ordering) → is_lt (ordering_reverse r) ≡ is_gt r
  mirrored Less = refl
  mirrored Equal = refl
  mirrored Greater = refl

  one_way : (r : Ordering) → is_lt r ≡ true → is_lt (ordering_reverse r) ≡ false
  one_way Less h = refl
  one_way Equal h = absurd (cc)
  one_way Greater h = absurd (cc)

  behind : (p q : ℕ) (h : P p) (g : P q) → before p q ≡ is_gt (R (key q g) (key p h))
  behind p q h g = is p q h g ∙ ap is_lt (total.antisymm (key p h) (key q g)) ∙ mirrored (R (key q g) (key p h))

  pub weak-by : IsWeakOrder P before
  weak-by = record {
    own = λ p h. is p p h h ∙ ap is_lt (tied_itself total (key p h));
    turned = λ p q h g t. is q p g h ∙ ap is_lt (total.antisymm (key q g) (key p h)) ∙ one_way (R (key p h) (key q g)) (sym (is p q h g) ∙ t);
    chained = λ p q r h g f s t. behind p r h f ∙ upto total (key r f) (key q g) (key p h) (sym (behind q r g f) ∙ t) (sym (behind p q h g) ∙ s);
  }

-- ---- the list

-- what is listed of the places that are left, once those are listed
record IsRest (may_be_listed : MayBeListed) (before : Before) (listed left list : List ℕ) : Type 0 where
  pub same : (place : ℕ) → is_among list place ≡ is_among left place
  pub once : AllPairs (λ one other. one ≢ other) list
  pub in_turn : (front : List ℕ) (place : ℕ) (back : List ℕ) → list ≡ front ++ place ∷ back → may_be_listed (listed ++ front) place ≡ true
  pub first : (front : List ℕ) (place : ℕ) (back : List ℕ) (other : ℕ) → list ≡ front ++ place ∷ back → is_among back other ≡ true
      → may_be_listed (listed ++ front) other ≡ true → before other place ≡ false

no_split : (front : List ℕ) (place : ℕ) (back : List ℕ) → [] ≡ front ++ place ∷ back → ⊥
no_split [] place back e = cc
no_split (x ∷ front) place back e = cc

abbrev tail : List ℕ → List ℕ
tail [] = []
tail (x ∷ xs) = xs

rest-none : (may_be_listed : MayBeListed) (before : Before) (listed left : List ℕ) → ((q : ℕ) → is_among left q ≡ false) → IsRest may_be_listed before listed left []
rest-none may_be_listed before listed left none = record {
  same = λ q. sym (none q);
  once = λ i j d less within. absurd (omega arith);
  in_turn = λ front place back e. absurd (no_split front place back e);
  first = λ front place back other e h r. absurd (no_split front place back e);
}

abbrev kept : ℕ → ℕ → Bool
kept place p = not (eqb p place)

among-without : (place : ℕ) (places : List ℕ) (q : ℕ) → is_among (without place places) q ≡ (is_among places q && not (eqb q place))
among-without place places q = among-filter (kept place) places q

not_left : (place : ℕ) (places : List ℕ) → is_among (without place places) place ≡ false
not_left place places = among-without place places place ∙ ap (λ b. is_among places place && not b) (eq-eqb place place refl) ∙ none (is_among places place)
  where
    none : (b : Bool) → (b && false) ≡ false
    none true = refl
    none false = refl

-- one place, and the others
module _ (may_be_listed : MayBeListed) (before : Before) (listed left later : List ℕ) (place : ℕ) (among : is_among left place ≡ true) (now : may_be_listed listed place ≡ true)
    (none : (q : ℕ) → is_among left q ≡ true → may_be_listed listed q ≡ true → before q place ≡ false)
    (rest : IsRest may_be_listed before (listed ++ place ∷ []) (without place left) later) where
  both : (q : ℕ) → (place ≡ q) ⊎ ((place ≡ q) → ⊥) → (eqb place q || (is_among left q && not (eqb q place))) ≡ is_among left q
  both q (inl e) = or_left (eqb place q) (is_among left q && not (eqb q place)) (eq-eqb place q e) ∙ sym (ap (is_among left) (sym e) ∙ among)
  both q (inr n) = (λ i. ne_eqb place q n i || (is_among left q && not (ne_eqb q place (λ e. n (sym e)) i))) ∙ alone (is_among left q)
    where
      alone : (b : Bool) → (false || (b && not false)) ≡ b
      alone true = refl
      alone false = refl

  still_left : (q : ℕ) → is_among later q ≡ true → is_among left q ≡ true
  still_left q h = (and_parts (is_among left q) (not (eqb q place)) (sym (rest.same q ∙ among-without place left q) ∙ h)).0

  apart : All (λ other. place ≢ other) later
  apart = λ k d within e. true≢false (sym (among-at later k d within) ∙ ap (is_among later) (sym e) ∙ rest.same place ∙ not_left place left)

  in_turn-at : (front : List ℕ) (p : ℕ) (back : List ℕ) → place ∷ later ≡ front ++ p ∷ back → may_be_listed (listed ++ front) p ≡ true
  in_turn-at [] p back e = let same : place ≡ p = cc in ap (λ xs. may_be_listed xs p) (append-nil listed) ∙ ap (may_be_listed listed) (sym same) ∙ now
  in_turn-at (f ∷ front) p back e =
      let same : place ≡ f = cc in
      ap (λ k. may_be_listed (listed ++ k ∷ front) p) (sym same) ∙ ap (λ xs. may_be_listed xs p) (sym (append_assoc listed (place ∷ []) front)) ∙ rest.in_turn front p back (ap tail e)

  first-at : (front : List ℕ) (p : ℕ) (back : List ℕ) (other : ℕ) → place ∷ later ≡ front ++ p ∷ back → is_among back other ≡ true → may_be_listed (listed ++ front) other ≡ true → before other p ≡ false
  first-at [] p back other e h r =
      let same : place ≡ p = cc in
      let others : later ≡ back = ap tail e in
      ap (before other) (sym same) ∙ none other (still_left other (ap (λ xs. is_among xs other) others ∙ h)) (ap (λ xs. may_be_listed xs other) (sym (append-nil listed)) ∙ r)
  first-at (f ∷ front) p back other e h r =
      let same : place ≡ f = cc in
      rest.first front p back other (ap tail e) h (ap (λ xs. may_be_listed xs other) (append_assoc listed (place ∷ []) front) ∙ ap (λ k. may_be_listed (listed ++ k ∷ front) other) same ∙ r)

  rest-more : IsRest may_be_listed before listed left (place ∷ later)
  rest-more = record {
    same = λ q. ap (λ b. eqb place q || b) (rest.same q ∙ among-without place left q) ∙ both q (cases_eq place q);
    once = AllPairs-cons (λ one other. one ≢ other) place later apart rest.once;
    in_turn = in_turn-at;
    first = first-at;
  }

-- the places of a set are listed or left
abbrev pub AreListedOrLeft : List ℕ → List ℕ → List ℕ → Type 0
AreListedOrLeft set listed left = (q : ℕ) → is_among set q ≡ true → (is_among listed q ≡ true) ⊎ (is_among left q ≡ true)

module _ (may_be_listed : MayBeListed) (before : Before) (set : List ℕ) (P : ℕ → Type 0) (weak : IsWeakOrder P before)
    (goes_on : (listed left : List ℕ) → AreListedOrLeft set listed left → All P left → (p : ℕ) → is_among left p ≡ true → (r : ℕ) × ((is_among left r ≡ true) × (may_be_listed listed r ≡ true))) where
  moved : (listed left : List ℕ) (place : ℕ) → AreListedOrLeft set listed left → AreListedOrLeft set (listed ++ place ∷ []) (without place left)
  moved listed left place split q h = by (split q h) (cases_eq place q)
    where
      by : (is_among listed q ≡ true) ⊎ (is_among left q ≡ true) → (place ≡ q) ⊎ ((place ≡ q) → ⊥) → (is_among (listed ++ place ∷ []) q ≡ true) ⊎ (is_among (without place left) q ≡ true)
      by (inl t) c = inl (list_any-append (λ p. eqb p q) listed (place ∷ []) ∙ or_left (is_among listed q) (is_among (place ∷ []) q) t)
      by (inr t) (inl e) = inl (list_any-append (λ p. eqb p q) listed (place ∷ []) ∙ or_right (is_among listed q) (is_among (place ∷ []) q) (or_left (eqb place q) false (eq-eqb place q e)))
      by (inr t) (inr n) = inr (among-without place left q ∙ and_from (is_among left q) (not (eqb q place)) t (ap not (ne_eqb q place (λ e. n (sym e)))))

  listed-rest : (steps : ℕ) (listed left : List ℕ) → length left ≤ steps → All P left → AreListedOrLeft set listed left → IsRest may_be_listed before listed left (listed_from may_be_listed before steps listed left)
  listed-rest zero listed [] few all split = rest-none may_be_listed before listed [] (λ q. refl)
  listed-rest zero listed (x ∷ left) few all split = absurd (omega arith)
  listed-rest (suc steps) listed left few all split =
      by (first_of before (filter (may_be_listed listed) left)) refl (first-is P before weak (filter (may_be_listed listed) left) (All-filter (may_be_listed listed) P left all))
      (λ place among. listed-rest steps (listed ++ place ∷ []) (without place left) (let less = fewer place left among in omega arith) (All-filter (kept place) P left all) (moved listed left place split))
    where
      in_rest : (q : ℕ) → is_among left q ≡ true → may_be_listed listed q ≡ true → is_among (filter (may_be_listed listed) left) q ≡ true
      in_rest q h r = among-filter (may_be_listed listed) left q ∙ and_from (is_among left q) (may_be_listed listed q) h r

      found : (xs : List ℕ) (q : ℕ) → is_among xs q ≡ true → first_of before xs ≡ None → ⊥
      found [] q h e = true≢false (sym h)
      found (x ∷ xs) q h e = cc

      by : (o : Option ℕ) → first_of before (filter (may_be_listed listed) left) ≡ o → IfSome o (IsFirst before (filter (may_be_listed listed) left))
          → ((place : ℕ) → is_among left place ≡ true → IsRest may_be_listed before (listed ++ place ∷ []) (without place left) (listed_from may_be_listed before steps (listed ++ place ∷ []) (without place left)))
          → IsRest may_be_listed before listed left (and_later (λ place. listed_from may_be_listed before steps (listed ++ place ∷ []) (without place left)) o)
      by None e first rest =
          rest-none may_be_listed before listed left
          (λ q. false_from_ne_true (is_among left q) (λ h. let some = goes_on listed left split all q h in found (filter (may_be_listed listed) left) some.0 (in_rest some.0 some.1.0 some.1.1) e))
      by (Some place) e first rest =
          let parts = and_parts (is_among left place) (may_be_listed listed place) (sym (among-filter (may_be_listed listed) left place) ∙ first.among) in
          rest-more may_be_listed before listed left (listed_from may_be_listed before steps (listed ++ place ∷ []) (without place left)) place parts.0 parts.1 (λ q h r. first.none q (in_rest q h r)) (rest place parts.0)

  pub order-is : All P set → IsOrder may_be_listed before set (in_order may_be_listed before set)
  order-is all = record { same = whole.same; once = whole.once; in_turn = whole.in_turn; first = whole.first }
    where
      whole : IsRest may_be_listed before [] set (in_order may_be_listed before set)
      whole = listed-rest (length set) [] set (omega arith) all (λ q h. inr h)
