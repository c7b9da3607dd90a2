-- Places that are listed in an order: what they are among, and what their order is by.
use Rattle.std.proofs.Common.{◌≡◌, ℕ, zero, suc, List, [], ◌∷◌, ◌++◌, length, Bool, true, false, not, cond, All, Option, None, Some, IfSome, eqb, refl, ap, ◌∙◌}
use Rattle.std.proofs.lemmas.List.Elements.{All-head, All-tail, All-nil, All-cons, All-filter, All-weaker}
use Rattle.std.specs.List.{filter}
use Rattle.fed_resolve.specs.Order.{Before, MayBeListed, earlier_of, first_of, without, and_later, listed_from, in_order}
use Rattle.fed_resolve.proofs.Agreement.{filter-agree}

-- what holds of each place holds of each that is listed
module _ (P : ℕ → Type 0) where
  pub first-passes : (before : Before) (places : List ℕ) → All P places → IfSome (first_of before places) P
  first-passes before [] all = tt
  first-passes before (place ∷ places) all = by (first_of before places) (first-passes before places (All-tail P place places all))
    where
      chosen : (other : ℕ) → P other → (b : Bool) → P (cond b other place)
      chosen other h true = h
      chosen other h false = All-head P place places all

      by : (o : Option ℕ) → IfSome o P → P (earlier_of before place o)
      by None h = All-head P place places all
      by (Some other) h = chosen other h (before other place)

  and-later : (later : ℕ → List ℕ) → ((place : ℕ) → P place → All P (later place)) → (o : Option ℕ) → IfSome o P → All P (and_later later o)
  and-later later passes None h = All-nil P
  and-later later passes (Some place) h = All-cons P place (later place) h (passes place h)

  listed-passes : (may : MayBeListed) (before : Before) (steps : ℕ) (listed left : List ℕ) → All P left → All P (listed_from may before steps listed left)
  listed-passes may before zero listed left all = All-nil P
  listed-passes may before (suc steps) listed left all =
      and-later (λ place. listed_from may before steps (listed ++ place ∷ []) (without place left))
      (λ place h. listed-passes may before steps (listed ++ place ∷ []) (without place left) (All-filter (λ p. not (eqb p place)) P left all))
      (first_of before (filter (may listed) left))
      (first-passes before (filter (may listed) left) (All-filter (may listed) P left all))

  pub order-passes : (may : MayBeListed) (before : Before) (places : List ℕ) → All P places → All P (in_order may before places)
  order-passes may before places all = listed-passes may before (length places) [] places all

-- what agrees at places of a kind lists these in one order
module _ (P : ℕ → Type 0) (may may_too : MayBeListed) (before before_too : Before)
    (same_may : (listed : List ℕ) (p : ℕ) → P p → may listed p ≡ may_too listed p)
    (same_before : (p q : ℕ) → P p → P q → before p q ≡ before_too p q) where
  first-same : (places : List ℕ) → All P places → first_of before places ≡ first_of before_too places
  first-same [] all = refl
  first-same (place ∷ places) all =
      ap (λ o. Some (earlier_of before place o)) (first-same places (All-tail P place places all))
      ∙ ap Some (by (first_of before_too places) (first-passes P before_too places (All-tail P place places all)))
    where
      by : (o : Option ℕ) → IfSome o P → earlier_of before place o ≡ earlier_of before_too place o
      by None h = refl
      by (Some other) h = ap (λ b. cond b other place) (same_before other place h (All-head P place places all))

  listed-same : (steps : ℕ) (listed left : List ℕ) → All P left → listed_from may before steps listed left ≡ listed_from may_too before_too steps listed left
  listed-same zero listed left all = refl
  listed-same (suc steps) listed left all =
      ap (λ o. and_later (λ place. listed_from may before steps (listed ++ place ∷ []) (without place left)) o)
      (ap (first_of before) (filter-agree (may listed) (may_too listed) left (All-weaker P (λ p. may listed p ≡ may_too listed p) (λ p h. same_may listed p h) left all))
      ∙ first-same (filter (may_too listed) left) (All-filter (may_too listed) P left all))
      ∙ (λ i. and_later (λ place. listed-same steps (listed ++ place ∷ []) (without place left) (All-filter (λ p. not (eqb p place)) P left all) i) (first_of before_too (filter (may_too listed) left)))

  pub order-same : (places : List ℕ) → All P places → in_order may before places ≡ in_order may_too before_too places
  order-same places all = listed-same (length places) [] places all
