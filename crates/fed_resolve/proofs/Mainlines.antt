-- Positions in a mainline.
use Rattle.std.proofs.Common.{◌≡◌, ◌<◌, ◌≤◌, ◌+◌, ◌-◌, ℕ, zero, suc, List, [], ◌∷◌, Bool, true, false, not, cond, eqb, min, nat_lt, Option, None, Some, IfSome, is_some, length, refl, sym, ap, subst, ◌∙◌, ◌⊎◌, inl, inr, arith}
use Rattle.std.specs.List.{position, position_from, position_or_len, slice_index_or}
use Rattle.std.proofs.lemmas.Bool.{cases_eq, eq-eqb, ne_eqb}
use Rattle.std.proofs.lemmas.Iterator.Adapters.{position_from-zero}
use Rattle.std.proofs.lemmas.List.Quantifiers.{position-Some}
use Rattle.fed_room_contract.specs.declared.graph.Stored.{Stored}
use Rattle.fed_room_contract.specs.Graph.{IsAuthGraph}
use Rattle.fed_resolve.specs.Mainline.{least_of, least_index, mainline, mainline_from, levels_auth}
use Rattle.fed_resolve.specs.RankParts.{AreIndices}
use Rattle.fed_resolve.proofs.Reached.{auth-levels_below}

least_of-assoc : (a b c : Option ℕ) → least_of (least_of a b) c ≡ least_of a (least_of b c)
least_of-assoc None b c = refl
least_of-assoc (Some i) None c = refl
least_of-assoc (Some i) (Some j) None = refl
least_of-assoc (Some i) (Some j) (Some k) = let same : min (min i j) k ≡ min i (min j k) = omega arith in ap Some same

-- ---- places that fall

-- each place is below the one before it, and the first below the bound
abbrev Fall : ℕ → List ℕ → Type 0
Fall bound [] = Unit {0}
Fall bound (place ∷ places) = (place < bound) × Fall place places

fall-more : (places : List ℕ) (bound more : ℕ) → bound ≤ more → Fall bound places → Fall more places
fall-more [] bound more h fall = tt
fall-more (place ∷ places) bound more h fall = (let below = fall.0 in omega arith, fall.1)

abbrev first_at : ℕ → List ℕ → ℕ
first_at place places = position_or_len (λ p. eqb p place) places

-- no place that is not below the bound is among them
nowhere : (places : List ℕ) (bound place : ℕ) → bound ≤ place → Fall bound places → length places ≤ first_at place places
nowhere [] bound place h fall = omega arith
nowhere (p ∷ places) bound place h fall =
    let below = fall.0 in
    let rest = nowhere places p place (omega arith) fall.1 in
    let other : eqb p place ≡ false = ne_eqb p place (λ e. omega arith) in
    subst (λ (b : Bool). length (p ∷ places) ≤ cond (not b) (1 + first_at place places) 0) (sym other) (omega arith)

-- a smaller place comes later
later : (line : List ℕ) (bound p q : ℕ) → q < p → Fall bound line → first_at p line < length line → first_at p line ≤ first_at q line
later [] bound p q h fall found = omega arith
later (x ∷ line) bound p q h fall found = by (λ inside. later line x p q h fall.1 inside) (cases_eq x p) (cases_eq x q)
  where
    by : (first_at p line < length line → first_at p line ≤ first_at q line) → (x ≡ p) ⊎ (x ≡ p → ⊥) → (x ≡ q) ⊎ (x ≡ q → ⊥) → first_at p (x ∷ line) ≤ first_at q (x ∷ line)
    by others (inl e) other = subst (λ (b : Bool). cond (not b) (1 + first_at p line) 0 ≤ first_at q (x ∷ line)) (sym (eq-eqb x p e)) (omega arith)
    by others (inr n) other =
        let apart = ne_eqb x p n in
        let inside : 1 + first_at p line < length (x ∷ line) = subst (λ (b : Bool). cond (not b) (1 + first_at p line) 0 < length (x ∷ line)) apart found in
        subst (λ (b : Bool). cond (not b) (1 + first_at p line) 0 ≤ first_at q (x ∷ line)) (sym apart) (of other (omega arith))
      where
        of : (x ≡ q) ⊎ (x ≡ q → ⊥) → first_at p line < length line → 1 + first_at p line ≤ first_at q (x ∷ line)
        of (inl e) inside = absurd (let past = nowhere line x p (omega arith) fall.1 in omega arith)
        of (inr m) inside =
            let rest = others inside in
            subst (λ (b : Bool). 1 + first_at p line ≤ cond (not b) (1 + first_at q line) 0) (sym (ne_eqb x q m)) (omega arith)

chosen : (b : Bool) (n k : ℕ) → cond b (Some n) None ≡ Some k → n ≡ k
chosen true n k e = cc
chosen false n k e = absurd (cc)

stays : (b : Bool) (i j : ℕ) → i ≤ j → least_of (Some i) (cond b (Some j) None) ≡ Some i
stays true i j h = let same : min i j ≡ i = omega arith in ap Some same
stays false i j h = refl

-- what comes after a mainline event that is met has no smaller index
least-stays : (line : List ℕ) (bound p i : ℕ) → Fall bound line → position (λ a. eqb a p) line ≡ Some i → (places : List ℕ) → Fall p places → least_of (Some i) (least_index line places) ≡ Some i
least-stays line bound p i fall there [] below = refl
least-stays line bound p i fall there (q ∷ places) below =
    let found = position-Some (λ a. eqb a p) line i 0 there in
    let first : first_at p line ≡ i = chosen (nat_lt (first_at p line) (length line)) (first_at p line) i there in
    let after = later line bound p q below.0 fall (omega (arith, found.0)) in
    let smaller = below.0 in
    sym (least_of-assoc (Some i) (position (λ a. eqb a q) line) (least_index line places))
    ∙ ap (λ o. least_of o (least_index line places)) (stays (nat_lt (first_at q line) (length line)) i (first_at q line) (omega arith))
    ∙ least-stays line bound p i fall there places (fall-more places q p (omega arith) below.1)

-- all of the list is looked at
pub indices-whole : (count : ℕ) (line : List ℕ) (indices : List (Option ℕ)) → length indices ≡ count
    → ((place : ℕ) → place < count → slice_index_or indices place None ≡ position_from (λ p. eqb p place) 0 line) → AreIndices count line indices
indices-whole count line indices long each = record { long = long; each = λ place below. each place below ∙ sym (position_from-zero (λ p. eqb p place) line) }

-- ---- the steps of the walks

module _ (events : List Stored) where
  pub line-next : (n i : ℕ) (next : Option ℕ) (place : ℕ) → i < n → next ≡ Some place → mainline_from events (n - i) next ≡ place ∷ mainline_from events (n - (i + 1)) (levels_auth events place)
  line-next n i next place below some =
      let steps : n - i ≡ suc (n - (i + 1)) = omega arith in
      ap (λ k. mainline_from events k next) steps ∙ ap (mainline_from events (suc (n - (i + 1)))) some

  pub line-end : (steps : ℕ) (next : Option ℕ) → next ≡ None → mainline_from events steps next ≡ []
  line-end zero next none = refl
  line-end (suc steps) next none = ap (mainline_from events (suc steps)) none

  module _ (graph : IsAuthGraph events) where
    line-falls : (steps : ℕ) (next : Option ℕ) (bound : ℕ) → IfSome next (λ p. p < bound) → Fall bound (mainline_from events steps next)
    line-falls zero next bound below = tt
    line-falls (suc steps) None bound below = tt
    line-falls (suc steps) (Some p) bound below = (below, line-falls steps (levels_auth events p) p (auth-levels_below events graph p (levels_auth events p) refl))

    mainline-falls : (levels : Option ℕ) → (bound : ℕ) × Fall bound (mainline events levels)
    mainline-falls None = (0, line-falls (length events) None 0 tt)
    mainline-falls (Some p) = (suc p, line-falls (length events) (Some p) (suc p) (omega arith))

    module _ (levels : Option ℕ) (indices : List (Option ℕ)) (are : AreIndices (length events) (mainline events levels) indices) (n i : ℕ) (next : Option ℕ) (place : ℕ) (below : i < n) (some : next ≡ Some place) (within : place < length events) where
      abbrev line : List ℕ
      line = mainline events levels

      abbrev rest : List ℕ
      rest = mainline_from events (n - (i + 1)) (levels_auth events place)

      met : least_index line (mainline_from events (n - i) next) ≡ least_of (slice_index_or indices place None) (least_index line rest)
      met = ap (least_index line) (line-next n i next place below some) ∙ ap (λ o. least_of o (least_index line rest)) (sym (are.each place within))

      -- the walk meets the mainline
      least-met : (index : ℕ) → slice_index_or indices place None ≡ Some index → Some index ≡ least_index line (mainline_from events (n - i) next)
      least-met index here =
          let fall = mainline-falls levels in
          sym
          (met ∙ ap (λ o. least_of o (least_index line rest)) here
          ∙ least-stays line fall.0 place index fall.1 (sym (are.each place within) ∙ here) rest (line-falls (n - (i + 1)) (levels_auth events place) place (auth-levels_below events graph place (levels_auth events place) refl)))

      -- the index that is found there, where one is
      pub least-here : is_some (slice_index_or indices place None) ≡ true → slice_index_or indices place None ≡ least_index line (mainline_from events (n - i) next)
      least-here h = by (slice_index_or indices place None) refl h
        where
          by : (o : Option ℕ) → slice_index_or indices place None ≡ o → is_some o ≡ true → slice_index_or indices place None ≡ least_index line (mainline_from events (n - i) next)
          by None e t = absurd (cc)
          by (Some index) e t = e ∙ least-met index e

      -- it does not meet it yet
      pub least-further : slice_index_or indices place None ≡ None → least_index line rest ≡ least_index line (mainline_from events (n - i) next)
      least-further none = sym (met ∙ ap (λ o. least_of o (least_index line rest)) none)

  pub least-end : (line : List ℕ) (steps : ℕ) (next : Option ℕ) → next ≡ None → None ≡ least_index line (mainline_from events steps next)
  least-end line steps next none = ap (least_index line) (sym (line-end steps next none))
