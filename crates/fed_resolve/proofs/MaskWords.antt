-- Words of marks: their bits, and what a walk makes of them.
use Rattle.std.proofs.Common.{◌≡◌, ◌<◌, ◌≤◌, ◌+◌, ◌-◌, ◌^◌, ℕ, suc, List, [], ◌∷◌, ◌++◌, Bool, true, false, true≢false, not, ◌||◌, ◌&&◌, eqb, max, nat_lt, None, Some, Contains, length, set, take, get_or, refl, sym, ap, subst, ◌∙◌, ◌⊎◌, inl, inr, arith}
use Rattle.std.specs.List.{list_any, list_all, slice_get, slice_index_or}
use Rattle.std.specs.Int.{bit_at}
use Rattle.std.specs.Int.Bits.{bit_or}
use Rattle.std.proofs.lemmas.Bool.{cases_eq, cases_lt, eq-eqb, ne_eqb, eqb-true, lt-ltb, le-ltb, or_left, true_from_ne_false, false_from_ne_true, not-true, not_from_false}
use Rattle.std.proofs.lemmas.List.{get_or-map, get_or-set_same, get_or-set_other, get_or_default, length-map, length-set}
use Rattle.std.proofs.lemmas.List.Folds.{list_any-append, list_any_at, list_any_more}
use Rattle.std.proofs.lemmas.Nat.Bits.{bit_at-zero, bit_at-lt, bit_at_or, bit_at-pow_same, bit_at-pow_other, bit_at_ones, bit_at_ones_above, same_from_bits}
use Rattle.std.proofs.lemmas.Option.{slice_get_cases, slice_get_past}
use Rattle.fed_event.specs.Tests.{holds}
use Rattle.fed_room_contract.specs.declared.graph.Stored.{Stored}
use Rattle.fed_room_contract.specs.Graph.{IsAuthGraph}
use Rattle.fed_resolve.specs.ChainParts.{AreClosedFrom, is_marked, is_auth}
use Rattle.fed_resolve.specs.Marks.{AreMarks}
use Rattle.fed_resolve.specs.Order.{is_among}
use Rattle.fed_resolve.specs.MaskParts.{has_bit, bit_marks, is_auth_of, with_bits, AreMasked, group_in, group_of, AreFirstMasks, AreChainMasks}
use Rattle.fed_resolve.proofs.ChainMarks.{same_by, closed-step, closed-skip, chains_marked_from}
use Rattle.fed_resolve.proofs.SameStates.{contained, all_from, all_at}

-- ---- one bit

greater : (a b : ℕ) → a < 2 → b < 2 → eqb (max a b) 1 ≡ (eqb a 1 || eqb b 1)
greater a b small too = by (cases_eq a 1)
  where
    by : (a ≡ 1) ⊎ (a ≡ 1 → ⊥) → eqb (max a b) 1 ≡ (eqb a 1 || eqb b 1)
    by (inl e) = let most : max a b ≡ 1 = omega arith in eq-eqb _ 1 most ∙ sym (or_left (eqb a 1) (eqb b 1) (eq-eqb a 1 e))
    by (inr n) = let most : max a b ≡ b = omega arith in ap (λ k. eqb k 1) most ∙ sym (ap (λ t. t || eqb b 1) (ne_eqb a 1 n))

has_bit-or : (bit a b : ℕ) → has_bit bit (bit_or a b) ≡ (has_bit bit a || has_bit bit b)
has_bit-or bit a b = ap (λ k. eqb k 1) (bit_at_or a b bit) ∙ greater (bit_at a bit) (bit_at b bit) (bit_at-lt a bit) (bit_at-lt b bit)

has_bit-zero : (bit : ℕ) → has_bit bit 0 ≡ false
has_bit-zero bit = ap (λ k. eqb k 1) (bit_at-zero bit)

same_bit : (a b bit : ℕ) → has_bit bit a ≡ has_bit bit b → bit_at a bit ≡ bit_at b bit
same_bit a b bit h = by (cases_eq (bit_at a bit) 1)
  where
    by : (bit_at a bit ≡ 1) ⊎ (bit_at a bit ≡ 1 → ⊥) → bit_at a bit ≡ bit_at b bit
    by (inl e) = e ∙ sym (eqb-true (bit_at b bit) 1 (sym h ∙ eq-eqb (bit_at a bit) 1 e))
    by (inr n) = other (cases_eq (bit_at b bit) 1)
      where
        other : (bit_at b bit ≡ 1) ⊎ (bit_at b bit ≡ 1 → ⊥) → bit_at a bit ≡ bit_at b bit
        other (inl e) = absurd (true≢false (sym (eq-eqb (bit_at b bit) 1 e) ∙ sym h ∙ ne_eqb (bit_at a bit) 1 n))
        other (inr m) = let small = bit_at-lt a bit in let too = bit_at-lt b bit in omega arith

-- words with the same bits are equal
same_word : (a b : ℕ) → ((bit : ℕ) → has_bit bit a ≡ has_bit bit b) → a ≡ b
same_word a b h = same_from_bits a b (λ bit. same_bit a b bit (h bit))

pub or_false : (b : Bool) → (b || false) ≡ b
or_false true = refl
or_false false = refl

pub and_true : (b : Bool) → (b && true) ≡ b
and_true true = refl
and_true false = refl

and_false : (b : Bool) → (b && false) ≡ false
and_false true = refl
and_false false = refl

or_or : (a b : Bool) → ((a || b) || b) ≡ (a || b)
or_or true b = refl
or_or false true = refl
or_or false false = refl

or_twice : (a b : ℕ) → bit_or (bit_or a b) b ≡ bit_or a b
or_twice a b =
    same_word (bit_or (bit_or a b) b) (bit_or a b)
    (λ bit. has_bit-or bit (bit_or a b) b ∙ ap (λ t. t || has_bit bit b) (has_bit-or bit a b) ∙ or_or (has_bit bit a) (has_bit bit b) ∙ sym (has_bit-or bit a b))

-- ---- words with bits added

has_bit-with : (bit bits mask : ℕ) (pass : Bool) → has_bit bit (with_bits bits pass mask) ≡ (has_bit bit mask || (has_bit bit bits && pass))
has_bit-with bit bits mask true = has_bit-or bit mask bits ∙ ap (λ t. has_bit bit mask || t) (sym (and_true (has_bit bit bits)))
has_bit-with bit bits mask false = sym (ap (λ t. has_bit bit mask || t) (and_false (has_bit bit bits)) ∙ or_false (has_bit bit mask))

with_both : (bits mask : ℕ) (one other : Bool) → with_bits bits other (with_bits bits one mask) ≡ with_bits bits (one || other) mask
with_both bits mask true true = or_twice mask bits
with_both bits mask true false = refl
with_both bits mask false other = refl

-- one place after others
pub masked-both : (count bits : ℕ) (one other : ℕ → Bool) (first before after : List ℕ) → AreMasked count one bits first before → AreMasked count other bits before after
    → AreMasked count (λ q. one q || other q) bits first after
masked-both count bits one other first before after a b = record {
  long = b.long;
  each = λ q below. b.each q below ∙ ap (with_bits bits (other q)) (a.each q below) ∙ with_both bits (get_or first q 0) (one q) (other q);
}

-- nothing is masked yet
pub masked-none : (count bits : ℕ) (masks : List ℕ) → length masks ≡ count → AreMasked count (λ q. false) bits masks masks
masked-none count bits masks long = record { long = long; each = λ q below. refl }

-- the same for another test that says the same
pub masked-same : (count bits : ℕ) (one other : ℕ → Bool) (before after : List ℕ) → ((q : ℕ) → one q ≡ other q) → AreMasked count one bits before after → AreMasked count other bits before after
masked-same count bits one other before after same a = record { long = a.long; each = λ q below. a.each q below ∙ ap (λ t. with_bits bits t (get_or before q 0)) (same q) }

-- the word of the first of some places has the bits: the others are left
pub masked-next : (places masks : List ℕ) (bits p q : ℕ) → p < length masks
    → with_bits bits (is_among places q) (get_or (set masks p (bit_or (get_or masks p 0) bits)) q 0) ≡ with_bits bits (is_among (p ∷ places) q) (get_or masks q 0)
masked-next places masks bits p q below = by (cases_eq p q)
  where
    new : ℕ
    new = bit_or (get_or masks p 0) bits

    by : (p ≡ q) ⊎ (p ≡ q → ⊥) → with_bits bits (is_among places q) (get_or (set masks p new) q 0) ≡ with_bits bits (is_among (p ∷ places) q) (get_or masks q 0)
    by (inl e) =
        ap (λ k. with_bits bits (is_among places q) (get_or (set masks p new) k 0)) (sym e)
        ∙ ap (with_bits bits (is_among places q)) (get_or-set_same masks p new 0 below)
        ∙ with_both bits (get_or masks p 0) true (is_among places q)
        ∙ ap (λ k. bit_or (get_or masks k 0) bits) e
        ∙ sym (ap (λ t. with_bits bits t (get_or masks q 0)) (or_left (eqb p q) (is_among places q) (eq-eqb p q e)))
    by (inr n) =
        ap (with_bits bits (is_among places q)) (get_or-set_other masks p q new 0 (λ e. n (sym e)))
        ∙ sym (ap (λ t. with_bits bits (t || is_among places q) (get_or masks q 0)) (ne_eqb p q n))

-- one more of some places
pub masked-more : (count bits : ℕ) (places first masks : List ℕ) (i : ℕ) → i < length places → get_or places i 0 < count → AreMasked count (is_among (take i places)) bits first masks
    → AreMasked count (is_among (take (i + 1) places)) bits first (set masks (get_or places i 0) (bit_or (get_or masks (get_or places i 0) 0) bits))
masked-more count bits places first masks i inside below are = record {
  long = length-set masks (get_or places i 0) _ ∙ are.long;
  each = λ q within.
      masked-next [] masks bits (get_or places i 0) q (omega (arith, are.long))
      ∙ ap (λ t. with_bits bits t (get_or masks q 0)) (or_false (eqb (get_or places i 0) q))
      ∙ ap (with_bits bits (eqb (get_or places i 0) q)) (are.each q within)
      ∙ with_both bits (get_or first q 0) (is_among (take i places) q) (eqb (get_or places i 0) q)
      ∙ ap (λ t. with_bits bits t (get_or first q 0)) (sym (list_any_more (λ p. eqb p q) places i 0 inside));
}

-- the marks of one bit
is_marked-bit : (bit : ℕ) (masks : List ℕ) (q : ℕ) → q < length masks → is_marked (bit_marks bit masks) q ≡ has_bit bit (get_or masks q 0)
is_marked-bit bit masks q below = get_or-map (has_bit bit) masks q 0 false below

long-bits : (bit : ℕ) (masks : List ℕ) → length (bit_marks bit masks) ≡ length masks
long-bits bit masks = length-map masks (has_bit bit)

pub masked-marks : (count bits : ℕ) (test : ℕ → Bool) (before after : List ℕ) → length before ≡ count → AreMasked count test bits before after
    → (bit : ℕ) → AreMarks count (λ q. is_marked (bit_marks bit before) q || (has_bit bit bits && test q)) (bit_marks bit after)
masked-marks count bits test before after long masked bit = record {
  long = long-bits bit after ∙ masked.long;
  each = λ q below.
      is_marked-bit bit after q (omega (arith, masked.long)) ∙ ap (has_bit bit) (masked.each q below) ∙ has_bit-with bit bits (get_or before q 0) (test q)
      ∙ ap (λ t. t || (has_bit bit bits && test q)) (sym (is_marked-bit bit before q (omega (arith, long))));
}

-- ---- the walk down

module _ (events : List Stored) (graph : IsAuthGraph events) (from p : ℕ) (near : from ≤ suc p) (first before : List ℕ) (long : length before ≡ length events) (within : p < length events) (closed : (bit : ℕ) → AreClosedFrom events from (bit_marks bit first) (bit_marks bit before)) where
  -- a place whose word has bits
  pub masks-carried : (after : List ℕ) → AreMasked (length events) (is_auth events p) (get_or before p 0) before after → (bit : ℕ) → AreClosedFrom events p (bit_marks bit first) (bit_marks bit after)
  masks-carried after masked bit = by (has_bit bit (get_or before p 0)) refl (masked-marks (length events) (get_or before p 0) (is_auth events p) before after long masked bit)
    where
      here : is_marked (bit_marks bit before) p ≡ has_bit bit (get_or before p 0)
      here = is_marked-bit bit before p (omega (arith, long))

      by : (b : Bool) → has_bit bit (get_or before p 0) ≡ b → AreMarks (length events) (λ q. is_marked (bit_marks bit before) q || (has_bit bit (get_or before p 0) && is_auth events p q)) (bit_marks bit after)
          → AreClosedFrom events p (bit_marks bit first) (bit_marks bit after)
      by true t marks =
          closed-step events graph from p near (bit_marks bit first) (bit_marks bit before) (closed bit) (bit_marks bit after) within (here ∙ t)
          (subst (λ (b : Bool). AreMarks (length events) (λ q. is_marked (bit_marks bit before) q || (b && is_auth events p q)) (bit_marks bit after)) t marks)
      by false t marks =
          closed-skip events graph from p near (bit_marks bit first) (bit_marks bit before) (closed bit) (bit_marks bit after) (here ∙ t) (long-bits bit before ∙ long)
          (record {
            long = marks.long;
            each = λ q below. marks.each q below ∙ ap (λ (b : Bool). is_marked (bit_marks bit before) q || (b && is_auth events p q)) t ∙ or_false (is_marked (bit_marks bit before) q);
          })

  -- a place whose word has none
  pub masks-skipped : get_or before p 0 ≡ 0 → (bit : ℕ) → AreClosedFrom events p (bit_marks bit first) (bit_marks bit before)
  masks-skipped none bit =
      closed-skip events graph from p near (bit_marks bit first) (bit_marks bit before) (closed bit) (bit_marks bit before)
      (is_marked-bit bit before p (omega (arith, long)) ∙ ap (has_bit bit) none ∙ has_bit-zero bit) (long-bits bit before ∙ long)
      (record { long = long-bits bit before ∙ long; each = λ q below. refl })

-- ---- groups

module _ {X : Type 0} (events : List Stored) (places : X → List ℕ) (xs : List X) where
  -- no group yet
  pub first-none : (masks : List ℕ) → length masks ≡ length events → ((q : ℕ) → get_or masks q 0 ≡ 0) → AreFirstMasks events places xs 0 masks
  first-none masks long none = record {
    long = long;
    each = λ bit q below. ap (has_bit bit) (none q) ∙ has_bit-zero bit ∙ sym (ap (λ t. t && is_auth_of events (group_of places xs bit) q) (le-ltb bit 0 (omega arith)));
  }

  -- one more
  pub first-more : (i : ℕ) (x : X) (bits : ℕ) (before after : List ℕ) → slice_get xs i ≡ Some x → bits ≡ 2 ^ i → AreFirstMasks events places xs i before
      → AreMasked (length events) (is_auth_of events (places x)) bits before after → AreFirstMasks events places xs (i + 1) after
  first-more i x bits before after here word firsts masked = record {
    long = masked.long;
    each = λ bit q below.
        ap (has_bit bit) (masked.each q below) ∙ has_bit-with bit bits (get_or before q 0) (is_auth_of events (places x) q)
        ∙ ap (λ t. t || (has_bit bit bits && is_auth_of events (places x) q)) (firsts.each bit q below)
        ∙ by bit q (cases_eq bit i) (cases_lt bit i);
  }
    where
      auth : ℕ → ℕ → Bool
      auth bit q = is_auth_of events (group_of places xs bit) q

      own : ℕ → Bool
      own q = is_auth_of events (places x) q

      by : (bit q : ℕ) → (bit ≡ i) ⊎ (bit ≡ i → ⊥) → (bit < i) ⊎ (i ≤ bit) → ((nat_lt bit i && auth bit q) || (has_bit bit bits && own q)) ≡ (nat_lt bit (i + 1) && auth bit q)
      by bit q (inl e) order =
          ap (λ t. (t && auth bit q) || (has_bit bit bits && own q)) (le-ltb bit i (omega arith))
          ∙ ap (λ t. t && own q) (ap (λ k. eqb k 1) (ap (λ w. bit_at w bit) word ∙ ap (λ k. bit_at (2 ^ i) k) e ∙ bit_at-pow_same i))
          ∙ ap (λ o. is_auth_of events (group_in places o) q) (sym (ap (slice_get xs) e ∙ here))
          ∙ sym (ap (λ t. t && auth bit q) (lt-ltb bit (i + 1) (omega arith)))
      by bit q (inr n) (inl less) =
          ap (λ t. (t && auth bit q) || (has_bit bit bits && own q)) (lt-ltb bit i less)
          ∙ ap (λ t. auth bit q || (t && own q)) (ap (λ k. eqb k 1) (ap (λ w. bit_at w bit) word ∙ bit_at-pow_other i bit n))
          ∙ or_false (auth bit q)
          ∙ sym (ap (λ t. t && auth bit q) (lt-ltb bit (i + 1) (omega arith)))
      by bit q (inr n) (inr more) =
          ap (λ t. (t && auth bit q) || (has_bit bit bits && own q)) (le-ltb bit i more)
          ∙ ap (λ t. t && own q) (ap (λ k. eqb k 1) (ap (λ w. bit_at w bit) word ∙ bit_at-pow_other i bit n))
          ∙ sym (ap (λ t. t && auth bit q) (le-ltb bit (i + 1) (omega arith)))

  -- the auth events of some places more for all groups
  pub first-all : (common : List ℕ) (bits : ℕ) (before after : List ℕ) → bits ≡ 2 ^ length xs - 1 → AreFirstMasks events places xs (length xs) before
      → AreMasked (length events) (is_auth_of events common) bits before after → AreFirstMasks events (λ x. places x ++ common) xs (length xs) after
  first-all common bits before after word firsts masked = record {
    long = masked.long;
    each = λ bit q below.
        ap (has_bit bit) (masked.each q below) ∙ has_bit-with bit bits (get_or before q 0) (is_auth_of events common q)
        ∙ ap (λ t. t || (has_bit bit bits && is_auth_of events common q)) (firsts.each bit q below)
        ∙ by bit q (slice_get_cases xs bit).1;
  }
    where
      both : List ℕ → ℕ → Bool
      both ps q = is_auth_of events ps q || is_auth_of events common q

      by : (bit q : ℕ) → ((x : X) × (bit < length xs) × (slice_get xs bit ≡ Some x) × (get_or xs bit x ≡ x)) ⊎ ((length xs ≤ bit) × (slice_get xs bit ≡ None))
          → ((nat_lt bit (length xs) && is_auth_of events (group_of places xs bit) q) || (has_bit bit bits && is_auth_of events common q))
          ≡ (nat_lt bit (length xs) && is_auth_of events (group_of (λ x. places x ++ common) xs bit) q)
      by bit q (inl (x, inside, some, here)) =
          ap (λ t. (t && is_auth_of events (group_of places xs bit) q) || (has_bit bit bits && is_auth_of events common q)) (lt-ltb bit (length xs) inside)
          ∙ ap (λ t. is_auth_of events (group_of places xs bit) q || (t && is_auth_of events common q)) (ap (λ k. eqb k 1) (ap (λ w. bit_at w bit) word ∙ bit_at_ones (length xs) bit inside))
          ∙ ap (λ o. both (group_in places o) q) some
          ∙ sym (list_any-append (λ p. is_auth events p q) (places x) common)
          ∙ ap (λ o. is_auth_of events (group_in (λ x. places x ++ common) o) q) (sym some)
          ∙ sym (ap (λ t. t && is_auth_of events (group_of (λ x. places x ++ common) xs bit) q) (lt-ltb bit (length xs) inside))
      by bit q (inr (past, none)) =
          ap (λ t. (t && is_auth_of events (group_of places xs bit) q) || (has_bit bit bits && is_auth_of events common q)) (le-ltb bit (length xs) past)
          ∙ ap (λ t. t && is_auth_of events common q) (ap (λ k. eqb k 1) (ap (λ w. bit_at w bit) word ∙ bit_at_ones_above (length xs) bit past))
          ∙ sym (ap (λ t. t && is_auth_of events (group_of (λ x. places x ++ common) xs bit) q) (le-ltb bit (length xs) past))

  -- all groups, and the walk
  pub chain-masks : IsAuthGraph events → (to : ℕ) (first after : List ℕ) → AreFirstMasks events places xs (length xs) first → length after ≡ length events
      → ((bit : ℕ) → AreClosedFrom events to (bit_marks bit first) (bit_marks bit after)) → AreChainMasks events places xs to after
  chain-masks graph to first after firsts long closed = record {
    long = long;
    each = λ bit q near below.
        sym (is_marked-bit bit after q (omega (arith, long)))
        ∙ chains_marked_from events graph to (group_of places xs bit) [] (bit_marks bit first) (bit_marks bit after) (λ k. refl) (auths bit) (closed bit) q (omega arith);
  }
    where
      group : (bit q : ℕ) → (bit < length xs) ⊎ (length xs ≤ bit) → (nat_lt bit (length xs) && is_auth_of events (group_of places xs bit) q) ≡ is_auth_of events (group_of places xs bit) q
      group bit q (inl less) = ap (λ t. t && is_auth_of events (group_of places xs bit) q) (lt-ltb bit (length xs) less)
      group bit q (inr past) =
          ap (λ t. t && is_auth_of events (group_of places xs bit) q) (le-ltb bit (length xs) past) ∙ sym (ap (λ o. is_auth_of events (group_in places o) q) (slice_get_past xs bit past))

      auths : (bit : ℕ) → AreMarks (length events) (λ q. slice_index_or [] q false || is_auth_of events (group_of places xs bit) q) (bit_marks bit first)
      auths bit = record {
        long = long-bits bit first ∙ firsts.long;
        each = λ q below. is_marked-bit bit first q (omega (arith, firsts.long)) ∙ firsts.each bit q below ∙ group bit q (cases_lt bit (length xs));
      }

-- ---- words by what their bits stand for

module _ {X : Type 0} (f : X → Bool) (xs : List X) (mask : ℕ) (bits : (bit : ℕ) → has_bit bit mask ≡ holds f (slice_get xs bit)) where
  bit_of : (x : X) (there : Contains xs x) → has_bit there.0 mask ≡ f x
  bit_of x there = bits there.0 ∙ ap (holds f) (by (slice_get_cases xs there.0).1)
    where
      by : ((y : X) × (there.0 < length xs) × (slice_get xs there.0 ≡ Some y) × (get_or xs there.0 y ≡ y)) ⊎ ((length xs ≤ there.0) × (slice_get xs there.0 ≡ None)) → slice_get xs there.0 ≡ Some x
      by (inl (y, inside, some, here)) = some ∙ ap Some (sym here ∙ get_or_default xs there.0 y x inside ∙ there.2)
      by (inr (past, none)) = absurd (let inside = there.1 in omega arith)

  -- where no bit is set none passes
  pub some_bit : not (eqb mask 0) ≡ list_any f xs
  some_bit = same_by _ _ onto from
    where
      none : list_any f xs ≡ false → (bit : ℕ) → has_bit bit mask ≡ false
      none gone bit = bits bit ∙ by (slice_get_cases xs bit).1
        where
          by : ((y : X) × (bit < length xs) × (slice_get xs bit ≡ Some y) × (get_or xs bit y ≡ y)) ⊎ ((length xs ≤ bit) × (slice_get xs bit ≡ None)) → holds f (slice_get xs bit) ≡ false
          by (inl (y, inside, some, here)) =
              ap (holds f) some ∙ false_from_ne_true (f y) (λ t. true≢false (sym (list_any_at f xs bit y inside (ap f here ∙ t)) ∙ gone))
          by (inr (past, nothing)) = ap (holds f) nothing

      onto : not (eqb mask 0) ≡ true → list_any f xs ≡ true
      onto h =
          true_from_ne_false (list_any f xs)
          (λ gone. true≢false (sym (eq-eqb mask 0 (same_word mask 0 (λ bit. none gone bit ∙ sym (has_bit-zero bit)))) ∙ not-true (eqb mask 0) h))

      from : list_any f xs ≡ true → not (eqb mask 0) ≡ true
      from h =
          let found = contained f xs h in
          not_from_false (eqb mask 0)
          (ne_eqb mask 0 (λ e. true≢false (sym (bit_of found.0 found.1.0 ∙ found.1.1) ∙ ap (has_bit found.1.0.0) e ∙ has_bit-zero found.1.0.0)))

  -- all bits of a word of as many ones are set where all pass
  pub every_bit : (word : ℕ) → word ≡ 2 ^ length xs - 1 → eqb mask word ≡ list_all f xs
  every_bit word ones = same_by _ _ onto from
    where
      one : (bit : ℕ) → bit < length xs → has_bit bit word ≡ true
      one bit inside = ap (λ k. eqb k 1) (ap (λ w. bit_at w bit) ones ∙ bit_at_ones (length xs) bit inside)

      onto : eqb mask word ≡ true → list_all f xs ≡ true
      onto h = all_from f xs (λ x there. sym (bit_of x there) ∙ ap (has_bit there.0) (eqb-true mask word h) ∙ one there.0 there.1)

      each : list_all f xs ≡ true → (bit : ℕ) → has_bit bit mask ≡ has_bit bit word
      each h bit = by (slice_get_cases xs bit).1
        where
          by : ((y : X) × (bit < length xs) × (slice_get xs bit ≡ Some y) × (get_or xs bit y ≡ y)) ⊎ ((length xs ≤ bit) × (slice_get xs bit ≡ None)) → has_bit bit mask ≡ has_bit bit word
          by (inl (y, inside, some, here)) = bits bit ∙ ap (holds f) some ∙ all_at f xs y h (bit, inside, here) ∙ sym (one bit inside)
          by (inr (past, gone)) =
              bits bit ∙ ap (holds f) gone ∙ sym (ap (λ k. eqb k 1) (ap (λ w. bit_at w bit) ones ∙ bit_at_ones_above (length xs) bit past))

      from : list_all f xs ≡ true → eqb mask word ≡ true
      from h = eq-eqb mask word (same_word mask word (each h))
