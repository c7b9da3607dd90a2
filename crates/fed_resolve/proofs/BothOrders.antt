-- The power order and the mainline order of places of stored events.
use Rattle.std.proofs.Common.{◌≡◌, ◌<◌, ◌≤◌, ℕ, List, length, Bool, true, false, not, ◌||◌, All, Option, None, Some, Ordering, Less, Equal, refl, sym, arith, ◌⊎◌, inl, inr}
use Rattle.std.proofs.lemmas.Cmp.{then_total, on_total, back_total, nat_cmp_total, int_cmp_total, alike_right}
use Rattle.std.proofs.lemmas.Option.{slice_get_cases}
use Rattle.std.specs.List.{slice_get, slice_index_or}
use Rattle.std.specs.Ordering.{nat_cmp, int_cmp, ordering_then, ordering_reverse}
use Rattle.std.specs.Cmp.{IsTotalOrder}
use Rattle.std.specs.Cmp.Lexicographic.{slice_cmp, nat_list_cmp_total}
use Rattle.fed_event.specs.Fields.{origin_server_ts_of, sender_of}
use Rattle.fed_room_contract.specs.declared.graph.Stored.{Stored}
use Rattle.fed_room_contract.specs.Graph.{IsAuthGraph, id_of}
use Rattle.fed_auth.specs.Levels.{user_level}
use Rattle.fed_resolve.specs.Chain.{is_in_chain}
use Rattle.fed_resolve.specs.Order.{is_among}
use Rattle.fed_resolve.specs.PowerOrder as power
use Rattle.fed_resolve.specs.PowerOrder.{event_of, levels_read, has_chain_listed, is_before_in_power, power_cmp}
use Rattle.fed_resolve.specs.Mainline as line
use Rattle.fed_resolve.specs.Mainline.{position_cmp, position_of, mainline, mainline_cmp, at_once, is_before_in_mainline}
use Rattle.fed_resolve.specs.Laws.{IsPowerOrder, IsMainlineOrder}
use Rattle.fed_resolve.proofs.Among.{each-among, least}
use Rattle.fed_resolve.proofs.ChainMarks.{chain-from_test}
use Rattle.fed_resolve.proofs.Grown.{chain_below}
use Rattle.fed_resolve.proofs.Ordered.{AreListedOrLeft, IsWeakOrder, weak-by, order-is}

-- ---- orders of places with their events

abbrev Placed : Type 0
Placed = ℕ × Stored

abbrev by_time_and_id : Placed → Placed → Ordering
by_time_and_id one other =
    ordering_then (int_cmp (origin_server_ts_of (event_of one.1)) (origin_server_ts_of (event_of other.1))) (slice_cmp nat_cmp (id_of one.1) (id_of other.1))

time_and_id_total : IsTotalOrder by_time_and_id
time_and_id_total = then_total (on_total (λ (p : Placed). origin_server_ts_of (event_of p.1)) int_cmp_total) (on_total (λ (p : Placed). id_of p.1) nat_list_cmp_total)

power_total : (events : List Stored) → IsTotalOrder (λ (one other : Placed). power_cmp events one.0 other.0 one.1 other.1)
power_total events = then_total (on_total (λ (p : Placed). user_level (levels_read events p.0 p.1) (sender_of (event_of p.1))) (back_total int_cmp_total)) time_and_id_total

position_total : IsTotalOrder position_cmp
position_total = record { antisymm = antisymm; trans = trans; congr = congr }
  where
    antisymm : (x y : Option ℕ) → position_cmp x y ≡ ordering_reverse (position_cmp y x)
    antisymm None None = refl
    antisymm None (Some q) = refl
    antisymm (Some p) None = refl
    antisymm (Some p) (Some q) = nat_cmp_total.antisymm q p

    trans : (x y z : Option ℕ) → position_cmp x y ≡ Less → position_cmp y z ≡ Less → position_cmp x z ≡ Less
    trans None None z h g = g
    trans None (Some q) None h g = absurd (cc)
    trans None (Some q) (Some r) h g = refl
    trans (Some p) None z h g = absurd (cc)
    trans (Some p) (Some q) None h g = absurd (cc)
    trans (Some p) (Some q) (Some r) h g = nat_cmp_total.trans r q p g h

    congr : (x y z : Option ℕ) → position_cmp x y ≡ Equal → position_cmp x z ≡ position_cmp y z
    congr None None z h = refl
    congr None (Some q) z h = absurd (cc)
    congr (Some p) None z h = absurd (cc)
    congr (Some p) (Some q) None h = refl
    congr (Some p) (Some q) (Some r) h = sym (alike_right nat_cmp_total q p r h)

mainline_total : (events : List Stored) (places : List ℕ) → IsTotalOrder (λ (one other : Placed). mainline_cmp events places one.0 other.0 one.1 other.1)
mainline_total events places = then_total (on_total (λ (p : Placed). position_of events places p.0) position_total) time_and_id_total

-- ---- of stored events

module _ (events : List Stored) where
  abbrev IsPlace : ℕ → Type 0
  IsPlace p = p < length events

  there : (p : ℕ) → IsPlace p → (x : Stored) × (slice_get events p ≡ Some x)
  there p within = by (slice_get_cases events p).1
    where
      by : ((x : Stored) × (p < length events) × (slice_get events p ≡ Some x) × (slice_index_or events p x ≡ x)) ⊎ ((length events ≤ p) × (slice_get events p ≡ None)) → (x : Stored) × (slice_get events p ≡ Some x)
      by (inl (x, inside, some, here)) = (x, some)
      by (inr (past, none)) = absurd (omega arith)

  placed : (p : ℕ) → IsPlace p → Placed
  placed p within = (p, (there p within).0)

  power_weak : IsWeakOrder IsPlace (is_before_in_power events)
  power_weak =
      weak-by (λ (one other : Placed). power_cmp events one.0 other.0 one.1 other.1) (power_total events) IsPlace (is_before_in_power events) (λ p h. (p, (there p h).0))
      (λ p q h g i. power.before_stored events p q ((there p h).1 i) ((there q g).1 i))

  mainline_weak : (places : List ℕ) → IsWeakOrder IsPlace (is_before_in_mainline events places)
  mainline_weak places =
      weak-by (λ (one other : Placed). mainline_cmp events places one.0 other.0 one.1 other.1) (mainline_total events places) IsPlace (is_before_in_mainline events places) (λ p h. (p, (there p h).0))
      (λ p q h g i. line.before_stored events places p q ((there p h).1 i) ((there q g).1 i))

  -- the least place that is left may be listed
  power_goes_on : IsAuthGraph events → (set listed left : List ℕ) → AreListedOrLeft set listed left → All IsPlace left → (p : ℕ) → is_among left p ≡ true
      → (r : ℕ) × ((is_among left r ≡ true) × (has_chain_listed events set listed r ≡ true))
  power_goes_on graph set listed left split all p h = (first.0, (first.1.0, each-among (λ other. not (is_in_chain events first.0 other) || is_among listed other) set each))
    where
      first : (r : ℕ) × ((is_among left r ≡ true) × ((q : ℕ) → is_among left q ≡ true → r ≤ q))
      first = least left p h

      done : (q : ℕ) → (is_among listed q ≡ true) ⊎ (is_among left q ≡ true) → is_in_chain events first.0 q ≡ true → is_among listed q ≡ true
      done q (inl t) c = t
      done q (inr t) c =
          let falls = (chain_below events graph first.0 q (chain-from_test events graph first.0 q c)).0 in
          let above = first.1.1 q t in
          absurd (omega (arith, falls, above))

      each : (q : ℕ) → is_among set q ≡ true → (not (is_in_chain events first.0 q) || is_among listed q) ≡ true
      each q among = by (is_in_chain events first.0 q) refl
        where
          by : (b : Bool) → is_in_chain events first.0 q ≡ b → (not b || is_among listed q) ≡ true
          by true c = done q (split q among) c
          by false c = refl

  pub power-is_order : IsAuthGraph events → (places : List ℕ) → All IsPlace places → IsPowerOrder events places
  power-is_order graph places all =
      order-is (has_chain_listed events places) (is_before_in_power events) places IsPlace power_weak (power_goes_on graph places) all

  pub mainline-is_order : (levels : Option ℕ) (places : List ℕ) → All IsPlace places → IsMainlineOrder events levels places
  mainline-is_order levels places all =
      order-is at_once (is_before_in_mainline events (mainline events levels)) places IsPlace (mainline_weak (mainline events levels))
      (λ listed left split within p h. (p, (h, refl))) all
