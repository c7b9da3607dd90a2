-- The power order and the mainline order of stored events, as events come behind.
use Rattle.std.proofs.Common.{◌≡◌, ◌<◌, ℕ, zero, suc, List, [], ◌∷◌, ◌++◌, not, ◌||◌, cond, All, Option, None, Some, IfSome, length, length-append, option_map, option_and_then, Ordering, refl, sym, ap, ◌∙◌, arith}
use Rattle.std.proofs.lemmas.List.Elements.{All-weaker}
use Rattle.std.specs.Prelude.{codes}
use Rattle.std.specs.List.{list_all, filter_map, find, slice_get}
use Rattle.std.specs.Ordering.{is_lt, ordering_then, int_cmp, nat_cmp}
use Rattle.std.specs.Cmp.Lexicographic.{slice_cmp}
use Rattle.fed_event.specs.Tests.{holds}
use Rattle.fed_event.specs.Fields.{content_of, sender_of, origin_server_ts_of}
use Rattle.fed_room_contract.specs.declared.graph.Stored.{Stored}
use Rattle.fed_room_contract.specs.Graph.{IsAuthGraph, id_of}
use Rattle.fed_auth.specs.AuthState.{stands_at, is_create}
use Rattle.fed_auth.specs.Levels.{LevelsGiven, user_level}
use Rattle.fed_auth.specs.StateView.{creator_in}
use Rattle.fed_resolve.specs.Chain.{auths_at}
use Rattle.fed_resolve.specs.Order.{is_among, in_order}
use Rattle.fed_resolve.specs.PowerOrder as power
use Rattle.fed_resolve.specs.PowerOrder.{event_of, is_before_in_power, has_chain_listed, power_order}
use Rattle.fed_resolve.specs.Mainline as line
use Rattle.fed_resolve.specs.Mainline.{is_levels_at, levels_auth, mainline_from, mainline, least_index, position_of, position_cmp, is_before_in_mainline, at_once, mainline_order}
use Rattle.fed_resolve.proofs.Agreement.{find-agree, find-passes}
use Rattle.fed_resolve.proofs.Listed.{order-same}
use Rattle.fed_resolve.proofs.Grown.{slice_get-front, auths_below, auths-same, auth_events-same, chain-same, front}

-- ---- the power order, by the auth events of two events

abbrev first_in : List Stored → List ℕ → Option Stored
first_in auths kind = find (stands_at kind []) auths

abbrev created : List Stored → Stored → LevelsGiven
created auths stored = record {
  content = option_map (λ auth. content_of (event_of auth)) (first_in auths (codes "m.room.power_levels"));
  creator = option_and_then creator_in (cond (is_create stored) (Some (event_of stored)) (option_map event_of (first_in auths (codes "m.room.create"))));
}

abbrev power_by : List Stored → List Stored → Stored → Stored → Ordering
power_by auths auths_too one other =
    ordering_then (int_cmp (user_level (created auths_too other) (sender_of (event_of other))) (user_level (created auths one) (sender_of (event_of one))))
    (ordering_then (int_cmp (origin_server_ts_of (event_of one)) (origin_server_ts_of (event_of other)))
    (slice_cmp nat_cmp (id_of one) (id_of other)))

abbrev auths_there : List Stored → ℕ → List Stored
auths_there events p = filter_map (slice_get events) (auths_at events p)

module _ (events more : List Stored) (graph : IsAuthGraph (events ++ more)) where
  power-before : (p q : ℕ) → p < length events → q < length events → is_before_in_power (events ++ more) p q ≡ is_before_in_power events p q
  power-before p q within inside =
      (λ i. power.before_stored (events ++ more) p q (slice_get-front events more p within i) (slice_get-front events more q inside i)) ∙ by (slice_get events p) (slice_get events q)
    where
      by : (one other : Option Stored) → power.before_stored (events ++ more) p q one other ≡ power.before_stored events p q one other
      by None None = refl
      by None (Some other) = refl
      by (Some one) None = refl
      by (Some one) (Some other) = λ i. is_lt (power_by (auth_events-same events more graph p within i) (auth_events-same events more graph q inside i) one other)

  chain-listed : (set listed : List ℕ) (p : ℕ) → p < length events → has_chain_listed (events ++ more) set listed p ≡ has_chain_listed events set listed p
  chain-listed set listed p within = λ i. list_all (λ other. not (chain-same events more graph p other within i) || is_among listed other) set

  pub power-same : (set : List ℕ) → All (λ p. p < length events) set → power_order (events ++ more) set ≡ power_order events set
  power-same set within =
      order-same (λ p. p < length events) (has_chain_listed (events ++ more) set) (has_chain_listed events set) (is_before_in_power (events ++ more)) (is_before_in_power events)
      (chain-listed set) power-before set within

  -- ---- mainlines

  levels-same : (p : ℕ) → p < length events → levels_auth (events ++ more) p ≡ levels_auth events p
  levels-same p below =
      ap (find (is_levels_at (events ++ more))) (auths-same events more graph p below)
      ∙ find-agree (is_levels_at (events ++ more)) (is_levels_at events) (auths_at events p)
      (All-weaker (λ a. (a < p) × (p < length events)) (λ a. is_levels_at (events ++ more) a ≡ is_levels_at events a)
      (λ a h. let falls = h.0 in ap (holds (stands_at (codes "m.room.power_levels") [])) (slice_get-front events more a (omega arith)))
      (auths_at events p) (auths_below events (front events more graph) p))

  levels_below : (p : ℕ) → IfSome (levels_auth events p) (λ a. (a < p) × (p < length events))
  levels_below p = find-passes (λ a. (a < p) × (p < length events)) (is_levels_at events) (auths_at events p) (auths_below events (front events more graph) p)

  no_line : (stored : List Stored) (steps : ℕ) → mainline_from stored steps None ≡ []
  no_line stored zero = refl
  no_line stored (suc steps) = refl

  -- a mainline ends before its steps do
  line-same : (steps others p : ℕ) → p < steps → p < others → p < length events → mainline_from (events ++ more) steps (Some p) ≡ mainline_from events others (Some p)
  line-same zero others p h g below = absurd (omega arith)
  line-same (suc steps) zero p h g below = absurd (omega arith)
  line-same (suc steps) (suc others) p h g below =
      ap (λ line. p ∷ line) (ap (mainline_from (events ++ more) steps) (levels-same p below) ∙ by (λ a falls. line-same steps others a (omega arith) (omega arith) (omega arith)) (levels_auth events p) (levels_below p))
    where
      by : ((a : ℕ) → a < p → mainline_from (events ++ more) steps (Some a) ≡ mainline_from events others (Some a)) → (o : Option ℕ) → IfSome o (λ a. (a < p) × (p < length events))
          → mainline_from (events ++ more) steps o ≡ mainline_from events others o
      by rest None falls = no_line (events ++ more) steps ∙ sym (no_line events others)
      by rest (Some a) falls = rest a falls.0

  mainline-same : (o : Option ℕ) → IfSome o (λ p. p < length events) → mainline (events ++ more) o ≡ mainline events o
  mainline-same None within = no_line (events ++ more) (length (events ++ more)) ∙ sym (no_line events (length events))
  mainline-same (Some p) within = line-same (length (events ++ more)) (length events) p (let long = length-append events more in omega arith) within within

  position-same : (places : List ℕ) (p : ℕ) → p < length events → position_of (events ++ more) places p ≡ position_of events places p
  position-same places p below =
      ap (λ o. least_index places (mainline (events ++ more) o)) (levels-same p below) ∙ ap (least_index places) (by (levels_auth events p) (levels_below p))
    where
      by : (o : Option ℕ) → IfSome o (λ a. (a < p) × (p < length events)) → mainline (events ++ more) o ≡ mainline events o
      by None falls = mainline-same None tt
      by (Some a) falls = let down = falls.0 in mainline-same (Some a) (omega arith)

  line-before : (places : List ℕ) (p q : ℕ) → p < length events → q < length events → is_before_in_mainline (events ++ more) places p q ≡ is_before_in_mainline events places p q
  line-before places p q within inside =
      (λ i. line.before_stored (events ++ more) places p q (slice_get-front events more p within i) (slice_get-front events more q inside i)) ∙ by (slice_get events p) (slice_get events q)
    where
      by : (one other : Option Stored) → line.before_stored (events ++ more) places p q one other ≡ line.before_stored events places p q one other
      by None None = refl
      by None (Some other) = refl
      by (Some one) None = refl
      by (Some one) (Some other) = λ i.
          is_lt (ordering_then (position_cmp (position-same places p within i) (position-same places q inside i))
          (ordering_then (int_cmp (origin_server_ts_of (event_of one)) (origin_server_ts_of (event_of other)))
          (slice_cmp nat_cmp (id_of one) (id_of other))))

  pub mainline_order-same : (o : Option ℕ) (set : List ℕ) → IfSome o (λ p. p < length events) → All (λ p. p < length events) set → mainline_order (events ++ more) o set ≡ mainline_order events o set
  mainline_order-same o set levels within =
      ap (λ places. in_order at_once (is_before_in_mainline (events ++ more) places) set) (mainline-same o levels)
      ∙ order-same (λ p. p < length events) at_once at_once (is_before_in_mainline (events ++ more) (mainline events o)) (is_before_in_mainline events (mainline events o))
      (λ listed p h. refl) (line-before (mainline events o)) set within
