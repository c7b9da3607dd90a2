-- The two orders, by their candidates.
use Rattle.std.proofs.Common.{◌≡◌, ◌<◌, All, ℕ, List, [], ◌∷◌, Bool, true, false, not, ◌&&◌, ◌||◌, cond, map, length, filter, Option, None, Some, option_map, refl, sym, ap, ◌∙◌}
use Rattle.std.specs.List.{list_all, slice_get}
use Rattle.std.specs.Option.{option_cmp}
use Rattle.std.specs.Ordering.{is_lt, ordering_then, int_cmp, nat_cmp}
use Rattle.std.specs.declared.cmp.Ordering.{Ordering}
use Rattle.std.specs.declared.cmp.Reverse.{Reverse}
use Rattle.std.specs.Cmp.Lexicographic.{slice_cmp}
use Rattle.std.proofs.lemmas.List.Elements.{All-nil, All-same, All-weaker, All-from_recursion, recursion_from_All}
use Rattle.std.proofs.lemmas.Option.{slice_get_within}
use Rattle.fed_room_contract.specs.declared.graph.Stored.{Stored}
use Rattle.fed_auth.specs.declared.level.Level.{Level}
use Rattle.fed_event.specs.Fields.{origin_server_ts_of, sender_of}
use Rattle.fed_room_contract.specs.Graph.{id_of}
use Rattle.fed_auth.specs.Levels.{user_level}
use Rattle.fed_resolve.specs.declared.order.Candidate.{Candidate}
use Rattle.fed_resolve.specs.declared.order.Rank.{Rank}
use Rattle.fed_resolve.specs.Chain.{is_in_chain}
use Rattle.fed_resolve.specs.Order.{is_among, in_order}
use Rattle.fed_resolve.specs.PowerOrder as power
use Rattle.fed_resolve.specs.PowerOrder.{event_of, levels_read, power_cmp, is_before_in_power, has_chain_listed, power_order}
use Rattle.fed_resolve.specs.Mainline as line_order
use Rattle.fed_resolve.specs.Mainline.{mainline, mainline_cmp, mainline_order, position_cmp, position_of, is_before_in_mainline, at_once}
use Rattle.fed_resolve.specs.OrderParts.{IsWithin, candidate_place, candidates_from}
use Rattle.fed_resolve.specs.RankParts.{IsRankOf, IsPowerCandidate, IsMainlineCandidate}
use Rattle.fed_resolve.proofs.Orders.{in-order, kept}

all-filter : (listed : List ℕ) (test : ℕ → Bool) (xs : List ℕ) → list_all (is_among listed) (filter test xs) ≡ list_all (λ x. not (test x) || is_among listed x) xs
all-filter listed test [] = refl
all-filter listed test (x ∷ xs) = by (all-filter listed test xs) (test x) refl
  where
    by : list_all (is_among listed) (filter test xs) ≡ list_all (λ y. not (test y) || is_among listed y) xs → (b : Bool) → test x ≡ b
        → list_all (is_among listed) (cond b (x ∷ filter test xs) (filter test xs)) ≡ ((not b || is_among listed x) && list_all (λ y. not (test y) || is_among listed y) xs)
    by rest true e = ap (λ b. is_among listed x && b) rest
    by rest false e = rest

-- the time, and then the id
abbrev pub last_cmp : {W : Type 0} → Rank W → Rank W → Ordering
last_cmp one other = ordering_then (int_cmp one.time other.time) (slice_cmp nat_cmp one.id.now other.id.now)

abbrev pub power_rank_cmp : Rank (Reverse Level) → Rank (Reverse Level) → Ordering
power_rank_cmp one other = ordering_then (int_cmp other.weight.0 one.weight.0) (last_cmp one other)

abbrev pub index_of : Option (Reverse ℕ) → Option ℕ
index_of o = option_map (λ index. index.0) o

abbrev pub mainline_rank_cmp : Rank (Option (Reverse ℕ)) → Rank (Option (Reverse ℕ)) → Ordering
mainline_rank_cmp one other = ordering_then (position_cmp (index_of one.weight) (index_of other.weight)) (last_cmp one other)

-- none is infinite, and comes first
positions-compare : (one other : Option (Reverse ℕ)) → option_cmp (λ x y. nat_cmp y.0 x.0) one other ≡ position_cmp (index_of one) (index_of other)
positions-compare None None = refl
positions-compare None (Some y) = refl
positions-compare (Some x) None = refl
positions-compare (Some x) (Some y) = refl

pub mainline-compares : (one other : Rank (Option (Reverse ℕ))) → ordering_then (option_cmp (λ x y. nat_cmp y.0 x.0) one.weight other.weight) (last_cmp one other) ≡ mainline_rank_cmp one other
mainline-compares one other = ap (λ o. ordering_then o (last_cmp one other)) (positions-compare one.weight other.weight)

same-last : {W : Type 0} (one other : Rank W) (s t : Stored) → IsRankOf s one → IsRankOf t other
    → last_cmp one other ≡ ordering_then (int_cmp (origin_server_ts_of (event_of s)) (origin_server_ts_of (event_of t))) (slice_cmp nat_cmp (id_of s) (id_of t))
same-last one other s t a b =
    ap (λ x. ordering_then (int_cmp x other.time) (slice_cmp nat_cmp one.id.now other.id.now)) a.time
    ∙ ap (λ x. ordering_then (int_cmp (origin_server_ts_of (event_of s)) x) (slice_cmp nat_cmp one.id.now other.id.now)) b.time
    ∙ ap (λ x. ordering_then (int_cmp (origin_server_ts_of (event_of s)) (origin_server_ts_of (event_of t))) (slice_cmp nat_cmp x other.id.now)) a.id
    ∙ ap (λ x. ordering_then (int_cmp (origin_server_ts_of (event_of s)) (origin_server_ts_of (event_of t))) (slice_cmp nat_cmp (id_of s) x)) b.id

module _ (events : List Stored) (set : List ℕ) (cmp : Rank (Reverse Level) → Rank (Reverse Level) → Ordering) (compares : (one other : Rank (Reverse Level)) → cmp one other ≡ power_rank_cmp one other) where
  power-follows : (one : Candidate (Rank (Reverse Level))) → IsPowerCandidate events set one → (listed : List ℕ) → list_all (is_among listed) one.after.items ≡ has_chain_listed events set listed one.place
  power-follows one is listed = ap (list_all (is_among listed)) is.after ∙ all-filter listed (is_in_chain events one.place) set

  power-first : (one other : Candidate (Rank (Reverse Level))) → IsPowerCandidate events set one → IsPowerCandidate events set other → is_lt (cmp one.rank other.rank) ≡ is_before_in_power events one.place other.place
  power-first one other a b =
      ap is_lt
      (compares one.rank other.rank
      ∙ ap (λ l. ordering_then (int_cmp l one.rank.weight.0) (last_cmp one.rank other.rank)) b.rank.level
      ∙ ap (λ l. ordering_then (int_cmp (user_level (levels_read events other.place b.rank.stored) (sender_of (event_of b.rank.stored))) l) (last_cmp one.rank other.rank)) a.rank.level
      ∙ ap (ordering_then (int_cmp (user_level (levels_read events other.place b.rank.stored) (sender_of (event_of b.rank.stored))) (user_level (levels_read events one.place a.rank.stored) (sender_of (event_of a.rank.stored))))) (same-last one.rank other.rank a.rank.stored b.rank.stored a.rank.same b.rank.same))
      ∙ ap (λ o. power.before_stored events one.place other.place o (Some b.rank.stored)) (sym a.rank.here)
      ∙ ap (λ o. power.before_stored events one.place other.place (slice_get events one.place) o) (sym b.rank.here)

  pub power-listed : (left : List (Candidate (Rank (Reverse Level)))) → map candidate_place left ≡ set → All (IsPowerCandidate events set) left → candidates_from cmp left (length left) [] ≡ power_order events set
  power-listed left same all =
      in-order cmp (has_chain_listed events set) (is_before_in_power events) (IsPowerCandidate events set) power-follows power-first left (recursion_from_All (IsPowerCandidate events set) left all) set same

module _ (events : List Stored) (line : List ℕ) (cmp : Rank (Option (Reverse ℕ)) → Rank (Option (Reverse ℕ)) → Ordering) (compares : (one other : Rank (Option (Reverse ℕ))) → cmp one other ≡ mainline_rank_cmp one other) where
  mainline-follows : (one : Candidate (Rank (Option (Reverse ℕ)))) → IsMainlineCandidate events line one → (listed : List ℕ) → list_all (is_among listed) one.after.items ≡ at_once listed one.place
  mainline-follows one is listed = ap (list_all (is_among listed)) is.after

  mainline-first : (one other : Candidate (Rank (Option (Reverse ℕ)))) → IsMainlineCandidate events line one → IsMainlineCandidate events line other → is_lt (cmp one.rank other.rank) ≡ is_before_in_mainline events line one.place other.place
  mainline-first one other a b =
      ap is_lt
      (compares one.rank other.rank
      ∙ ap (λ o. ordering_then (position_cmp o (index_of other.rank.weight)) (last_cmp one.rank other.rank)) a.rank.position
      ∙ ap (λ o. ordering_then (position_cmp (position_of events line one.place) o) (last_cmp one.rank other.rank)) b.rank.position
      ∙ ap (ordering_then (position_cmp (position_of events line one.place) (position_of events line other.place))) (same-last one.rank other.rank a.rank.stored b.rank.stored a.rank.same b.rank.same))
      ∙ ap (λ o. line_order.before_stored events line one.place other.place o (Some b.rank.stored)) (sym a.rank.here)
      ∙ ap (λ o. line_order.before_stored events line one.place other.place (slice_get events one.place) o) (sym b.rank.here)

  pub mainline-listed : (levels : Option ℕ) (set : List ℕ) → line ≡ mainline events levels → (left : List (Candidate (Rank (Option (Reverse ℕ))))) → map candidate_place left ≡ set → All (IsMainlineCandidate events line) left
      → candidates_from cmp left (length left) [] ≡ mainline_order events levels set
  mainline-listed levels set whole left same all =
      in-order cmp at_once (is_before_in_mainline events line) (IsMainlineCandidate events line) mainline-follows mainline-first left (recursion_from_All (IsMainlineCandidate events line) left all) set same
      ∙ ap (λ l. in_order at_once (is_before_in_mainline events l) set) whole

-- ---- all of them are within the graph

all-kept : (P : ℕ → Type 0) (test : ℕ → Bool) (xs : List ℕ) → All P xs → All P (filter test xs)
all-kept P test xs all = All-from_recursion P (filter test xs) (kept P test xs (recursion_from_All P xs all))

pub power-within : (events : List Stored) (set : List ℕ) → All (λ p. p < length events) set → (left : List (Candidate (Rank (Reverse Level)))) → All (IsPowerCandidate events set) left → All (IsWithin (length events)) left
power-within events set within left all =
    All-weaker (IsPowerCandidate events set) (IsWithin (length events))
    (λ one is. record {
      place = slice_get_within events one.place is.rank.stored is.rank.here;
      after = All-same (λ p. p < length events) one.after.items (filter (is_in_chain events one.place) set) is.after (all-kept (λ p. p < length events) (is_in_chain events one.place) set within);
    })
    left all

pub mainline-within : (events : List Stored) (line : List ℕ) (left : List (Candidate (Rank (Option (Reverse ℕ))))) → All (IsMainlineCandidate events line) left → All (IsWithin (length events)) left
mainline-within events line left all =
    All-weaker (IsMainlineCandidate events line) (IsWithin (length events))
    (λ one is. record {
      place = slice_get_within events one.place is.rank.stored is.rank.here;
      after = All-same (λ p. p < length events) one.after.items [] is.after (All-nil (λ p. p < length events));
    })
    left all
