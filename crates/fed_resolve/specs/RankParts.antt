-- What the orders compare, for the clauses of private functions.
use Rattle.std.specs.Prelude.{◌≡◌, ◌<◌, ℕ, List, [], ◌==◌, Option, None, Some, length, filter, option_map, position, slice_get, slice_index_or}
use Rattle.std.specs.declared.cmp.Reverse.{Reverse}
use Rattle.fed_event.specs.Fields.{origin_server_ts_of, sender_of}
use Rattle.fed_room_contract.specs.declared.graph.Stored.{Stored}
use Rattle.fed_room_contract.specs.Graph.{id_of}
use Rattle.fed_auth.specs.Levels.{user_level}
use Rattle.fed_auth.specs.declared.level.Level.{Level}
use Rattle.fed_resolve.specs.declared.order.Candidate.{Candidate}
use Rattle.fed_resolve.specs.declared.order.Rank.{Rank}
use Rattle.fed_resolve.specs.Chain.{is_in_chain}
use Rattle.fed_resolve.specs.PowerOrder.{event_of, levels_read}
use Rattle.fed_resolve.specs.Mainline.{position_of}

-- the time and the id of the event at a place
pub record IsRankOf {W : Type 0} (stored : Stored) (rank : Rank W) : Type 0 where
  pub time : rank.time ≡ origin_server_ts_of (event_of stored)
  pub id : rank.id.now ≡ id_of stored

-- and the level of its sender
pub record IsPowerRank (events : List Stored) (place : ℕ) (rank : Rank (Reverse Level)) : Type 0 where
  pub stored : Stored
  pub here : slice_get events place ≡ Some stored
  pub same : IsRankOf stored rank
  pub level : rank.weight.0 ≡ user_level (levels_read events place stored) (sender_of (event_of stored))

-- and its position
pub record IsMainlineRank (events : List Stored) (line : List ℕ) (place : ℕ) (rank : Rank (Option (Reverse ℕ))) : Type 0 where
  pub stored : Stored
  pub here : slice_get events place ≡ Some stored
  pub same : IsRankOf stored rank
  pub position : option_map (λ index. index.0) rank.weight ≡ position_of events line place

pub record IsPowerCandidate (events : List Stored) (set : List ℕ) (one : Candidate (Rank (Reverse Level))) : Type 0 where
  pub rank : IsPowerRank events one.place one.rank
  pub after : one.after.items ≡ filter (is_in_chain events one.place) set

pub record IsMainlineCandidate (events : List Stored) (line : List ℕ) (one : Candidate (Rank (Option (Reverse ℕ)))) : Type 0 where
  pub rank : IsMainlineRank events line one.place one.rank
  pub after : one.after.items ≡ []

-- for each place the index at which the list has it first
pub record AreIndices (count : ℕ) (line : List ℕ) (indices : List (Option ℕ)) : Type 0 where
  pub long : length indices ≡ count
  pub each : (place : ℕ) → place < count → slice_index_or indices place None ≡ position (λ p. p == place) line
