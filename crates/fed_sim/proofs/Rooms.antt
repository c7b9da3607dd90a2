-- Rooms that are given what is in front of them.
use Rattle.std.proofs.Common.{arith, ◌≡◌, ◌⊎◌, inl, inr, ℕ, ◌<◌, ◌≤◌, List, [], ◌∷◌, length, set, get_or, Option, Some, None, IfSome, IfNone, refl, sym, ap, ◌∙◌, subst}
use Rattle.std.specs.List.{slice_get}
use Rattle.std.specs.Option.{option_map}
use Rattle.std.proofs.lemmas.List.{map-set, length-map}
use Rattle.std.proofs.lemmas.Option.{slice_get-map, slice_get-get_or, slice_get_past, same_Some}
use Rattle.fed_event.specs.Checked.{CheckedEvent}
use Rattle.fed_room_contract.specs.declared.applying.Applied.{Applied}
use Rattle.fed_room_contract.specs.Applying.{IsApplied, IsStopped}
use Rattle.fed_room.specs.Room.{room_of, room_rules}
use Rattle.fed_sim.specs.declared.outcome.Outcome.TheVariants as outcome
use Rattle.fed_sim.specs.Applying.{with_room, IsNext, IsAppliedAt, IsAppliedInPart, no_room, nothing, arrived, same, in_part}
use Rattle.fed_sim.specs.Hosted.{HostedState, IsSame, IsGiven, rooms_of, arrivals_of}
use Rattle.fed_sim.specs.Server.{ServerState}
use Rattle.fed_sim.proofs.WayQueues.{same_seen}
use Rattle.fed_sim.proofs.Servers.{server_at, same_parts}

-- a server with these rooms
abbrev pub hosting : ServerState → List HostedState → ServerState
hosting s hosted = server_at s (rooms_of hosted) (arrivals_of hosted) s.journal s.ways

pub no_such_room : (s : ServerState) (hosted : List HostedState) (k : ℕ) → length hosted ≤ k → IsAppliedAt k (hosting s hosted) outcome.NothingApplied (hosting s hosted)
no_such_room s hosted k past = no_room (slice_get_past (rooms_of hosted) k (let all = length-map hosted (λ (h : HostedState). room_of h.room) in omega (arith, all, past)))

module _ (s : ServerState) (hosted : List HostedState) (k : ℕ) (old new : HostedState) (within : k < length hosted) (value : old ≡ get_or hosted k old) where
  here : slice_get hosted k ≡ Some old
  here = slice_get-get_or hosted k old within ∙ ap Some (sym value)

  -- what others see of the room is as it was
  kept : IsSame old new → hosting s (set hosted k new) ≡ hosting s hosted
  kept is_same =
      same_parts s _ _ _ _ s.journal s.journal s.ways s.ways
      (same_seen (λ (h : HostedState). room_of h.room) hosted k new old (is_same.room ∙ ap (λ (h : HostedState). room_of h.room) value))
      (same_seen (λ (h : HostedState). h.queue) hosted k new old (is_same.queue ∙ ap (λ (h : HostedState). h.queue) value)) refl refl

  -- the first event is not in front of it any more
  next : (event : CheckedEvent) → old.queue ≡ event ∷ new.queue → IsNext k (hosting s hosted) (room_of old.room) event new.queue
  next event is = record {
    room_is = slice_get-map (λ (h : HostedState). room_of h.room) hosted k ∙ ap (option_map (λ (h : HostedState). room_of h.room)) here;
    event_is = slice_get-map (λ (h : HostedState). h.queue) hosted k ∙ ap (option_map (λ (h : HostedState). h.queue)) here ∙ ap Some is;
  }

  afterwards : with_room (hosting s hosted) k (room_of new.room) new.queue ≡ hosting s (set hosted k new)
  afterwards = same_parts s _ _ _ _ s.journal s.journal s.ways s.ways (sym (map-set (λ (h : HostedState). room_of h.room) hosted k new)) (sym (map-set (λ (h : HostedState). h.queue) hosted k new)) refl refl

  pub given : (told : Option Applied) (a : Applied) → told ≡ Some a → IfSome told (λ x. IsGiven old new (λ event. IsApplied room_rules (room_of old.room) event x (room_of new.room)))
      → IsAppliedAt k (hosting s hosted) (outcome.Applied a.receipt a.more) (hosting s (set hosted k new))
  given None a is gives = absurd (cc)
  given (Some x) a is gives =
      subst (λ (y : Applied). IsAppliedAt k (hosting s hosted) (outcome.Applied y.receipt y.more) (hosting s (set hosted k new))) (same_Some x a is)
      (subst (IsAppliedAt k (hosting s hosted) (outcome.Applied x.receipt x.more)) afterwards
      (arrived (room_of old.room) (room_of new.room) gives.0 new.queue x (next gives.0 gives.1.0) gives.1.1))

  pub not_given : (told : Option Applied) → told ≡ None → IfNone told (old.queue ≡ []) → (old.queue ≡ [] → IsSame old new)
      → IsAppliedAt k (hosting s hosted) outcome.NothingApplied (hosting s (set hosted k new))
  not_given (Some x) is empty stays = absurd (cc)
  not_given None is empty stays =
      subst (IsAppliedAt k (hosting s hosted) outcome.NothingApplied) (sym (kept (stays empty)))
      (nothing (slice_get-map (λ (h : HostedState). h.queue) hosted k ∙ ap (option_map (λ (h : HostedState). h.queue)) here ∙ ap Some empty))

  pub given_in_part : IsSame old new ⊎ IsGiven old new (λ event. IsStopped room_rules (room_of old.room) event (room_of new.room))
      → IsAppliedInPart k (hosting s hosted) (hosting s (set hosted k new))
  given_in_part (inl is_same) = subst (IsAppliedInPart k (hosting s hosted)) (sym (kept is_same)) same
  given_in_part (inr gives) =
      subst (IsAppliedInPart k (hosting s hosted)) afterwards
      (in_part (room_of old.room) (room_of new.room) gives.0 new.queue (next gives.0 gives.1.0) gives.1.1)
