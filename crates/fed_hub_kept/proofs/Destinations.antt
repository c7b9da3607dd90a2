-- The destinations of an event, beside those that the state before it gives.
use Rattle.std.proofs.Common.{◌≡◌, ℕ, Bool, true, List, Option, Some, None, option_map, refl, sym, ap, ◌∙◌, subst}
use Rattle.std.specs.List.Sorted.{IsStrictlyIncreasing}
use Rattle.fed_event.specs.Checked.{CheckedEvent}
use Rattle.fed_room_contract.specs.declared.graph.Stored.{Stored}
use Rattle.fed_room_contract.specs.State.{StateMap}
use Rattle.fed_room_contract.specs.Graph.{stored_at}
use Rattle.fed_room_contract.specs.Room.{Rules, event_id}
use Rattle.fed_dest.specs.ServerSet.{is_among}
use Rattle.fed_dest.specs.Joined.{is_destination}
use Rattle.fed_hub_kept.specs.Sent.{IsSentAsStored}
use Rattle.fed_hub_kept.proofs.Members.{same_members}

module _ (rules : Rules) (events : List Stored) where
  state_of : Stored → StateMap
  state_of stored = rules.before events stored.event.event

  record Found (before : StateMap) (found : Option Stored) : Type 0 where
    stored : Stored
    is : found ≡ Some stored
    state : before ≡ rules.before events stored.event.event

  found_by : (before : StateMap) (found : Option Stored) → Some before ≡ option_map (λ stored. rules.before events stored.event.event) found → Found before found
  found_by before None e = absurd (cc)
  found_by before (Some s) e = record { stored = s; is = refl; state = ap (or_before before) e }
    where
      or_before : StateMap → Option StateMap → StateMap
      or_before b None = b
      or_before b (Some state) = state

  pub sent_by : (servers : List (List ℕ)) (own : ℕ) (event : CheckedEvent) (id : List ℕ) (dests others : List ℕ) (before : StateMap) (told : Bool) → id ≡ event_id event
      → Some before ≡ option_map (λ stored. rules.before events stored.event.event) (stored_at events id) → IsStrictlyIncreasing others
      → ((place : ℕ) → is_among others place ≡ is_destination events before servers own place) → (told ≡ true → dests ≡ others) × (dests ≡ others → told ≡ true)
      → (told ≡ true → IsSentAsStored rules events servers own event dests) × (IsSentAsStored rules events servers own event dests → told ≡ true)
  sent_by servers own event id dests others before told named state rising each same =
      let found = found_by before (stored_at events id) state in
      let here : stored_at events (event_id event) ≡ Some found.stored = ap (stored_at events) (sym named) ∙ found.is in
      let which : (place : ℕ) → is_among others place ≡ is_destination events (rules.before events found.stored.event.event) servers own place =
      λ place. each place ∙ ap (λ b. is_destination events b servers own place) found.state in (
        (λ yes. record {
          stored = found.stored;
          found = here;
          destinations = record { rising = subst IsStrictlyIncreasing (sym (same.0 yes)) rising; each = λ place. ap (λ ds. is_among ds place) (same.0 yes) ∙ which place };
        }),
        (λ is. same.1 (same_members dests others is.destinations.rising rising (λ place.
            is.destinations.each place
            ∙ ap (λ (s : Stored). is_destination events (rules.before events s.event.event) servers own place) (ap (or_stored found.stored) (sym is.found ∙ here))
            ∙ sym (which place)))),
      )
    where
      or_stored : Stored → Option Stored → Stored
      or_stored s None = s
      or_stored s (Some stored) = stored
