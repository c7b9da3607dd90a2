-- The levels that an event reads, by its auth events.
use Rattle.std.proofs.Common.{◌≡◌, ℕ, List, [], ◌∷◌, Bool, true, false, cond, Option, None, Some, find, option_map, option_and_then, refl, sym, ap, ◌∙◌}
use Rattle.std.specs.Prelude.{codes, slice_get}
use Rattle.std.specs.List.{filter_map, cons_option}
use Rattle.serde_json.specs.Data.{Data}
use Rattle.fed_event.specs.Event.{Event}
use Rattle.fed_event.specs.Tests.{holds}
use Rattle.fed_event.specs.Fields.{content_of}
use Rattle.fed_room_contract.specs.declared.graph.Stored.{Stored}
use Rattle.fed_auth.specs.AuthState.{stands_at, is_create}
use Rattle.fed_auth.specs.StateView.{creator_in}
use Rattle.fed_resolve.specs.Chain.{auths_at}
use Rattle.fed_resolve.specs.PowerOrder.{event_of, first_auth, create_read, levels_read}
use Rattle.fed_resolve.specs.LevelsParts.{auth_by, create_by, levels_by}

find-mapped : (events : List Stored) (test : Stored → Bool) (places : List ℕ)
    → find test (filter_map (slice_get events) places) ≡ option_and_then (slice_get events) (find (λ p. holds test (slice_get events p)) places)
find-mapped events test [] = refl
find-mapped events test (p ∷ places) = by (find-mapped events test places) (slice_get events p) refl
  where
    by : find test (filter_map (slice_get events) places) ≡ option_and_then (slice_get events) (find (λ x. holds test (slice_get events x)) places) → (o : Option Stored) → slice_get events p ≡ o
        → find test (cons_option o (filter_map (slice_get events) places)) ≡ option_and_then (slice_get events) (cond (holds test o) (Some p) (find (λ x. holds test (slice_get events x)) places))
    by rest None e = rest
    by rest (Some stored) e =
        elim (test stored) as (λ b. cond b (Some stored) (find test (filter_map (slice_get events) places)) ≡ option_and_then (slice_get events) (cond b (Some p) (find (λ x. holds test (slice_get events x)) places)))
        [ true ↦ sym e | false ↦ rest ]

map-twice : {X Y Z : Type 0} (f : X → Y) (g : Y → Z) (o : Option X) → option_map g (option_map f o) ≡ option_map (λ x. g (f x)) o
map-twice f g None = refl
map-twice f g (Some x) = refl

module _ (events : List Stored) (place : ℕ) (stored : Stored) where
  first-auth : (kind key : List ℕ) → option_map event_of (first_auth events place kind key) ≡ auth_by events place kind key
  first-auth kind key = ap (option_map event_of) (find-mapped events (stands_at kind key) (auths_at events place))

  create-read : create_read events place stored ≡ create_by events place (event_of stored)
  unfolding is_create
  create-read = ap (λ o. cond (is_create stored) (Some (event_of stored)) o) (first-auth (codes "m.room.create") [])

  levels-content : option_map (λ auth. content_of (event_of auth)) (first_auth events place (codes "m.room.power_levels") []) ≡ option_map content_of (auth_by events place (codes "m.room.power_levels") [])
  levels-content =
      sym (map-twice event_of content_of (first_auth events place (codes "m.room.power_levels") []))
      ∙ ap (option_map content_of) (first-auth (codes "m.room.power_levels") [])

  -- the levels that the event at the place reads
  pub levels-read : levels_read events place stored ≡ levels_by events place (event_of stored)
  levels-read =
      ap (λ (content : Option Data). record { content = content; creator = option_and_then creator_in (create_read events place stored) }) levels-content
      ∙ ap (λ (create : Option Event). record { content = option_map content_of (auth_by events place (codes "m.room.power_levels") []); creator = option_and_then creator_in create }) create-read
