-- The servers that are joined stay as more events are stored.
use Rattle.std.proofs.Common.{◌≡◌, ℕ, List, [], ◌∷◌, ◌++◌, ◌==◌, ◌&&◌, ◌||◌, Bool, true, false, not, cond, T, Ordering, Option, Some, None, slice_get, bytes_eq, codes, refl, ap, ◌∙◌}
use Rattle.std.specs.FinMap as finite
use Rattle.std.specs.FinMap.{find, is_sorted}
use Rattle.std.specs.List.{list_any}
use Rattle.std.specs.Ordering.{is_eq, eq_by_cmp}
use Rattle.std.specs.Cmp.{tied_itself}
use Rattle.fed_event.specs.Ids.{domain_of}
use Rattle.fed_event.specs.Tests.{holds}
use Rattle.fed_room_contract.specs.declared.graph.Stored.{Stored}
use Rattle.fed_room_contract.specs.State.{StateKey, StateMap, key_cmp}
use Rattle.fed_room_contract.specs.Graph.{has_id, stored_at, is_stored}
use Rattle.fed_room_contract.specs.Lawful.{NamesStored}
use Rattle.fed_room_contract.proofs.Filled.{first, second, tied, absent}
use Rattle.fed_room_contract.proofs.States.{key_cmp_total}
use Rattle.fed_dest.specs.Joined.{says_join, joins, is_joined, is_joined_place, is_destination}

abbrev Entry : Type 0
Entry = StateKey × List ℕ

-- what is found among stored events is found among more
found_stays : (events more : List Stored) (id : List ℕ) → is_stored events id ≡ true → stored_at (events ++ more) id ≡ stored_at events id
found_stays [] more id h = absurd (cc)
found_stays (x ∷ events) more id h = by (has_id id x) h (found_stays events more id)
  where
    by : (b : Bool) → (b || is_stored events id) ≡ true → (is_stored events id ≡ true → stored_at (events ++ more) id ≡ stored_at events id)
        → cond b (Some x) (stored_at (events ++ more) id) ≡ cond b (Some x) (stored_at events id)
    by true t stays = refl
    by false t stays = stays t

-- tests that agree on each entry that is found pass both or neither
any_found : (p q : Entry → Bool) (es : List Entry) → T (is_sorted key_cmp es) → ((e : Entry) → find key_cmp e.0 es ≡ Some e.1 → p e ≡ q e) → list_any p es ≡ list_any q es
any_found p q [] rise same = refl
any_found p q (e ∷ es) rise same =
    ap (λ b. b || list_any p es) (same e (ap (λ (o : Ordering). cond (is_eq o) (Some e.1) (find key_cmp e.0 es)) (tied_itself key_cmp_total e.0)))
    ∙ ap (λ b. q e || b) (any_found p q es (second _ _ rise) (λ other found. same other (by other found (eq_by_cmp key_cmp other.0 e.0) refl)))
  where
    by : (other : Entry) → find key_cmp other.0 es ≡ Some other.1 → (b : Bool) → eq_by_cmp key_cmp other.0 e.0 ≡ b → find key_cmp other.0 (e ∷ es) ≡ Some other.1
    by other found false t = ap (λ b. cond b (Some e.1) (find key_cmp other.0 es)) t ∙ found
    by other found true t = let none = absent key_cmp_total other.0 e.0 es (tied _ t) (first _ _ rise) in absurd (cc)

module _ (events more : List Stored) (state : StateMap) (named : NamesStored events state) where
  pub joined_stay : (server : List ℕ) → is_joined (events ++ more) state server ≡ is_joined events state server
  joined_stay server =
      any_found (joins (events ++ more) server) (joins events server) (finite.entries state) (finite.entries_sorted state)
      (λ e found.
      ap (λ (o : Option Stored). bytes_eq e.0.0 (codes "m.room.member") && bytes_eq (domain_of e.0.1) server && holds (λ stored. says_join stored.event.event) o)
      (found_stays events more e.1 (named e.0.0 e.0.1 e.1 (finite.get-entries state e.0 ∙ found))))

  pub places_stay : (servers : List (List ℕ)) (place : ℕ) → is_joined_place (events ++ more) state servers place ≡ is_joined_place events state servers place
  places_stay servers place = by (slice_get servers place)
    where
      by : (o : Option (List ℕ)) → holds (is_joined (events ++ more) state) o ≡ holds (is_joined events state) o
      by None = refl
      by (Some server) = joined_stay server

  pub destinations_stay : (servers : List (List ℕ)) (own place : ℕ) → is_destination (events ++ more) state servers own place ≡ is_destination events state servers own place
  destinations_stay servers own place = ap (λ b. not (place == own) && b) (places_stay servers place)
