-- Events that get in front of their rooms.
use Rattle.std.proofs.Common.{arith, ◌≡◌, ℕ, zero, suc, ◌+◌, ◌<◌, ◌==◌, Bool, true, false, if◌then◌else◌, List, [], ◌∷◌, ◌++◌, length, set, Option, Some, refl, sym, ap, ◌∙◌, append_assoc, append-nil}
use Rattle.std.specs.List.{slice_get}
use Rattle.std.specs.Option.{option_map}
use Rattle.std.proofs.lemmas.List.{map-set}
use Rattle.std.proofs.lemmas.Option.{same_Some, none-some, slice_get-map}
use Rattle.std.proofs.lemmas.Bool.{eq-eqb, ne_eqb}
use Rattle.fed_event.specs.Checked.{CheckedEvent}
use Rattle.fed_event.specs.Fields.{room_id_of}
use Rattle.fed_event.specs.Tests.{holds}
use Rattle.fed_dest.specs.List.{place_of}
use Rattle.fed_sim.specs.Hosted.{HostedState, arrivals_of}
use Rattle.fed_inbox.specs.Queues.{for_place, queues_from}

module _ (known : List (List ℕ)) where
  pub nothing_arrives : (n : ℕ) (queues : List (List CheckedEvent)) → queues_from n known [] queues ≡ queues
  nothing_arrives n [] = refl
  nothing_arrives n (queue ∷ queues) = λ i. append-nil queue i ∷ nothing_arrives (n + 1) queues i

  not_here : (n : ℕ) (event : CheckedEvent) (later : List CheckedEvent) (queues : List (List CheckedEvent))
      → ((k : ℕ) → k < length queues → holds (λ place. place == n + k) (place_of known (room_id_of event.event)) ≡ false)
      → queues_from n known (event ∷ later) queues ≡ queues_from n known later queues
  not_here n event later [] apart = refl
  not_here n event later (queue ∷ queues) apart =
      let zeroth : n + 0 ≡ n = omega arith in
      let other : holds (λ place. place == n) (place_of known (room_id_of event.event)) ≡ false =
      ap (λ m. holds (λ place. place == m) (place_of known (room_id_of event.event))) (sym zeroth) ∙ apart 0 (omega arith) in
      λ i. (queue ++ (if other i then event ∷ for_place known n later else for_place known n later))
      ∷ not_here (n + 1) event later queues (λ k below. let next : n + 1 + k ≡ n + (k + 1) = omega arith in
      ap (λ m. holds (λ place. place == m) (place_of known (room_id_of event.event))) next ∙ apart (k + 1) (omega (arith, below))) i

  -- its room is at place p
  at_its_place : (p k : ℕ) (o : Option ℕ) → o ≡ Some p → holds (λ place. place == k) o ≡ (p == k)
  at_its_place p k o is = ap (holds (λ place. place == k)) is

  one_arrives : (n : ℕ) (event : CheckedEvent) (later : List CheckedEvent) (queues : List (List CheckedEvent)) (k : ℕ) (queue : List CheckedEvent)
      → place_of known (room_id_of event.event) ≡ Some (n + k) → slice_get queues k ≡ Some queue
      → queues_from n known later (set queues k (queue ++ event ∷ [])) ≡ queues_from n known (event ∷ later) queues
  one_arrives n event later [] k queue is here = absurd (none-some queue here)
  one_arrives n event later (x ∷ xs) zero queue is here =
      let same : x ≡ queue = same_Some x queue here in
      let this : holds (λ place. place == n) (place_of known (room_id_of event.event)) ≡ true = at_its_place (n + 0) n _ is ∙ eq-eqb _ _ (omega arith) in
      let now : (queue ++ event ∷ []) ++ for_place known n later ≡ x ++ for_place known n (event ∷ later) =
      ap (λ q. (q ++ event ∷ []) ++ for_place known n later) (sym same) ∙ append_assoc x (event ∷ []) (for_place known n later)
      ∙ ap (λ (b : Bool). x ++ (if b then event ∷ for_place known n later else for_place known n later)) (sym this) in
      let rest : queues_from (n + 1) known later xs ≡ queues_from (n + 1) known (event ∷ later) xs =
      sym (not_here (n + 1) event later xs (λ k below. at_its_place (n + 0) (n + 1 + k) _ is ∙ ne_eqb _ _ (λ e. absurd (omega (arith, e))))) in
      λ i. now i ∷ rest i
  one_arrives n event later (x ∷ xs) (suc k) queue is here =
      let next : n + suc k ≡ n + 1 + k = omega arith in
      let other : holds (λ place. place == n) (place_of known (room_id_of event.event)) ≡ false = at_its_place (n + suc k) n _ is ∙ ne_eqb _ _ (λ e. absurd (omega (arith, e))) in
      let rest = one_arrives (n + 1) event later xs k queue (is ∙ ap Some next) here in
      λ i. (x ++ (if sym other i then event ∷ for_place known n later else for_place known n later)) ∷ rest i

  -- an event gets in front of its room
  pub arrives_here : (event : CheckedEvent) (later : List CheckedEvent) (rooms : List HostedState) (k : ℕ) (room new : HostedState)
      → place_of known (room_id_of event.event) ≡ Some k → slice_get rooms k ≡ Some room → new.queue ≡ room.queue ++ event ∷ []
      → queues_from 0 known later (arrivals_of (set rooms k new)) ≡ queues_from 0 known (event ∷ later) (arrivals_of rooms)
  arrives_here event later rooms k room new is here gives =
      let at : k ≡ 0 + k = omega arith in
      ap (queues_from 0 known later) (map-set (λ (h : HostedState). h.queue) rooms k new ∙ ap (set (arrivals_of rooms) k) gives)
      ∙ one_arrives 0 event later (arrivals_of rooms) k room.queue (is ∙ ap Some at)
      (slice_get-map (λ (h : HostedState). h.queue) rooms k ∙ ap (option_map (λ (h : HostedState). h.queue)) here)
