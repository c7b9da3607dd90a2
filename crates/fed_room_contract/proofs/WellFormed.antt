-- Rooms stay well formed.
use Rattle.std.proofs.Common.{◌≡◌, ℕ, List, [], ◌∷◌, ◌++◌, map, filter, length, length-append, Bool, true, false, ◌||◌, not, cond, if◌then◌else◌, nat_lt, Option, Some, None, refl, sym, ap, ◌∙◌, subst, ◌⊎◌, inl, inr, arith, true≢false}
use Rattle.std.proofs.Math.Nat.{le_trans}
use Rattle.std.proofs.lemmas.Bool.{ltb-true}
use Rattle.std.specs.List.{IsDistinct, AllByRecursion}
use Rattle.std.specs.Str.{bytes_eq}
use Rattle.fed_event.specs.Checked.{CheckedEvent}
use Rattle.fed_room_contract.specs.declared.verdict.Verdict.{Verdict}
use Rattle.fed_room_contract.specs.declared.verdict.Verdict.TheVariants.{Accepted}
use Rattle.fed_room_contract.specs.declared.receipt.Receipt.{Receipt}
use Rattle.fed_room_contract.specs.declared.graph.Stored.{Stored}
use Rattle.fed_room_contract.specs.declared.input.Input.{Input}
use Rattle.fed_room_contract.specs.declared.input.Input.TheVariants.{Receive, Advance, Commit}
use Rattle.fed_room_contract.specs.Graph.{is_stored, is_ready}
use Rattle.fed_room_contract.specs.Room.{RoomState, Rules, event_id, is_of_id, is_waiting, is_known, with_stored, with_waiting, most_waiting, receipt_of, after_receipt, first_ready, with_ready, empty_room}
use Rattle.fed_room_contract.specs.Runs.{after_input, room_after, IsRoom, IsAcceptable, MayBeGiven, AllMayBeGiven}
use Rattle.fed_room_contract.proofs.Apart.{apart-stored, apart-waits, found_passes, found_apart}
use Rattle.fed_room_contract.proofs.Graphs.{no_graph, graph_grows, split}
use Rattle.fed_room_contract.proofs.Rooms.{fewer}
use Rattle.fed_room_contract.proofs.Stores.{receipt_known, receipt_ready, receipt_late, neither, not_stored}

-- ---- different ids

all_fewer : (P : List ℕ → Type 0) (p : CheckedEvent → Bool) (xs : List CheckedEvent) → AllByRecursion P (map event_id xs) → AllByRecursion P (map event_id (filter p xs))
all_fewer P p [] h = h
all_fewer P p (x ∷ xs) h = by (p x) (all_fewer P p xs h.1)
  where
    by : (b : Bool) → AllByRecursion P (map event_id (filter p xs)) → AllByRecursion P (map event_id (cond b (x ∷ filter p xs) (filter p xs)))
    by true rest = (h.0, rest)
    by false rest = rest

different_fewer : (p : CheckedEvent → Bool) (xs : List CheckedEvent) → IsDistinct bytes_eq (map event_id xs) → IsDistinct bytes_eq (map event_id (filter p xs))
unfolding IsDistinct
different_fewer p [] h = h
different_fewer p (x ∷ xs) h = by (p x) (all_fewer (λ y. bytes_eq (event_id x) y ≡ false) p xs h.0) (different_fewer p xs h.1)
  where
    by : (b : Bool) → AllByRecursion (λ y. bytes_eq (event_id x) y ≡ false) (map event_id (filter p xs)) → IsDistinct bytes_eq (map event_id (filter p xs))
        → IsDistinct bytes_eq (map event_id (cond b (x ∷ filter p xs) (filter p xs)))
    by true all rest = (all, rest)
    by false all rest = rest

all_more : (P : List ℕ → Type 0) (xs : List CheckedEvent) (e : CheckedEvent) → AllByRecursion P (map event_id xs) → P (event_id e) → AllByRecursion P (map event_id (xs ++ e ∷ []))
all_more P [] e h last = (last, tt)
all_more P (x ∷ xs) e h last = (h.0, all_more P xs e h.1 last)

nor : (a b : Bool) → (a || b) ≡ false → b ≡ false
nor true b h = absurd (true≢false h)
nor false b h = h

different_more : (xs : List CheckedEvent) (e : CheckedEvent) → IsDistinct bytes_eq (map event_id xs) → is_waiting xs (event_id e) ≡ false → IsDistinct bytes_eq (map event_id (xs ++ e ∷ []))
unfolding IsDistinct
different_more [] e h new = (tt, tt)
different_more (x ∷ xs) e h new =
    (all_more (λ y. bytes_eq (event_id x) y ≡ false) xs e h.0 (neither (is_of_id (event_id e) x) _ new), different_more xs e h.1 (nor (is_of_id (event_id e) x) _ new))

none_different : IsDistinct bytes_eq []
unfolding IsDistinct
none_different = tt

-- ---- one event more

module _ (rules : Rules) where
  abbrev Decided : List Stored → Type 0
  Decided xs = (before : List Stored) (next : Stored) (after : List Stored) → xs ≡ before ++ next ∷ after → next.verdict ≡ rules.decide before next.event

  decided_more : (xs : List Stored) (last : Stored) → Decided xs → last.verdict ≡ rules.decide xs last.event → Decided (xs ++ last ∷ [])
  decided_more xs last h here before next after e = by (split xs last before next after e)
    where
      by : ((before ≡ xs) × (next ≡ last)) ⊎ ((rest : List Stored) × (xs ≡ before ++ next ∷ rest)) → next.verdict ≡ rules.decide before next.event
      by (inl (p, q)) = ap (λ (s : Stored). s.verdict) q ∙ here ∙ sym (ap (rules.decide xs) (ap (λ (s : Stored). s.event) q)) ∙ ap (λ (ys : List Stored). rules.decide ys next.event) (sym p)
      by (inr (rest, p)) = h before next rest p

  nothing_decided : Decided []
  nothing_decided [] next after e = absurd (cc)
  nothing_decided (b ∷ before) next after e = absurd (cc)

  pub new_room : IsRoom rules empty_room
  new_room = record { graph = no_graph; decided = nothing_decided; apart = refl; different = none_different; few = omega arith }

  stores : (room : RoomState) (event : CheckedEvent) (verdict : Verdict) → IsRoom rules room → is_stored room.stored (event_id event) ≡ false → is_ready room.stored event.event ≡ true
      → verdict ≡ rules.decide room.stored event → IsRoom rules (with_stored room event verdict)
  stores room event verdict h new ready decided =
      let last : Stored = record { event = event; verdict = verdict } in
      record {
        graph = graph_grows room.stored last h.graph (record { new = new; ready = ready });
        decided = decided_more room.stored last h.decided decided;
        apart = apart-stored room.stored last room.waiting h.apart;
        different = different_fewer (λ e. not (is_of_id (event_id event) e)) room.waiting h.different;
        few = le_trans (fewer (event_id event) room.waiting) h.few;
      }

  waits : (room : RoomState) (event : CheckedEvent) → IsRoom rules room → is_known room (event_id event) ≡ false → nat_lt (length room.waiting) most_waiting ≡ true → IsRoom rules (with_waiting room event)
  waits room event h new few = record {
    graph = h.graph;
    decided = h.decided;
    apart = apart-waits room.stored event room.waiting h.apart (not_stored room (event_id event) new);
    different = different_more room.waiting event h.different (nor (is_stored room.stored (event_id event)) _ new);
    few = let less = ltb-true (length room.waiting) most_waiting few in let len = length-append room.waiting (event ∷ []) in omega arith;
  }

  -- ---- each input

  receives : (room : RoomState) (event : CheckedEvent) → IsRoom rules room → IsRoom rules (after_receipt room event (receipt_of rules room event))
  receives room event h = known (is_known room (event_id event)) refl
    where
      told : (r : Receipt) → receipt_of rules room event ≡ r → IsRoom rules (after_receipt room event r) → IsRoom rules (after_receipt room event (receipt_of rules room event))
      told r e t = subst (λ (r : Receipt). IsRoom rules (after_receipt room event r)) (sym e) t

      few : (b : Bool) → nat_lt (length room.waiting) most_waiting ≡ b → is_known room (event_id event) ≡ false → is_ready room.stored event.event ≡ false → IsRoom rules (after_receipt room event (receipt_of rules room event))
      few true t new late = told _ (receipt_late rules room event true new late t) (waits room event h new t)
      few false t new late = told _ (receipt_late rules room event false new late t) (record { graph = h.graph; decided = h.decided; apart = h.apart; different = h.different; few = h.few })

      ready : (b : Bool) → is_ready room.stored event.event ≡ b → is_known room (event_id event) ≡ false → IsRoom rules (after_receipt room event (receipt_of rules room event))
      ready true t new = told _ (receipt_ready rules room event new t) (stores room event (rules.decide room.stored event) h (not_stored room (event_id event) new) t refl)
      ready false t new = few (nat_lt (length room.waiting) most_waiting) refl new t

      known : (b : Bool) → is_known room (event_id event) ≡ b → IsRoom rules (after_receipt room event (receipt_of rules room event))
      known true t = told _ (receipt_known rules room event t) h
      known false t = ready (is_ready room.stored event.event) refl t

  advances : (room : RoomState) (o : Option CheckedEvent) → first_ready room ≡ o → IsRoom rules room → IsRoom rules (with_ready rules room o)
  advances room None e h = h
  advances room (Some event) e h =
      stores room event (rules.decide room.stored event) h (found_apart room.stored (λ w. is_ready room.stored w.event) room.waiting event h.apart e)
      (found_passes (λ w. is_ready room.stored w.event) room.waiting event e) refl

  commits : (room : RoomState) (event : CheckedEvent) (b : Bool) → is_stored room.stored (event_id event) ≡ b → (is_stored room.stored (event_id event) ≡ false → IsAcceptable rules room event)
      → IsRoom rules room → IsRoom rules (if b then room else with_stored room event Accepted)
  commits room event true t may h = h
  commits room event false t may h = let ok = may t in stores room event Accepted h t ok.ready (sym ok.accepted)

  pub input_keeps : (room : RoomState) (input : Input) → IsRoom rules room → MayBeGiven rules room input → IsRoom rules (after_input rules room input)
  input_keeps room (Receive event) h may = receives room event h
  input_keeps room Advance h may = advances room (first_ready room) refl h
  input_keeps room (Commit event) h may = commits room event (is_stored room.stored (event_id event)) refl may h

  pub inputs_keep : (room : RoomState) (inputs : List Input) → IsRoom rules room → AllMayBeGiven rules room inputs → IsRoom rules (room_after rules room inputs)
  inputs_keep room [] h may = h
  inputs_keep room (input ∷ inputs) h may = inputs_keep (after_input rules room input) inputs (input_keeps room input h may.0) may.1
