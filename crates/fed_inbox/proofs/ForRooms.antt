-- What requests bring for the rooms: checked events of known rooms, and of one request no two of one id.
use Rattle.std.proofs.Common.{arith, zero, suc, ◌≡◌, ◌≢◌, ℕ, List, [], ◌∷◌, map, filter, Bool, true, false, ◌&&◌, ◌||◌, not, if◌then◌else◌, Option, Some, None, is_some, is_none, option_map, bytes_eq, codes, refl, sym, ap, subst, ◌∙◌, inl, inr}
use Rattle.std.proofs.lemmas.Bool.{false≢true}
use Rattle.std.proofs.lemmas.List.Elements.{All-nil, All-cons, All-append, All-map, All-weaker, filter_passes}
use Rattle.std.proofs.lemmas.List.Kept.{AllPairs-cons, AllPairs-filter}
use Rattle.std.proofs.lemmas.Slice.Eq.{bytes_eq-Decides}
use Rattle.std.specs.List.{All, AllPairs}
use Rattle.serde_json.specs.Data.{Data}
use Rattle.serde_json.specs.Find.{as_object}
use Rattle.fed_event.specs.declared.fault.PduFault.{PduFault}
use Rattle.fed_event.specs.Names.{is_one_of}
use Rattle.fed_event.specs.EventId.{event_id_of}
use Rattle.fed_inbox.specs.Elements.{read_as, element_id}
use Rattle.fed_event.specs.Fields.{room_id_of}
use Rattle.fed_event.specs.Tests.{first_fault_of}
use Rattle.fed_event.specs.Verdict.{verdict_of}
use Rattle.fed_event.specs.Keys.{Checks}
use Rattle.fed_event.specs.Signatures.{is_signed}
use Rattle.fed_event.specs.Checked.{CheckedEvent, checked_of}
use Rattle.fed_event.proofs.CheckedFields.{id_kept, room_kept}
use Rattle.fed_inbox.specs.Inbox.{InboxState}
use Rattle.fed_inbox.specs.Taking.{first_text, unless, verdict_on, firsts_but, firsts, passing, fresh_of}
use Rattle.fed_inbox.specs.Answer.{SendRequest, after, marked_answer, marked_after, marked_fresh}
use Rattle.fed_inbox.specs.Runs.{MarkedRequest, fresh_all, IsForRooms}
use Rattle.fed_inbox.proofs.Cases.{RequestCases, cases}

-- an event has no verdict where it passes all that a verdict can come from
no_verdict : (o : Option PduFault) (signed known : Bool) (t u : List ℕ) → is_none (first_text (option_map verdict_of o ∷ unless signed t ∷ unless known u ∷ [])) ≡ true
    → (o ≡ None) × (signed ≡ true) × (known ≡ true)
no_verdict (Some fault) signed known t u h = absurd (false≢true h)
no_verdict None false known t u h = absurd (false≢true h)
no_verdict None true false t u h = absurd (false≢true h)
no_verdict None true true t u h = (refl, refl, refl)

module _ (checks : Checks) (rooms : List (List ℕ)) where
  for_rooms : (event : Data) → is_none (verdict_on checks rooms event) ≡ true → IsForRooms checks rooms (checked_of checks (read_as event))
  for_rooms event h =
      let (passes, signed, known) = no_verdict (first_fault_of event) (is_signed checks (read_as event)) (is_one_of rooms (room_id_of (read_as event))) (codes "bad signature") (codes "unknown room") h in
      ((read_as event, passes, signed, refl), ap (is_one_of rooms) (room_kept checks (read_as event)) ∙ known)

  all_for_rooms : (events : List Data) → All (IsForRooms checks rooms) (passing checks rooms events)
  all_for_rooms events =
      let p : Data → Bool = λ event. is_none (verdict_on checks rooms event) in
      All-map (IsForRooms checks rooms) (λ e. checked_of checks (read_as e)) (filter p events) (All-weaker _ _ for_rooms (filter p events) (filter_passes p events))

-- ---- events of one request

known_later : (a b : Bool) → (a || b) ≡ false → (a ≡ false) × (b ≡ false)
known_later true b h = absurd (false≢true (sym h))
known_later false b h = (refl, h)

looked_at : (a b : Bool) → (a && not b) ≡ true → b ≡ false
looked_at true true h = sym h
looked_at true false h = refl
looked_at false b h = absurd (false≢true h)

-- the first of an id has none of the known ids
unknown : (known : List (List ℕ)) (elements : List Data) → All (λ e. is_one_of known (element_id e) ≡ false) (firsts_but known elements)
unknown known [] = All-nil (λ e. is_one_of known (element_id e) ≡ false)
unknown known (e ∷ es) = by (is_some (as_object e) && not (is_one_of known (element_id e))) refl (unknown (element_id e ∷ known) es) (unknown known es)
  where
    id : List ℕ
    id = element_id e

    P : List (List ℕ) → Data → Type 0
    P known e = is_one_of known (element_id e) ≡ false

    by : (b : Bool) → (is_some (as_object e) && not (is_one_of known id)) ≡ b → All (P (id ∷ known)) (firsts_but (id ∷ known) es) → All (P known) (firsts_but known es)
        → All (P known) (if b then e ∷ firsts_but (id ∷ known) es else firsts_but known es)
    by true is entered skipped =
        All-cons (P known) e (firsts_but (id ∷ known) es) (looked_at (is_some (as_object e)) (is_one_of known id) is)
        (All-weaker (P (id ∷ known)) (P known) (λ x h. (known_later (bytes_eq (element_id x) id) (is_one_of known (element_id x)) h).1) (firsts_but (id ∷ known) es) entered)
    by false is entered skipped = skipped

abbrev AreApart : Data → Data → Type 0
AreApart one other = element_id one ≢ element_id other

firsts_apart : (known : List (List ℕ)) (elements : List Data) → AllPairs AreApart (firsts_but known elements)
firsts_apart known [] = λ i j d lt within. absurd (omega arith)
firsts_apart known (e ∷ es) = by (is_some (as_object e) && not (is_one_of known (element_id e))) (firsts_apart (element_id e ∷ known) es) (firsts_apart known es)
  where
    id : List ℕ
    id = element_id e

    other : (x : Data) → is_one_of (id ∷ known) (element_id x) ≡ false → AreApart e x
    other x h same = false≢true (sym (known_later (bytes_eq (element_id x) id) (is_one_of known (element_id x)) h).0 ∙ (bytes_eq-Decides (element_id x) id).1 (sym same))

    by : (b : Bool) → AllPairs AreApart (firsts_but (id ∷ known) es) → AllPairs AreApart (firsts_but known es) → AllPairs AreApart (if b then e ∷ firsts_but (id ∷ known) es else firsts_but known es)
    by true entered skipped = AllPairs-cons AreApart e (firsts_but (id ∷ known) es) (All-weaker _ _ other (firsts_but (id ∷ known) es) (unknown (id ∷ known) es)) entered
    by false entered skipped = skipped

module _ (checks : Checks) (rooms : List (List ℕ)) where
  abbrev AreApartChecked : CheckedEvent → CheckedEvent → Type 0
  AreApartChecked one other = event_id_of one.event ≢ event_id_of other.event

  abbrev checked : Data → CheckedEvent
  checked element = checked_of checks (read_as element)

  checked_apart : (events : List Data) → AllPairs AreApart events → AllPairs AreApartChecked (map checked events)
  checked_apart [] h = λ i j d lt within. absurd (omega arith)
  checked_apart (x ∷ xs) h =
      let still : (y : Data) → AreApart x y → AreApartChecked (checked x) (checked y) = λ y n e. n (sym (id_kept checks (read_as x)) ∙ e ∙ id_kept checks (read_as y)) in
      let head : All (AreApart x) xs = λ k d within. h zero (suc k) d (omega arith) (omega arith) in
      AllPairs-cons AreApartChecked (checked x) (map checked xs)
      (All-map (AreApartChecked (checked x)) checked xs (All-weaker (AreApart x) (λ y. AreApartChecked (checked x) (checked y)) still xs head))
      (checked_apart xs (λ i j d lt within. h (suc i) (suc j) d (omega arith) (omega arith)))

  fresh_apart : (elements : List Data) → AllPairs AreApartChecked (fresh_of checks rooms elements)
  fresh_apart elements =
      let p : Data → Bool = λ event. is_none (verdict_on checks rooms event) in
      checked_apart (filter p (firsts elements)) (AllPairs-filter AreApart p (firsts elements) (firsts_apart [] elements))

-- ---- requests

module _ (checks : Checks) (s : InboxState) (r : SendRequest) (found : Bool) where
  abbrev Cased : Type 0
  Cased = RequestCases checks s r (marked_answer checks s r found) (marked_after checks s r found) (marked_fresh checks s r found)

  pub one_for_rooms : All (IsForRooms checks s.rooms) (marked_fresh checks s r found)
  one_for_rooms = by (cases checks s r found)
    where
      by : Cased → All (IsForRooms checks s.rooms) (marked_fresh checks s r found)
      by (inl nothing) = subst (All (IsForRooms checks s.rooms)) (sym nothing.fresh_is) (All-nil (IsForRooms checks s.rooms))
      by (inr (inl again)) = subst (All (IsForRooms checks s.rooms)) (sym again.fresh_is) (All-nil (IsForRooms checks s.rooms))
      by (inr (inr first)) = subst (All (IsForRooms checks s.rooms)) (sym first.fresh_is) (all_for_rooms checks s.rooms (firsts first.transaction.pdus))

  pub one_apart : AllPairs (λ one other. event_id_of one.event ≢ event_id_of other.event) (marked_fresh checks s r found)
  one_apart = by (cases checks s r found)
    where
      none_apart : AllPairs {X = CheckedEvent} (λ one other. event_id_of one.event ≢ event_id_of other.event) []
      none_apart = λ i j d lt within. absurd (omega arith)

      by : Cased → AllPairs (λ one other. event_id_of one.event ≢ event_id_of other.event) (marked_fresh checks s r found)
      by (inl nothing) = subst (AllPairs (λ one other. event_id_of one.event ≢ event_id_of other.event)) (sym nothing.fresh_is) none_apart
      by (inr (inl again)) = subst (AllPairs (λ one other. event_id_of one.event ≢ event_id_of other.event)) (sym again.fresh_is) none_apart
      by (inr (inr first)) = subst (AllPairs (λ one other. event_id_of one.event ≢ event_id_of other.event)) (sym first.fresh_is) (fresh_apart checks s.rooms first.transaction.pdus)

  pub rooms_stay : (marked_after checks s r found).rooms ≡ s.rooms
  rooms_stay = elim found as (λ (b : Bool). (if b then after checks s r else s).rooms ≡ s.rooms) [ true ↦ refl | false ↦ refl ]

pub all_fresh : (checks : Checks) (s : InboxState) (asked : List MarkedRequest) → All (IsForRooms checks s.rooms) (fresh_all checks s asked)
all_fresh checks s [] = All-nil (IsForRooms checks s.rooms)
all_fresh checks s (one ∷ later) =
    let now = marked_after checks s one.0 one.1 in
    All-append (IsForRooms checks s.rooms) (marked_fresh checks s one.0 one.1) (fresh_all checks now later) (one_for_rooms checks s one.0 one.1)
    (subst (λ rooms. All (IsForRooms checks rooms) (fresh_all checks now later)) (rooms_stay checks s one.0 one.1) (all_fresh checks now later))
