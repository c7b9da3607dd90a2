-- How many events a request brings for the rooms, and what the queue of a room gets of them.
use Rattle.std.proofs.Common.{arith, ◌≡◌, ◌≢◌, ℕ, zero, suc, ◌+◌, ◌<◌, ◌≤◌, ◌==◌, nat_lt, Bool, true, false, ◌&&◌, not, cond, if◌then◌else◌, List, [], ◌∷◌, ◌++◌, length, filter, get_or, Option, Some, None, is_some, is_none, Result, Ok, Err, bytes_eq, refl, sym, ap, subst, ◌∙◌, ◌⊎◌, inl, inr, take, drop}
use Rattle.std.proofs.lemmas.List.{length-map}
use Rattle.std.specs.List.{slice_get, IsDistinct, position_or_len}
use Rattle.std.specs.Prelude.{pos}
use Rattle.std.specs.Option.{unwrap_or}
use Rattle.std.proofs.lemmas.Bool.{leb-true, false≢true, lt-ltb}
use Rattle.std.proofs.lemmas.Bool.Decides.{nat_tests}
use Rattle.std.proofs.lemmas.List.Quantifiers.{position-Some}
use Rattle.std.proofs.lemmas.List.Sums.{position_or_len_is}
use Rattle.std.proofs.lemmas.Map.Keys.{apart_from_distinct}
use Rattle.std.proofs.lemmas.Option.{none-some, same_Some, slice_get_within, get_or_from_slice_get}
use Rattle.std.proofs.lemmas.Slice.Eq.{bytes_eq-Decides}
use Rattle.serde_json.specs.Data.{Data}
use Rattle.serde_json.specs.Find.{as_object}
use Rattle.fed_event.specs.Names.{is_one_of}
use Rattle.fed_inbox.specs.Elements.{read_as, element_id}
use Rattle.fed_event.specs.Keys.{Checks}
use Rattle.fed_event.specs.Checked.{CheckedEvent, checked_of}
use Rattle.fed_event.specs.Fields.{room_id_of}
use Rattle.fed_event.specs.Tests.{holds}
use Rattle.fed_dest.specs.List.{place_of}
use Rattle.fed_txn.specs.declared.fault.TxnFault.{TxnFault}
use Rattle.fed_txn.specs.declared.fault.TxnFault.TheVariants.{TooManyPdus}
use Rattle.fed_txn.specs.Transaction.{Transaction, origin_of, at_ms_of, pdus_of, edus_of, are_at_most, tests, unless_failed, transaction_of}
use Rattle.fed_txn.specs.Reading.{body_of, transaction_or_fault}
use Rattle.fed_inbox.specs.Inbox.{InboxState}
use Rattle.fed_inbox.specs.Taking.{firsts_but, firsts, fresh_of, verdict_on}
use Rattle.fed_inbox.specs.Answer.{SendRequest, marked_answer, marked_after, marked_fresh}
use Rattle.fed_inbox.specs.Queues.{for_room, for_place, queues_from, queues_after}
use Rattle.fed_inbox.proofs.FoundLogs.{same_or_not}
use Rattle.fed_inbox.proofs.Cases.{RequestCases, cases}

-- ---- a transaction has at most 50 events

-- what passes all tests passes each, and is what was tested
each_passes : (before later : List (Bool × TxnFault)) (test : Bool × TxnFault) (t u : Transaction) → unless_failed (before ++ test ∷ later) t ≡ Ok u → test.0 ≡ true
each_passes [] later test t u e = by test.0 e
  where
    by : (b : Bool) → (if b then unless_failed later t else Err test.1) ≡ Ok u → b ≡ true
    by true e = refl
    by false e = absurd (cc)
each_passes (first ∷ before) later test t u e = by first.0 e (each_passes before later test t u)
  where
    by : (b : Bool) → (if b then unless_failed (before ++ test ∷ later) t else Err first.1) ≡ Ok u → (unless_failed (before ++ test ∷ later) t ≡ Ok u → test.0 ≡ true) → test.0 ≡ true
    by true e rest = rest e
    by false e rest = absurd (cc)

abbrev pdus_in : Result Transaction TxnFault → List Data
pdus_in (Ok t) = t.pdus
pdus_in (Err fault) = []

is_tested : (all : List (Bool × TxnFault)) (t u : Transaction) → unless_failed all t ≡ Ok u → u.pdus ≡ t.pdus
is_tested [] t u e = sym (ap pdus_in e)
is_tested (test ∷ later) t u e = by test.0 e (is_tested later t u)
  where
    by : (b : Bool) → (if b then unless_failed later t else Err test.1) ≡ Ok u → (unless_failed later t ≡ Ok u → u.pdus ≡ t.pdus) → u.pdus ≡ t.pdus
    by true e rest = rest e
    by false e rest = absurd (cc)

abbrev whole : Data → Transaction
whole body = record {
  origin = unwrap_or (origin_of body) [];
  at_ms = unwrap_or (at_ms_of body) (pos 0);
  pdus = unwrap_or (pdus_of body) [];
  edus = unwrap_or (edus_of body) [];
}

few_pdus : (body : Data) (u : Transaction) → transaction_of body ≡ Ok u → length u.pdus ≤ 50
few_pdus body u e =
    let within = leb-true (length (unwrap_or (pdus_of body) [])) 50 (each_passes (take 5 (tests body)) (drop 6 (tests body)) (are_at_most 50 (pdus_of body), TooManyPdus) (whole body) u e) in
    let same = ap length (is_tested (tests body) (whole body) u e) in
    omega arith

few_in : (body : Result Data TxnFault) (u : Transaction) → transaction_or_fault body ≡ Ok u → length u.pdus ≤ 50
few_in (Ok body) u e = few_pdus body u e
few_in (Err fault) u e = absurd (cc)

-- ---- a request brings no more than its transaction has

few_firsts : (known : List (List ℕ)) (elements : List Data) → length (firsts_but known elements) ≤ length elements
few_firsts known [] = omega arith
few_firsts known (e ∷ es) = by (is_some (as_object e) && not (is_one_of known (element_id e))) (few_firsts (element_id e ∷ known) es) (few_firsts known es)
  where
    by : (b : Bool) → length (firsts_but (element_id e ∷ known) es) ≤ length es → length (firsts_but known es) ≤ length es
        → length (if b then e ∷ firsts_but (element_id e ∷ known) es else firsts_but known es) ≤ length (e ∷ es)
    by true entered skipped = omega arith
    by false entered skipped = omega arith

few_pass : (p : Data → Bool) (events : List Data) → length (filter p events) ≤ length events
few_pass p [] = omega arith
few_pass p (e ∷ es) = by (p e) (few_pass p es)
  where
    by : (b : Bool) → length (filter p es) ≤ length es → length (cond b (e ∷ filter p es) (filter p es)) ≤ length (e ∷ es)
    by true rest = omega arith
    by false rest = omega arith

few_fresh : (checks : Checks) (rooms : List (List ℕ)) (elements : List Data) → length (fresh_of checks rooms elements) ≤ length elements
few_fresh checks rooms elements =
    let firsts_few = few_firsts [] elements in
    let p : Data → Bool = λ event. is_none (verdict_on checks rooms event) in
    let pass_few = few_pass p (firsts elements) in
    let same = length-map (filter p (firsts elements)) (λ e. checked_of checks (read_as e)) in
    omega arith

pub few_for_rooms : (checks : Checks) (s : InboxState) (r : SendRequest) (found : Bool) → length (marked_fresh checks s r found) ≤ 50
few_for_rooms checks s r found = by (cases checks s r found)
  where
    by : RequestCases checks s r (marked_answer checks s r found) (marked_after checks s r found) (marked_fresh checks s r found) → length (marked_fresh checks s r found) ≤ 50
    by (inl nothing) = let none = ap length nothing.fresh_is in omega arith
    by (inr (inl again)) = let none = ap length again.fresh_is in omega arith
    by (inr (inr first)) =
        let is = ap length first.fresh_is in
        let few = few_in (body_of r.body) first.transaction first.read in
        let fresh = few_fresh checks s.rooms first.transaction.pdus in
        omega arith

-- ---- the queues of the rooms

pub false_if_not : (b : Bool) → (b ≡ true → ⊥) → b ≡ false
false_if_not false h = refl
false_if_not true h = absurd (h refl)

module _ (known : List (List ℕ)) where
  -- the room at place m = n + k gets the events for it
  queue_from : (n : ℕ) (events : List CheckedEvent) (queues : List (List CheckedEvent)) (k m : ℕ) (queue : List CheckedEvent) → m ≡ n + k
      → slice_get queues k ≡ Some queue → slice_get (queues_from n known events queues) k ≡ Some (queue ++ for_place known m events)
  queue_from n events [] k m queue at here = absurd (none-some queue here)
  queue_from n events (q ∷ queues) zero m queue at here =
      let first : n ≡ m = omega arith in
      λ i. Some (same_Some q queue here i ++ for_place known (first i) events)
  queue_from n events (q ∷ queues) (suc k) m queue at here = queue_from (n + 1) events queues k m queue (omega (arith, at)) here

  pub queue_of_place : (events : List CheckedEvent) (queues : List (List CheckedEvent)) (k : ℕ) (queue : List CheckedEvent)
      → slice_get queues k ≡ Some queue → slice_get (queues_after known events queues) k ≡ Some (queue ++ for_place known k events)
  queue_of_place events queues k queue here = queue_from 0 events queues k k queue (omega arith) here

  queues_from_stay : (n : ℕ) (events : List CheckedEvent) (queues : List (List CheckedEvent)) → length (queues_from n known events queues) ≡ length queues
  queues_from_stay n events [] = refl
  queues_from_stay n events (queue ∷ queues) = ap suc (queues_from_stay (n + 1) events queues)

  pub queues_stay : (events : List CheckedEvent) (queues : List (List CheckedEvent)) → length (queues_after known events queues) ≡ length queues
  queues_stay events queues = queues_from_stay 0 events queues

  -- ---- different ids

  module _ (apart : IsDistinct bytes_eq known) (k : ℕ) (room : List ℕ) (there : slice_get known k ≡ Some room) where
    within : k < length known
    within = slice_get_within known k room there

    -- the room itself stands at its place, and no earlier
    own_place : place_of known room ≡ Some k
    own_place =
        let at : position_or_len (λ other. bytes_eq other room) known ≡ k = position_or_len_is (λ other. bytes_eq other room) known k [] (omega (arith, within))
        (λ j below. ap (bytes_eq (get_or known j [])) (sym (get_or_from_slice_get known k room [] there)) ∙ apart_from_distinct bytes_eq known j k [] apart below within)
        (λ _. ap (λ other. bytes_eq other room) (get_or_from_slice_get known k room [] there) ∙ (bytes_eq-Decides room room).1 refl) in
        ap (λ (n : ℕ). cond (nat_lt n (length known)) (Some n) None) at ∙ ap (λ b. cond b (Some k) None) (lt-ltb k (length known) within)

    -- another room stands elsewhere
    other_place : (name : List ℕ) (o : Option ℕ) → place_of known name ≡ o → holds (λ place. place == k) o ≡ true → name ≡ room
    other_place name None is h = absurd (false≢true h)
    other_place name (Some j) is h =
        let same : j ≡ k = grind (arith, nat_tests) in
        let P : ℕ → Type 0 = λ n. bytes_eq (get_or known n []) name ≡ true in
        sym ((bytes_eq-Decides (get_or known k []) name).0 (subst P same (position-Some (λ other. bytes_eq other name) known j [] is).1)) ∙ get_or_from_slice_get known k room [] there

    equal_itself : (place : ℕ) → (place == place) ≡ true
    equal_itself place = grind (arith, nat_tests)

    is_for_place : (name : List ℕ) → holds (λ place. place == k) (place_of known name) ≡ bytes_eq name room
    is_for_place name = by (same_or_not name room)
      where
        by : (name ≡ room) ⊎ (name ≢ room) → holds (λ place. place == k) (place_of known name) ≡ bytes_eq name room
        by (inl same) =
            ap (λ n. holds (λ place. place == k) (place_of known n)) same ∙ ap (holds (λ place. place == k)) own_place ∙ equal_itself k
            ∙ sym ((bytes_eq-Decides name room).1 same)
        by (inr other) =
            false_if_not (holds (λ place. place == k) (place_of known name)) (λ h. other (other_place name (place_of known name) refl h))
            ∙ sym (false_if_not (bytes_eq name room) (λ h. other ((bytes_eq-Decides name room).0 h)))

    pub place_is_room : (events : List CheckedEvent) → for_place known k events ≡ for_room room events
    place_is_room events = λ i. filter (λ (event : CheckedEvent). is_for_place (room_id_of event.event) i) events
