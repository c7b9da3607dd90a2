-- States of ids, and lists of states, that are made one after another are those of all at once.
use Rattle.std.proofs.Common.{◌≡◌, List, [], ◌∷◌, ◌++◌, Bool, true, false, is_some, is_ok, if◌then◌else◌, Option, Some, None, Result, Ok, Err, refl, sym, ap, ◌∙◌, append_assoc}
use Rattle.std.proofs.lemmas.List.{append-nil}
use Rattle.std.specs.List.{list_all, filter_map}
use Rattle.std.specs.Result.{result_ok}
use Rattle.std.specs.FinMap as finite
use Rattle.serde_json.specs.Data.{Data}
use Rattle.fed_json.specs.JsonRef.{as_items}
use Rattle.fed_redaction.specs.EventId.{event_id_of}
use Rattle.fed_event.specs.Event.{Event}
use Rattle.fed_event.specs.Fields.{kind_of, state_key_of}
use Rattle.fed_room_contract.specs.declared.graph.Stored.{Stored}
use Rattle.fed_room_contract.specs.State.{StateMap, entry_at}
use Rattle.fed_c.specs.declared.status.Status.{Status}
use Rattle.fed_c.specs.declared.status.Status.TheVariants.{BadState}
use Rattle.fed_c.specs.Results.{and_then, or_refusal}
use Rattle.fed_c.specs.States.{is_state, with_events, made_of, named, state_of, state_in, states_of}
use Rattle.fed_c.specs.StateParts.{laid_at, laid, laid_all, state_from, with_states}
use Rattle.fed_c.proofs.LaidEvents.{made_at_once}

-- what is no state is told in one way

abbrev OnlyBad : {X : Type 0} → Result X Status → Type 0
OnlyBad r = (why : Status) → r ≡ Err why → why ≡ BadState

bad_option : {X : Type 0} (o : Option X) → OnlyBad (or_refusal BadState o)
bad_option None why e = cc
bad_option (Some x) why e = absurd (cc)

bad_if : {X : Type 0} (b : Bool) (x : X) → OnlyBad (if b then Err BadState else Ok x)
bad_if true x why e = cc
bad_if false x why e = absurd (cc)

bad_then : {X Y : Type 0} (r : Result X Status) (f : X → Result Y Status) → OnlyBad r → ((x : X) → OnlyBad (f x)) → OnlyBad (and_then r f)
bad_then (Ok x) f first others why e = others x why e
bad_then (Err w) f first others why e = let bad = first w refl in cc

bad_laid : (state : StateMap) (event : Event) → OnlyBad (laid state event)
bad_laid state event =
    bad_then (or_refusal BadState (state_key_of event)) (λ key. laid_at state (kind_of event) key (event_id_of event)) (bad_option (state_key_of event))
    (λ key. bad_if (is_some (entry_at state (kind_of event) key)) _)

bad_else : {X : Type 0} (b : Bool) (r : Result X Status) → OnlyBad r → OnlyBad (if b then r else Err BadState)
bad_else true r bad why e = bad why e
bad_else false r bad why e = cc

bad_made : (events : List Event) → OnlyBad (made_of events)
bad_made events = bad_else (is_state events) (Ok (with_events finite.empty events)) (λ why e. absurd (cc))

module _ (events : List Stored) where
  abbrev all_named : List Data → Bool
  all_named ids = list_all (λ id. is_some (named events id)) ids

  abbrev named_events : List Data → List Event
  named_events ids = filter_map (named events) ids

  abbrev if_named : Bool → Result StateMap Status → Result StateMap Status
  if_named b r = if b then r else Err BadState

  abbrev IsFrom : StateMap → List Data → Type 0
  IsFrom state ids = state_from events state ids ≡ if_named (all_named ids) (laid_all state (named_events ids))

  bad_either : (b : Bool) (why : Status) → why ≡ BadState → ◌≡◌ {A = Result StateMap Status} (Err why) (if_named b (Err why))
  bad_either true why e = refl
  bad_either false why e = ap Err e

  one_laid : (ids : List Data) (r : Result StateMap Status) → OnlyBad r → ((after : StateMap) → IsFrom after ids)
      → and_then r (λ after. state_from events after ids) ≡ if_named (all_named ids) (and_then r (λ after. laid_all after (named_events ids)))
  one_laid ids (Ok after) bad rest = rest after
  one_laid ids (Err why) bad rest = bad_either (all_named ids) why (bad why refl)

  one_from : (state : StateMap) (id : Data) (ids : List Data) (o : Option Event) → named events id ≡ o → ((after : StateMap) → IsFrom after ids) → IsFrom state (id ∷ ids)
  one_from state id ids None e rest = rw e refl
  one_from state id ids (Some event) e rest = rw e (one_laid ids (laid state event) (bad_laid state event) rest)

  all_from : (state : StateMap) (ids : List Data) → IsFrom state ids
  all_from state [] = refl
  all_from state (id ∷ ids) = one_from state id ids (named events id) refl (λ after. all_from after ids)

  pub named_at_once : (ids : List Data) → state_from events finite.empty ids ≡ state_of events ids
  named_at_once ids = all_from finite.empty ids ∙ ap (if_named (all_named ids)) (made_at_once (named_events ids))

  only_bad : (value : Data) → OnlyBad (state_in events value)
  only_bad value = bad_then (or_refusal BadState (as_items value)) (state_of events) (bad_option (as_items value)) (λ ids. bad_else (all_named ids) (made_of (named_events ids)) (bad_made (named_events ids)))

  -- some states

  abbrev all_states : List Data → Bool
  all_states values = list_all (λ value. is_ok (state_in events value)) values

  abbrev states_among : List Data → List StateMap
  states_among values = filter_map (λ value. result_ok (state_in events value)) values

  abbrev AreListed : List StateMap → List Data → Type 0
  AreListed states values = with_states events states values ≡ (if all_states values then Ok (states ++ states_among values) else Err BadState)

  one_listed : (states : List StateMap) (value : Data) (values : List Data) (r : Result StateMap Status) → state_in events value ≡ r
      → ((state : StateMap) → AreListed (states ++ state ∷ []) values) → AreListed states (value ∷ values)
  one_listed states value values (Err why) e rest = rw e (ap Err (only_bad value why e))
  one_listed states value values (Ok state) e rest =
      rw e (rest state ∙ ap (λ ss. if all_states values then Ok ss else Err BadState) (append_assoc states (state ∷ []) (states_among values)))

  listed : (states : List StateMap) (values : List Data) → AreListed states values
  listed states [] = ap Ok (sym (append-nil states))
  listed states (value ∷ values) = one_listed states value values (state_in events value) refl (λ state. listed (states ++ state ∷ []) values)

  pub listed_at_once : (values : List Data) → with_states events [] values ≡ states_of events values
  listed_at_once values = listed [] values
