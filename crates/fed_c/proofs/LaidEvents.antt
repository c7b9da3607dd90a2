-- A state that is made event by event is that of all its events at once.
use Rattle.std.proofs.Common.{◌≡◌, ℕ, List, [], ◌∷◌, Bool, true, false, true≢false, not, ◌&&◌, ◌||◌, bytes_eq, is_some, is_none, if◌then◌else◌, Option, Some, None, option_and_then, Result, Ok, Err, refl, sym, ap, ◌∙◌}
use Rattle.std.proofs.lemmas.Bool.{and_parts}
use Rattle.std.proofs.lemmas.Slice.Eq.{bytes_eq-Decides}
use Rattle.std.specs.List.{list_any, list_all}
use Rattle.std.specs.Option.{option_eq}
use Rattle.std.specs.FinMap as finite
use Rattle.fed_redaction.specs.EventId.{event_id_of}
use Rattle.fed_event.specs.Event.{Event}
use Rattle.fed_event.specs.Fields.{kind_of, state_key_of}
use Rattle.fed_room_contract.specs.State.{StateMap, key_cmp, entry_at, with_entry}
use Rattle.fed_room_contract.proofs.States.{entry_at-same, entry_at-other}
use Rattle.fed_auth.specs.AuthState.{with_id_at}
use Rattle.fed_c.specs.declared.status.Status.{Status}
use Rattle.fed_c.specs.declared.status.Status.TheVariants.{BadState}
use Rattle.fed_c.specs.States.{are_alike, has_double, is_state, with_events, made_of}
use Rattle.fed_c.specs.StateParts.{laid_all}

and_false : (a : Bool) → a && false ≡ false
and_false true = refl
and_false false = refl

and_true : (a : Bool) → a && true ≡ a
and_true true = refl
and_true false = refl

same_bytes : (xs ys : List ℕ) → bytes_eq xs ys ≡ true → xs ≡ ys
same_bytes xs ys h = (bytes_eq-Decides xs ys).0 h

itself : (xs : List ℕ) → bytes_eq xs xs ≡ true
itself xs = (bytes_eq-Decides xs xs).1 refl

-- nothing holds where the event is to stand
abbrev is_free : StateMap → Event → Bool
is_free state event = is_none (option_and_then (entry_at state (kind_of event)) (state_key_of event))

-- ---- where an id was laid nothing is free, and elsewhere it is as before

module _ (s : StateMap) (kind key id : List ℕ) where
  held : (k x : List ℕ) (b : Bool) → (bytes_eq kind k && bytes_eq key x) ≡ b → is_none (entry_at (with_entry s kind key id) k x) ≡ (is_none (entry_at s k x) && not b)
  held k x true h =
      let parts = and_parts (bytes_eq kind k) (bytes_eq key x) h in
      ap is_none (ap (λ q. entry_at (with_entry s kind key id) q x) (sym (same_bytes kind k parts.0)) ∙ ap (entry_at (with_entry s kind key id) kind) (sym (same_bytes key x parts.1))
      ∙ entry_at-same s kind key id) ∙ sym (and_false (is_none (entry_at s k x)))
  held k x false h =
      ap is_none (entry_at-other s kind key id (k, x)
      (λ e. true≢false (sym (sym h ∙ ap (λ q. bytes_eq kind q.0 && bytes_eq key q.1) e ∙ ap (λ b. b && bytes_eq key key) (itself kind) ∙ itself key))))
      ∙ sym (and_true (is_none (entry_at s k x)))

module _ (s : StateMap) (event : Event) (key : List ℕ) (keyed : state_key_of event ≡ Some key) where
  abbrev after : StateMap
  after = with_entry s (kind_of event) key (event_id_of event)

  free_at : (other : Event) (o : Option (List ℕ)) → is_none (option_and_then (entry_at after (kind_of other)) o)
      ≡ (is_none (option_and_then (entry_at s (kind_of other)) o) && not (bytes_eq (kind_of event) (kind_of other) && option_eq bytes_eq (Some key) o))
  free_at other None = ap not (sym (and_false (bytes_eq (kind_of event) (kind_of other))))
  free_at other (Some x) = held s (kind_of event) key (event_id_of event) (kind_of other) x (bytes_eq (kind_of event) (kind_of other) && bytes_eq key x) refl

  free_beside : (other : Event) → is_free after other ≡ (is_free s other && not (are_alike event other))
  free_beside other =
      free_at other (state_key_of other)
      ∙ ap (λ o. is_free s other && not (bytes_eq (kind_of event) (kind_of other) && option_eq bytes_eq o (state_key_of other))) (sym keyed)

  one_more : (f a g b : Bool) → ((f && not a) && (g && not b)) ≡ ((f && g) && not (a || b))
  one_more false a g b = refl
  one_more true false g b = refl
  one_more true true g b = sym (and_false g)

  all_free : (others : List Event) → list_all (is_free after) others ≡ (list_all (is_free s) others && not (list_any (are_alike event) others))
  all_free [] = refl
  all_free (other ∷ others) =
      ap (λ b. b && list_all (is_free after) others) (free_beside other) ∙ ap (λ b. (is_free s other && not (are_alike event other)) && b) (all_free others)
      ∙ one_more (is_free s other) (are_alike event other) (list_all (is_free s) others) (list_any (are_alike event) others)

-- ---- all at once

abbrev are_keyed : List Event → Bool
are_keyed events = list_all (λ event. is_some (state_key_of event)) events

abbrev if_laid : Bool → StateMap → Result StateMap Status
if_laid b state = if b then Ok state else Err BadState

abbrev IsMade : StateMap → List Event → Type 0
IsMade s events = laid_all s events ≡ if_laid (list_all (is_free s) events && is_state events) (with_events s events)

regrouped : (f a k d : Bool) → ((f && not a) && (k && not d)) ≡ (f && (k && not (a || d)))
regrouped false a k d = refl
regrouped true false k d = refl
regrouped true true k d = sym (and_false k)

no_key : (s : StateMap) (event : Event) (events : List Event) → state_key_of event ≡ None → IsMade s (event ∷ events)
no_key s event events e = rw e (ap (λ b. if_laid b (with_events (with_id_at s (kind_of event) None (event_id_of event)) events)) (sym (and_false (list_all (is_free s) events))))

with_key : (s : StateMap) (event : Event) (events : List Event) (key : List ℕ) (o : Option (List ℕ)) → state_key_of event ≡ Some key → entry_at s (kind_of event) key ≡ o
    → IsMade (with_entry s (kind_of event) key (event_id_of event)) events → IsMade s (event ∷ events)
with_key s event events key (Some id) e at rest = rw (e, at) refl
with_key s event events key None e at rest =
    let bits = ap (λ b. b && is_state events) (all_free s event key e events)
    ∙ regrouped (list_all (is_free s) events) (list_any (are_alike event) events) (are_keyed events) (has_double events) in
    rw (e, at) (rest ∙ ap (λ b. if_laid b (with_events (with_entry s (kind_of event) key (event_id_of event)) events)) bits)

made_by : (s : StateMap) (event : Event) (events : List Event) (o : Option (List ℕ)) → state_key_of event ≡ o
    → ((key : List ℕ) → IsMade (with_entry s (kind_of event) key (event_id_of event)) events) → IsMade s (event ∷ events)
made_by s event events None e rest = no_key s event events e
made_by s event events (Some key) e rest = with_key s event events key (entry_at s (kind_of event) key) e refl (rest key)

made : (s : StateMap) (events : List Event) → IsMade s events
made s [] = refl
made s (event ∷ events) = made_by s event events (state_key_of event) refl (λ key. made (with_entry s (kind_of event) key (event_id_of event)) events)

free_first : (event : Event) (o : Option (List ℕ)) → is_none (option_and_then (entry_at finite.empty (kind_of event)) o) ≡ true
free_first event None = refl
free_first event (Some key) = ap is_none (finite.get-empty key_cmp (kind_of event, key))

empty_free : (events : List Event) → list_all (is_free finite.empty) events ≡ true
empty_free [] = refl
empty_free (event ∷ events) = ap (λ b. b && list_all (is_free finite.empty) events) (free_first event (state_key_of event)) ∙ empty_free events

pub made_at_once : (events : List Event) → laid_all finite.empty events ≡ made_of events
made_at_once events = made finite.empty events ∙ ap (λ b. if_laid (b && is_state events) (with_events finite.empty events)) (empty_free events)
