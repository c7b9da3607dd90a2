-- An event that passes its tests has what `IsEvent` says.
use Rattle.std.proofs.Common.{◌≡◌, ℕ, ◌≤◌, Bool, true, false, not, Option, Some, None, IfSome, is_none, length, refl, option_and_then}
use Rattle.std.specs.Prelude.{nat_lt}
use Rattle.std.proofs.lemmas.Bool.{ltb-false}
use Rattle.serde_json.specs.Data.{Data, depth}
use Rattle.serde_json.specs.Find.{as_str}
use Rattle.fed_json.specs.CanonicalText.{canonical_text}
use Rattle.fed_json.specs.JsonRef.{as_items}
use Rattle.fed_event.specs.declared.field.Field.TheVariants.{Event, AuthEvents, PrevEvents, RoomId, Sender, StateKey, «Type»}
use Rattle.fed_event.specs.declared.fault.PduFault.TheVariants.{WrongKind, TooLarge, TooLong, TooMany, TooDeep}
use Rattle.fed_event.specs.Tests.{part, has_kind, holds, is_text, first_fault_of}
use Rattle.fed_event.specs.Format.{IsEvent}
use Rattle.fed_event.proofs.Faults.{passed, passed_both}

not_false : (b : Bool) → not b ≡ false → b ≡ true
not_false true h = refl
not_false false h = absurd (cc)

there : (test : Data → Bool) (o : Option Data) → is_none o ≡ false → holds (λ value. not (test value)) o ≡ false → holds test o ≡ true
there test None some kind = absurd (cc)
there test (Some value) some kind = not_false (test value) kind

if_there : (test : Data → Bool) (o : Option Data) → holds (λ value. not (test value)) o ≡ false → IfSome o (λ value. test value ≡ true)
if_there test None kind = tt
if_there test (Some value) kind = not_false (test value) kind

at_most : {X : Type 0} (measure : X → ℕ) (most : ℕ) (o : Option X) → holds (λ x. nat_lt most (measure x)) o ≡ false → IfSome o (λ x. measure x ≤ most)
at_most measure most None h = tt
at_most measure most (Some x) h = ltb-false most (measure x) h

pub is_event : (event : Data) → first_fault_of event ≡ None → IsEvent event
is_event event passes = record {
  object = not_false _ (passed event passes 1 (WrongKind Event) refl);
  levels = ltb-false 100 (depth event) (passed event passes 0 TooDeep refl);
  size = ltb-false 65536 (length (canonical_text event)) (passed event passes 2 TooLarge refl);
  needed = λ field is. let both = passed_both event field passes (is) in there (has_kind field) (part field event) both.0 both.1;
  state_key = if_there is_text (part StateKey event) (passed event passes 22 (WrongKind StateKey) refl);
  short_room_id = at_most length 255 (option_and_then as_str (part RoomId event)) (passed event passes 24 (TooLong RoomId) refl);
  short_sender = at_most length 255 (option_and_then as_str (part Sender event)) (passed event passes 25 (TooLong Sender) refl);
  short_state_key = at_most length 255 (option_and_then as_str (part StateKey event)) (passed event passes 26 (TooLong StateKey) refl);
  short_type = at_most length 255 (option_and_then as_str (part «Type» event)) (passed event passes 27 (TooLong «Type») refl);
  auth_events = at_most length 10 (option_and_then as_items (part AuthEvents event)) (passed event passes 28 (TooMany AuthEvents) refl);
  prev_events = at_most length 20 (option_and_then as_items (part PrevEvents event)) (passed event passes 29 (TooMany PrevEvents) refl);
}
