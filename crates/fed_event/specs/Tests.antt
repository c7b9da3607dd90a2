-- The tests that an event has to pass, in the order in which they are made (Matrix, Server-Server API, "Checks performed on receipt
-- of a PDU", check 1; Client-Server API, "Size limits"; room version 10, "Event format"). Each goes by the fault of what fails it.
use Rattle.std.specs.Prelude.{ℕ, List, [], ◌∷◌, ◌++◌, Bool, false, not, nat_lt, Option, Some, is_some, is_none, map, length, find, unwrap_or, option_map, option_and_then}
use Rattle.std.specs.List.{list_all}
use Rattle.serde_json.specs.Data.{Data, depth}
use Rattle.serde_json.specs.Find.{as_str, as_object, get}
use Rattle.fed_json.specs.CanonicalText.{canonical_text}
use Rattle.fed_json.specs.JsonRef.{as_whole, as_items}
use Rattle.fed_event.specs.declared.field.Field.{Field}
use Rattle.fed_event.specs.declared.field.Field.TheVariants.{Event, AuthEvents, Content, Depth, Hashes, OriginServerTs, PrevEvents, RoomId, Sender, Signatures, StateKey, «Type»}
use Rattle.fed_event.specs.declared.fault.PduFault.{PduFault}
use Rattle.fed_event.specs.declared.fault.PduFault.TheVariants.{Memory, NotJson, NotCanonical, Missing, WrongKind, TooLarge, TooLong, TooMany, TooDeep}
use Rattle.fed_event.specs.Field.{field_name}
use Rattle.fed_event.specs.Ids.{is_id_text}

-- ---- the fields

-- what stands in the field; the event stands in its own
abbrev pub part : Field → Data → Option Data
part Event event = Some event
part field event = get (field_name field) event

-- the fields that an event may not lack, and all that it may have
abbrev pub needed_fields : List Field
needed_fields = AuthEvents ∷ Content ∷ Depth ∷ Hashes ∷ OriginServerTs ∷ PrevEvents ∷ RoomId ∷ Sender ∷ Signatures ∷ «Type» ∷ []

abbrev pub all_fields : List Field
all_fields = AuthEvents ∷ Content ∷ Depth ∷ Hashes ∷ OriginServerTs ∷ PrevEvents ∷ RoomId ∷ Sender ∷ Signatures ∷ StateKey ∷ «Type» ∷ []

-- ---- the order

-- the depth, and whether it is an object
abbrev pub shape_tests : List PduFault
shape_tests = TooDeep ∷ WrongKind Event ∷ []

abbrev pub missing_tests : List PduFault
missing_tests = map Missing needed_fields

abbrev pub kind_tests : List PduFault
kind_tests = map WrongKind all_fields

-- the fields whose texts are measured, and those whose ids are counted
abbrev pub measured_fields : List Field
measured_fields = RoomId ∷ Sender ∷ StateKey ∷ «Type» ∷ []

abbrev pub counted_fields : List Field
counted_fields = AuthEvents ∷ PrevEvents ∷ []

abbrev pub length_tests : List PduFault
length_tests = map TooLong measured_fields

abbrev pub count_tests : List PduFault
count_tests = map TooMany counted_fields

-- the size, and then the fields
abbrev pub later_tests : List PduFault
later_tests = TooLarge ∷ (missing_tests ++ (kind_tests ++ (length_tests ++ count_tests)))

-- every test that a value can fail, the first one first; bytes have to be JSON and canonical before that
abbrev pub all_tests : List PduFault
all_tests = shape_tests ++ later_tests

-- ---- the tests

-- whether there is one, and it passes the test
abbrev pub holds : {X : Type 0} → (X → Bool) → Option X → Bool
holds test o = unwrap_or (option_map test o) false

abbrev pub is_object : Data → Bool
is_object value = is_some (as_object value)

abbrev pub is_text : Data → Bool
is_text value = is_some (as_str value)

abbrev pub is_whole_number : Data → Bool
is_whole_number value = is_some (as_whole value)

abbrev pub is_array_of_texts : Data → Bool
is_array_of_texts value = holds (list_all is_text) (as_items value)

-- a text that begins with this character and has a colon
abbrev pub is_id : ℕ → Data → Bool
is_id sigil value = holds (is_id_text sigil) (as_str value)

-- 33 is `!`, and 64 is `@`
abbrev pub has_kind : Field → Data → Bool
has_kind Event = is_object
has_kind AuthEvents = is_array_of_texts
has_kind Content = is_object
has_kind Depth = is_whole_number
has_kind Hashes = is_object
has_kind OriginServerTs = is_whole_number
has_kind PrevEvents = is_array_of_texts
has_kind RoomId = is_id 33
has_kind Sender = is_id 64
has_kind Signatures = is_object
has_kind StateKey = is_text
has_kind «Type» = is_text

-- the most ids that the field may have; no other field is counted
abbrev pub most : Field → ℕ
most PrevEvents = 20
most field = 10

-- a value is JSON and canonical: these two tests are of bytes
abbrev pub fails : Data → PduFault → Bool
fails event Memory = false
fails event NotJson = false
fails event NotCanonical = false
fails event (Missing field) = is_none (part field event)
fails event (WrongKind field) = holds (λ value. not (has_kind field value)) (part field event)
fails event TooLarge = nat_lt 65536 (length (canonical_text event))
fails event (TooLong field) = holds (λ s. nat_lt 255 (length s)) (option_and_then as_str (part field event))
fails event (TooMany field) = holds (λ ids. nat_lt (most field) (length ids)) (option_and_then as_items (part field event))
fails event TooDeep = nat_lt 100 (depth event)

-- the fault of the first test that the value fails, and none of an event
unfoldable pub first_fault_of : Data → Option PduFault
first_fault_of event = find (fails event) all_tests
