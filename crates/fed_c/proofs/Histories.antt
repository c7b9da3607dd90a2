-- Events that are stored one after another are those of all values at once.
use Rattle.std.proofs.Common.{◌≡◌, ◌≢◌, List, [], ◌∷◌, ◌++◌, map, Bool, true, false, ◌&&◌, if◌then◌else◌, Option, Some, None, is_none, IsSome, IfErr, IsErrAnd, Result, Ok, Err, refl, subst, sym, ap, ◌∙◌, append_assoc}
use Rattle.std.proofs.lemmas.List.{append-nil}
use Rattle.serde_json.specs.Data.{Data}
use Rattle.fed_keys.specs.Trusting.{trusting_checks}
use Rattle.fed_redaction.specs.declared.version.Version.{Version}
use Rattle.fed_event.specs.Event.{Event, event_in}
use Rattle.fed_event.specs.declared.fault.PduFault.{PduFault}
use Rattle.fed_event.specs.Tests.{first_fault_of}
use Rattle.fed_event.specs.Signatures.{is_signed}
use Rattle.fed_event.specs.Checked.{CheckedEvent, checked_of}
use Rattle.fed_room_contract.specs.declared.graph.Stored.{Stored}
use Rattle.fed_c.specs.declared.status.Status.{Status}
use Rattle.fed_c.specs.declared.status.Status.TheVariants.{Memory, BadEvents}
use Rattle.fed_c.specs.History.{is_event, taken, stored_as, comes_next, continues, history_of}
use Rattle.fed_c.specs.HistoryParts.{checked_in, with_events}

abbrev all_stored : Version → Data → List Data → List Stored
all_stored version rejected values = map (λ value. stored_as rejected (taken version value)) values

abbrev IsWhole : Version → Data → List Stored → List Data → Type 0
IsWhole version rejected before values = with_events version rejected before values ≡ (if continues version rejected before values then Ok (before ++ all_stored version rejected values) else Err BadEvents)

one_more : (version : Version) (rejected : Data) (before : List Stored) (value : Data) (values : List Data) (a b : Bool) → is_event version value ≡ a → comes_next before (taken version value).event ≡ b
    → IsWhole version rejected (before ++ stored_as rejected (taken version value) ∷ []) values → IsWhole version rejected before (value ∷ values)
one_more version rejected before value values false b e n rest = rw e refl
one_more version rejected before value values true false e n rest = rw (e, n) refl
one_more version rejected before value values true true e n rest = rw (e, n) (rest
    ∙ ap (λ es. if continues version rejected (before ++ stored_as rejected (taken version value) ∷ []) values then Ok es else Err BadEvents) (append_assoc before (stored_as rejected (taken version value) ∷ []) (all_stored version rejected values)))

whole : (version : Version) (rejected : Data) (before : List Stored) (values : List Data) → IsWhole version rejected before values
whole version rejected before [] = ap Ok (sym (append-nil before))
whole version rejected before (value ∷ values) =
    one_more version rejected before value values (is_event version value) (comes_next before (taken version value).event) refl refl (whole version rejected (before ++ stored_as rejected (taken version value) ∷ []) values)

pub all_stored_at_once : (version : Version) (rejected : Data) (values : List Data) → with_events version rejected [] values ≡ history_of version rejected values
all_stored_at_once version rejected values = whole version rejected [] values

-- ---- one event

abbrev if_event : {X : Type 0} → Option PduFault → Bool → X → Result X Status
if_event fault signed x = if is_none fault && signed then Ok x else Err BadEvents

chosen : {X : Type 0} (fault : Option PduFault) (signed : Bool) (x : X) → fault ≡ None → signed ≡ true → if_event fault signed x ≡ Ok x
chosen None true x f s = refl
chosen None false x f s = absurd (cc)
chosen (Some fault) signed x f s = absurd (cc)

unsigned : {X : Type 0} (fault : Option PduFault) (signed : Bool) (x : X) → signed ≡ false → if_event fault signed x ≡ Err BadEvents
unsigned None true x s = absurd (cc)
unsigned None false x s = refl
unsigned (Some fault) signed x s = refl

faulty : {X : Type 0} (fault : Option PduFault) (signed : Bool) (x : X) → IsSome fault → if_event fault signed x ≡ Err BadEvents
faulty None signed x f = absurd (cc)
faulty (Some fault) signed x f = refl

pub event_is : (version : Version) (value : Data) (checked : CheckedEvent) → first_fault_of value ≡ None → is_signed trusting_checks (event_in version value) ≡ true
    → checked ≡ checked_of trusting_checks (event_in version value) → checked_in version value ≡ Ok checked
unfolding is_event taken
event_is version value checked passes signed is =
    let event = event_in version value in
    chosen (first_fault_of value) (is_signed trusting_checks event) (checked_of trusting_checks event) passes signed ∙ ap Ok (sym is)

pub event_is_unsigned : (version : Version) (value : Data) → is_signed trusting_checks (event_in version value) ≡ false → checked_in version value ≡ Err BadEvents
unfolding is_event taken
event_is_unsigned version value signed =
    let event = event_in version value in
    unsigned (first_fault_of value) (is_signed trusting_checks event) (checked_of trusting_checks event) signed

pub event_is_faulty : (version : Version) (value : Data) → IsSome (first_fault_of value) → checked_in version value ≡ Err BadEvents
unfolding is_event taken
event_is_faulty version value fails =
    let event = event_in version value in
    faulty (first_fault_of value) (is_signed trusting_checks event) (checked_of trusting_checks event) fails

-- the same by what each step of the reading says

read_event : (version : Version) (value json : Data) (event : Event) → json ≡ value → event ≡ event_in version json → event ≡ event_in version value
read_event version value json event j e = e ∙ ap (event_in version) j

pub event_checked : (version : Version) (value json : Data) (event : Event) (checked : CheckedEvent) → json ≡ value → event ≡ event_in version json → first_fault_of json ≡ None
    → is_signed trusting_checks event ≡ true → checked ≡ checked_of trusting_checks event → checked_in version value ≡ Ok checked
event_checked version value json event checked j e passes signed is =
    let same = read_event version value json event j e in
    event_is version value checked (ap first_fault_of (sym j) ∙ passes) (ap (is_signed trusting_checks) (sym same) ∙ signed) (is ∙ ap (checked_of trusting_checks) same)

pub event_lacks_signature : (version : Version) (value json : Data) (event : Event) → json ≡ value → event ≡ event_in version json → is_signed trusting_checks event ≡ false
    → checked_in version value ≡ Err BadEvents
event_lacks_signature version value json event j e signed =
    event_is_unsigned version value (ap (is_signed trusting_checks) (sym (read_event version value json event j e)) ∙ signed)

pub test_ends : {X : Type 0} (version : Version) (value json : Data) (status : Status) (answer : Result X Status) → IsErrAnd answer (λ e. e ≡ status) → json ≡ value
    → (status ≢ Memory → (status ≡ BadEvents) × IsSome (first_fault_of json)) → IfErr answer (λ e. e ≢ Memory → checked_in version value ≡ Err e)
test_ends version value json status (Ok x) is same fails = tt
test_ends version value json status (Err e) is same fails = λ other.
    let told = fails (λ m. other (is ∙ m)) in
    event_is_faulty version value (subst (λ v. IsSome (first_fault_of v)) same told.1) ∙ ap Err (sym (is ∙ told.0))
