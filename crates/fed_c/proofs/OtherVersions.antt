-- That the version of a room is none that is known is told of nothing else.
use Rattle.std.proofs.Common.{◌≡◌, ◌≢◌, ℕ, List, [], ◌∷◌, ◌++◌, Bool, true, false, nat_le, length, if◌then◌else◌, Option, Some, None, Result, Ok, Err, refl, sym, ap, ◌∙◌, arith}
use Rattle.std.specs.Str.{is_utf8}
use Rattle.serde_json.specs.Read.{read}
use Rattle.serde_json.specs.Data.{Data}
use Rattle.fed_json.specs.JsonRef.{as_items}
use Rattle.fed_redaction.specs.declared.version.Version.{Version}
use Rattle.fed_event.specs.declared.fault.PduFault.{PduFault}
use Rattle.fed_event.specs.declared.fault.PduFault.TheVariants as fault
use Rattle.fed_c.specs.declared.status.Status.{Status}
use Rattle.fed_c.specs.declared.status.Status.TheVariants.{Done, BufferTooSmall, Memory, NotJson, NotCanonical, TooDeep, HashDiffers, NotUtf8, MissingField, WrongKind, EventTooLarge, FieldTooLong, TooManyIds, BodyTooLarge, BadBody, TooManyPdus, TooManyEdus, BadVerdicts, BadHeader, BadSignature, NotSigned, BadEvents, BadState, BadServers, BadIds, MissingEvents, BadVersion}
use Rattle.fed_c.specs.Status.{number_of}
use Rattle.fed_c.specs.Results.{and_then, or_refusal}
use Rattle.fed_c.specs.Output.{Output, Holds, Gives}
use Rattle.fed_c.specs.Values.{value_or_fault, value_of}
use Rattle.fed_c.specs.RoomVersion.{version_in, by_version}
use Rattle.fed_c.specs.Texts.{of_value}
use Rattle.fed_c.specs.Several.{of_values}
use Rattle.fed_c.specs.Events.{read_or_status}
use Rattle.fed_c.specs.Ids.{is_id_list, ids_in}
use Rattle.fed_c.specs.Signers.{checked_as}
use Rattle.fed_c.specs.StateEvents.{state_events_of, state_events_in}
use Rattle.fed_c.specs.StoredEvents.{stored_events_of, stored_events_in}
use Rattle.fed_c.specs.History.{history_of, history_in}
use Rattle.fed_c.specs.States.{is_state, made_of, states_of, states_in}
use Rattle.fed_c.specs.Allowed.{allowed_answer}
use Rattle.fed_c.specs.AuthEvents.{named, auth_answer}
use Rattle.fed_c.specs.Resolution.{resolved_answer}

-- the answer is another one
abbrev pub IsOther : {X : Type 0} → Result X Status → Type 0
IsOther {X} answer = ◌≡◌ {A = Result X Status} answer (Err BadVersion) → ⊥

other_ok : {X : Type 0} (x : X) → IsOther (Ok x)
other_ok x e = absurd (cc)

other_err : {X : Type 0} (why : Status) → why ≢ BadVersion → IsOther {X = X} (Err why)
other_err why other e = let is : why ≡ BadVersion = cc in other is

other_then : {X Y : Type 0} (r : Result X Status) (f : X → Result Y Status) → IsOther r → ((x : X) → IsOther (f x)) → IsOther (and_then r f)
other_then (Ok x) f first others e = others x e
other_then (Err why) f first others e = let is : why ≡ BadVersion = cc in first (ap Err is)

other_option : {X : Type 0} (why : Status) (o : Option X) → why ≢ BadVersion → IsOther (or_refusal why o)
other_option why None other = other_err why other
other_option why (Some x) other = other_ok x

other_if : {X : Type 0} (b : Bool) (r : Result X Status) (why : Status) → IsOther r → why ≢ BadVersion → IsOther (if b then r else Err why)
other_if true r why first other = first
other_if false r why first other = other_err why other

-- ---- what is read

bad_events : BadEvents ≢ BadVersion
bad_events e = absurd (cc)

bad_state : BadState ≢ BadVersion
bad_state e = absurd (cc)

canonical_other : (value : Data) (whole deep : Bool) → IsOther (if whole then (if deep then Err TooDeep else Ok value) else Err NotCanonical)
canonical_other value true true e = absurd (cc)
canonical_other value true false e = absurd (cc)
canonical_other value false deep e = absurd (cc)

fault_other : (levels : ℕ) (o : Option Data) → IsOther (value_or_fault levels o)
fault_other levels None e = absurd (cc)
fault_other levels (Some value) e = canonical_other value _ _ e

pub value_other : (bytes : List ℕ) → IsOther (value_of bytes)
value_other bytes = fault_other 127 (if is_utf8 bytes then read bytes else None)

pub of_value_other : (f : Data → List ℕ) (r : Result Data Status) → IsOther r → IsOther (of_value f r)
of_value_other f (Ok value) other e = other_ok (f value) e
of_value_other f (Err why) other e = let is : why ≡ BadVersion = cc in other (ap Err is)

pub of_values_other : (f : Data → List ℕ) (texts : List (List ℕ)) → IsOther (of_values f texts)
of_values_other f [] = other_ok []
of_values_other f (text ∷ texts) =
    other_then (of_value f (value_of text)) _ (of_value_other f (value_of text) (value_other text)) (λ bytes.
    other_then (of_values f texts) _ (of_values_other f texts) (λ others. other_ok (bytes ++ others)))

pub read_other : (r : Result Data PduFault) → IsOther (read_or_status r)
read_other (Ok value) e = absurd (cc)
read_other (Err fault.Memory) e = absurd (cc)
read_other (Err fault.NotJson) e = absurd (cc)
read_other (Err fault.NotCanonical) e = absurd (cc)
read_other (Err (fault.Missing field)) e = absurd (cc)
read_other (Err (fault.WrongKind field)) e = absurd (cc)
read_other (Err fault.TooLarge) e = absurd (cc)
read_other (Err (fault.TooLong field)) e = absurd (cc)
read_other (Err (fault.TooMany field)) e = absurd (cc)
read_other (Err fault.TooDeep) e = absurd (cc)

ids_other : (value : Data) → IsOther (ids_in value)
ids_other value = other_if (is_id_list value) (Ok value) BadIds (other_ok value) (λ e. absurd (cc))

checked_other : (v : Version) (others : Bool) (value : Data) → IsOther (checked_as v others value)
checked_other v others value = other_if _ _ NotSigned (other_ok _) (λ e. absurd (cc))

state_events_other : (v : Version) (value : Data) → IsOther (state_events_in v value)
state_events_other v value = other_then (or_refusal BadEvents (as_items value)) (state_events_of v) (other_option BadEvents (as_items value) bad_events) (λ values. other_if _ _ BadEvents (other_ok _) bad_events)

stored_events_other : (v : Version) (rejected value : Data) → IsOther (stored_events_in v rejected value)
stored_events_other v rejected value =
    other_then (or_refusal BadEvents (as_items value)) (stored_events_of v rejected) (other_option BadEvents (as_items value) bad_events) (λ values. other_if _ _ BadEvents (other_ok _) bad_events)

history_other : (v : Version) (rejected : Data) (events : Result Data Status) → IsOther events → IsOther (history_in v rejected events)
history_other v rejected events other =
    other_then events _ other (λ value.
    other_then (or_refusal BadEvents (as_items value)) (history_of v rejected) (other_option BadEvents (as_items value) bad_events) (λ values. other_if _ _ BadEvents (other_ok _) bad_events))

-- ---- the answers

pub allowed_other : (v : Version) (state event : Result Data Status) (authorised : Bool) → IsOther state → IsOther event → IsOther (allowed_answer v state event authorised)
allowed_other v state event authorised s e =
    other_then (and_then state (state_events_in v)) _ (other_then state (state_events_in v) s (state_events_other v)) (λ held.
    other_then (made_of held) _ (other_if (is_state held) _ BadState (other_ok _) bad_state) (λ _.
    other_then (and_then event (checked_as v authorised)) _ (other_then event (checked_as v authorised) e (checked_other v authorised)) (λ checked. other_ok _)))

pub auth_other : (v : Version) (rejected events event : Result Data Status) (authorised : Bool) → IsOther rejected → IsOther events → IsOther event → IsOther (auth_answer v rejected events event authorised)
auth_other v rejected events event authorised r s e =
    other_then (and_then rejected ids_in) _ (other_then rejected ids_in r ids_other) (λ ids.
    other_then (and_then events (stored_events_in v ids)) _ (other_then events (stored_events_in v ids) s (stored_events_other v ids)) (λ given.
    other_then (and_then event (checked_as v authorised)) _ (other_then event (checked_as v authorised) e (checked_other v authorised)) (λ checked.
    other_then (named given _) _ (other_if _ _ MissingEvents (other_ok _) (λ m. absurd (cc))) (λ auth. other_ok _))))

pub resolved_other : (v : Version) (events rejected states : Result Data Status) → IsOther events → IsOther rejected → IsOther states → IsOther (resolved_answer v events rejected states)
resolved_other v events rejected states e r s =
    other_then (and_then rejected ids_in) _ (other_then rejected ids_in r ids_other) (λ ids.
    other_then (history_in v ids events) _ (history_other v ids events e) (λ stored.
    other_then (and_then states (states_in stored)) _ (other_then states (states_in stored) s (λ value.
    other_then (or_refusal BadState (as_items value)) (states_of stored) (other_option BadState (as_items value) bad_state) (λ values. other_if _ _ BadState (other_ok _) bad_state)))
    (λ held. other_ok _)))

-- ---- its number

only_number : (why : Status) → number_of why ≡ 26 → why ≡ BadVersion
only_number Done e = absurd (omega arith)
only_number BufferTooSmall e = absurd (omega arith)
only_number Memory e = absurd (omega arith)
only_number NotJson e = absurd (omega arith)
only_number NotCanonical e = absurd (omega arith)
only_number TooDeep e = absurd (omega arith)
only_number HashDiffers e = absurd (omega arith)
only_number NotUtf8 e = absurd (omega arith)
only_number MissingField e = absurd (omega arith)
only_number WrongKind e = absurd (omega arith)
only_number EventTooLarge e = absurd (omega arith)
only_number FieldTooLong e = absurd (omega arith)
only_number TooManyIds e = absurd (omega arith)
only_number BodyTooLarge e = absurd (omega arith)
only_number BadBody e = absurd (omega arith)
only_number TooManyPdus e = absurd (omega arith)
only_number TooManyEdus e = absurd (omega arith)
only_number BadVerdicts e = absurd (omega arith)
only_number BadHeader e = absurd (omega arith)
only_number BadSignature e = absurd (omega arith)
only_number NotSigned e = absurd (omega arith)
only_number BadEvents e = absurd (omega arith)
only_number BadState e = absurd (omega arith)
only_number BadServers e = absurd (omega arith)
only_number BadIds e = absurd (omega arith)
only_number MissingEvents e = absurd (omega arith)
only_number BadVersion e = refl

module _ (status : ℕ) (o : Output) (is : status ≡ number_of BadVersion) where
  filled_other : (fits : Bool) → status ≡ number_of (if fits then Done else BufferTooSmall) → ⊥
  filled_other true e = absurd (omega arith)
  filled_other false e = absurd (omega arith)

  not_told : (answer : Result (List ℕ) Status) → IsOther answer → Holds answer status o → ⊥
  not_told (Ok bytes) other holds = filled_other (nat_le (length bytes) (length o.before)) holds.returned
  not_told (Err why) other holds = other (ap Err (only_number why (sym holds.returned ∙ is)))

pub only_of_others : (number : ℕ) (answer : Version → Result (List ℕ) Status) (status : ℕ) (o : Output) → ((v : Version) → IsOther (answer v))
    → Gives (by_version number answer) status o → status ≡ number_of BadVersion → version_in number ≡ Err BadVersion
only_of_others number answer status o other gives is = by (version_in number) refl (gives.answered (λ m. absurd (omega arith)))
  where
    by : (r : Result Version Status) → version_in number ≡ r → Holds (and_then r answer) status o → version_in number ≡ Err BadVersion
    by (Ok v) e holds = absurd (not_told status o is (answer v) (other v) holds)
    by (Err why) e holds = e ∙ ap Err (only_number why (sym holds.returned ∙ is))
