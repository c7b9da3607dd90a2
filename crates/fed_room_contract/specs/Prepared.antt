-- The event that a room makes of a draft, and why it makes none.
use Rattle.std.specs.Prelude.{ℕ, List, Bool, ◌&&◌, Option, Some, None, Result, Ok, Err, refl, if◌then◌else◌}
use Rattle.std.specs.Coded.{Coded, code_by, coded×}
use Rattle.std.specs.Str.{bytes_eq}
use Rattle.fed_event.specs.Event.{Event}
use Rattle.fed_event.specs.declared.fault.PduFault.{PduFault}
use Rattle.fed_event.specs.declared.fault.PduFault.TheVariants as fault
use Rattle.fed_event.specs.Ids.{is_user_id, domain_of}
use Rattle.fed_event.specs.Keys.{Checks}
use Rattle.fed_event.specs.Checked.{CheckedEvent, checked_code, checked_of}
use Rattle.fed_event.specs.Sealing.{sealed_of}
use Rattle.fed_event.specs.Tests.{first_fault_of}
use Rattle.fed_room_contract.specs.declared.refusal.Refusal.{Refusal}
use Rattle.fed_room_contract.specs.declared.refusal.Refusal.TheVariants.{Memory, NotOwnUser, BadDraft, NotAllowed}
use Rattle.fed_room_contract.specs.declared.verdict.Verdict.{Verdict}
use Rattle.fed_room_contract.specs.declared.verdict.Verdict.TheVariants.{Accepted, Rejected, SoftFailed}
use Rattle.fed_room_contract.specs.declared.graph.Stored.{Stored}
use Rattle.fed_room_contract.specs.State.{StateMap, state_code}
use Rattle.fed_room_contract.specs.Draft.{DraftFields}
use Rattle.fed_room_contract.specs.Room.{Rules}

pub record PreparedEvent : Type 0 where
  pub event : CheckedEvent
  pub before : StateMap

abbrev pub prepared_code : Coded PreparedEvent
prepared_code = code_by (CheckedEvent × StateMap) (coded× checked_code state_code) (λ p. (p.event, p.before)) (λ p. record { event = p.0; before = p.1 }) (λ _. refl)

-- an event that was prepared in the first room is so in the second one too
abbrev pub StaysPrepared : {R : Type 0} → (R → PreparedEvent → Type 0) → R → R → Type 0
StaysPrepared is_prepared room other = (prepared : PreparedEvent) → is_prepared room prepared → is_prepared other prepared

-- the own server: its name, its key's name, how it signs, and the keys that check signatures
pub record Signer : Type 0 where
  pub name : List ℕ
  pub key : List ℕ
  pub sign : List ℕ → List ℕ
  pub checks : Checks

abbrev pub signer_of : List ℕ → List ℕ → (List ℕ → List ℕ) → Checks → Signer
signer_of name key sign checks = record { name = name; key = key; sign = sign; checks = checks }

-- the sender is a user of the own server
abbrev pub is_own_user : List ℕ → List ℕ → Bool
is_own_user own sender = is_user_id sender && bytes_eq (domain_of sender) own

-- the event with its hash and the own signature
abbrev pub sealed_by : Signer → Event → Event
sealed_by signer parts = sealed_of signer.name signer.key signer.sign parts.version parts.value

-- why nothing is made where what is made is no event
abbrev pub refusal_of : PduFault → Refusal
refusal_of fault.Memory = Memory
refusal_of other = BadDraft other

module _ (rules : Rules) (signer : Signer) (events : List Stored) where
  -- an event that is accepted is prepared
  abbrev pub if_accepted : CheckedEvent → Verdict → Result PreparedEvent Refusal
  if_accepted event Accepted = Ok (record { event = event; before = rules.before events event.event })
  if_accepted event (Rejected rule) = Err (NotAllowed rule)
  if_accepted event (SoftFailed rule) = Err (NotAllowed rule)

  abbrev pub if_allowed : CheckedEvent → Result PreparedEvent Refusal
  if_allowed event = if_accepted event (rules.decide events event)

  -- what is sealed has to pass the tests of an event
  abbrev pub if_event : Event → Option PduFault → Result PreparedEvent Refusal
  if_event sealed (Some fault) = Err (BadDraft fault)
  if_event sealed None = if_allowed (checked_of signer.checks sealed)

  abbrev pub if_sealed : Event → Result PreparedEvent Refusal
  if_sealed sealed = if_event sealed (first_fault_of sealed.value)

  -- the event that the room makes of a draft, or the first reason against it
  abbrev pub prepared_of : DraftFields → Result PreparedEvent Refusal
  prepared_of draft =
      if is_own_user signer.name draft.sender
      then if_sealed (sealed_by signer (rules.parts events draft))
      else Err NotOwnUser
