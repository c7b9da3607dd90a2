-- The event that the own server makes of a draft, and why it makes none.
use Rattle.std.specs.Prelude.{Option, Some, None, Result, Ok, Err, if◌then◌else◌}
use Rattle.fed_event.specs.Event.{Event}
use Rattle.fed_event.specs.declared.fault.PduFault.{PduFault}
use Rattle.fed_event.specs.Checked.{CheckedEvent, checked_of}
use Rattle.fed_event.specs.Tests.{first_fault_of}
use Rattle.fed_room_contract.specs.declared.refusal.Refusal.{Refusal}
use Rattle.fed_room_contract.specs.declared.refusal.Refusal.TheVariants.{NotOwnUser, BadDraft}
use Rattle.fed_room_contract.specs.Draft.{DraftFields}
use Rattle.fed_room_contract.specs.Prepared.{Signer, is_own_user, sealed_by}
use Rattle.fed_room.specs.Parts.{EventLinks, parts_of}

module _ (signer : Signer) where
  -- what is sealed has to pass the tests of an event
  abbrev pub if_passes : Event → Option PduFault → Result CheckedEvent PduFault
  if_passes sealed (Some fault) = Err fault
  if_passes sealed None = Ok (checked_of signer.checks sealed)

  -- the event of a draft with these links, or why it is none
  abbrev pub event_of : EventLinks → DraftFields → Result CheckedEvent PduFault
  event_of links draft = if_passes (sealed_by signer (parts_of links draft)) (first_fault_of (sealed_by signer (parts_of links draft)).value)

  abbrev pub or_bad_draft : Result CheckedEvent PduFault → Result CheckedEvent Refusal
  or_bad_draft (Ok event) = Ok event
  or_bad_draft (Err fault) = Err (BadDraft fault)

  abbrev pub made_of : EventLinks → DraftFields → Result CheckedEvent Refusal
  made_of links draft = if is_own_user signer.name draft.sender then or_bad_draft (event_of links draft) else Err NotOwnUser
