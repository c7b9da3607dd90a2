-- What is prepared of the event that is made of a draft.
use Rattle.std.proofs.Common.{◌≡◌, List, Bool, true, false, if◌then◌else◌, Option, Some, None, Result, Ok, Err, ◌⊎◌, inl, inr, refl, sym, ap, ◌∙◌}
use Rattle.fed_event.specs.Event.{Event}
use Rattle.fed_event.specs.declared.fault.PduFault.{PduFault}
use Rattle.fed_event.specs.Checked.{CheckedEvent, checked_of}
use Rattle.fed_event.specs.Tests.{first_fault_of}
use Rattle.fed_room_contract.specs.declared.refusal.Refusal.{Refusal}
use Rattle.fed_room_contract.specs.declared.refusal.Refusal.TheVariants.{Memory, NotOwnUser, BadDraft, NotAllowed}
use Rattle.fed_room_contract.specs.declared.graph.Stored.{Stored}
use Rattle.fed_room_contract.specs.declared.rule.Rule.{Rule}
use Rattle.fed_room_contract.specs.declared.verdict.Verdict.{Verdict}
use Rattle.fed_room_contract.specs.declared.verdict.Verdict.TheVariants.{Accepted, Rejected, SoftFailed}
use Rattle.fed_room_contract.specs.Draft.{DraftFields}
use Rattle.fed_room_contract.specs.Prepared.{PreparedEvent, Signer, is_own_user, sealed_by, if_accepted, if_allowed, if_event, prepared_of}
use Rattle.fed_room_contract.specs.Room.{Rules, rule_of}
use Rattle.fed_room.specs.Parts.{EventLinks, parts_of}
use Rattle.fed_room.specs.Made.{if_passes, or_bad_draft, made_of}

-- rules that make an event of these links
module _ (rules : Rules) (signer : Signer) (events : List Stored) (links : EventLinks) (draft : DraftFields) (same : rules.parts events draft ≡ parts_of links draft) where
  abbrev sealed : Event
  sealed = sealed_by signer (parts_of links draft)

  abbrev after : Bool → Event → Option PduFault → Result PreparedEvent Refusal
  after own event fault = if own then if_event rules signer events event fault else Err NotOwnUser

  told : prepared_of rules signer events draft ≡ after (is_own_user signer.name draft.sender) sealed (first_fault_of sealed.value)
  told = ap (λ (parts : Event). after (is_own_user signer.name draft.sender) (sealed_by signer parts) (first_fault_of (sealed_by signer parts).value)) same

  -- what is prepared depends on the verdict on that event
  pub prepared-made : (event : CheckedEvent) → made_of signer links draft ≡ Ok event → prepared_of rules signer events draft ≡ if_allowed rules signer events event
  prepared-made event h = told ∙ by (is_own_user signer.name draft.sender) (first_fault_of sealed.value) h
    where
      by : (own : Bool) (fault : Option PduFault) → (if own then or_bad_draft signer (if_passes signer sealed fault) else Err NotOwnUser) ≡ Ok event → after own sealed fault ≡ if_allowed rules signer events event
      by true None t = let same : checked_of signer.checks sealed ≡ event = cc in ap (if_allowed rules signer events) same
      by true (Some fault) t = absurd (cc)
      by false fault t = absurd (cc)

  -- what is not made is not prepared
  pub prepared-unmade : (refusal : Refusal) → made_of signer links draft ≡ Err refusal → prepared_of rules signer events draft ≡ Err refusal
  prepared-unmade refusal h = told ∙ by (is_own_user signer.name draft.sender) (first_fault_of sealed.value) h
    where
      by : (own : Bool) (fault : Option PduFault) → (if own then or_bad_draft signer (if_passes signer sealed fault) else Err NotOwnUser) ≡ Err refusal → after own sealed fault ≡ Err refusal
      by true None t = absurd (cc)
      by true (Some fault) t = let same : BadDraft fault ≡ refusal = cc in ap (λ (r : Refusal). Err r) same
      by false fault t = let same : NotOwnUser ≡ refusal = cc in ap (λ (r : Refusal). Err r) same

-- what is told of an event that is made
module _ (rules : Rules) (signer : Signer) (events : List Stored) (draft : DraftFields) (links given : EventLinks) (parts : rules.parts events draft ≡ parts_of links draft) (same : given ≡ links) where
  pub prepared-event : (event : CheckedEvent) → (Ok event ≡ made_of signer given draft) ⊎ (Ok event ≡ Err Memory) → prepared_of rules signer events draft ≡ if_allowed rules signer events event
  prepared-event event (inl e) = prepared-made rules signer events links draft parts event (sym (e ∙ ap (λ (l : EventLinks). made_of signer l draft) same))
  prepared-event event (inr e) = absurd (cc)

-- the verdict decides
pub refused-by : (rules : Rules) (signer : Signer) (events : List Stored) (event : CheckedEvent) (verdict : Verdict) (rule : Rule) → rules.decide events event ≡ verdict → rule_of verdict ≡ Some rule
    → if_allowed rules signer events event ≡ Err (NotAllowed rule)
refused-by rules signer events event verdict rule e h = ap (if_accepted rules signer events event) e ∙ by verdict h
  where
    by : (verdict : Verdict) → rule_of verdict ≡ Some rule → if_accepted rules signer events event verdict ≡ Err (NotAllowed rule)
    by Accepted h = absurd (cc)
    by (Rejected other) h = let same : other ≡ rule = cc in ap (λ (r : Rule). Err (NotAllowed r)) same
    by (SoftFailed other) h = let same : other ≡ rule = cc in ap (λ (r : Rule). Err (NotAllowed r)) same

pub accepted-by : (rules : Rules) (signer : Signer) (events : List Stored) (event : CheckedEvent) (verdict : Verdict) → rules.decide events event ≡ verdict → rule_of verdict ≡ None
    → if_allowed rules signer events event ≡ Ok (record { event = event; before = rules.before events event.event })
accepted-by rules signer events event verdict e h = ap (if_accepted rules signer events event) e ∙ by verdict h
  where
    by : (verdict : Verdict) → rule_of verdict ≡ None → if_accepted rules signer events event verdict ≡ Ok (record { event = event; before = rules.before events event.event })
    by Accepted h = refl
    by (Rejected other) h = absurd (cc)
    by (SoftFailed other) h = absurd (cc)
