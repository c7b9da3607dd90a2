use Rattle.std.proofs.Common.{rules, ◌≡◌, true, Result, Err, IfErr, sym, ap, ◌∙◌, subst}
use Rattle.std.specs.Bool.{⊤}
use Rattle.fed_event.specs.declared.fault.PduFault.TheVariants.{TooDeep}
use Rattle.fed_room_contract.specs.declared.refusal.Refusal.{Refusal}
use Rattle.fed_room_contract.specs.declared.refusal.Refusal.TheVariants.{BadDraft}
use Rattle.fed_room_contract.specs.Draft.{DraftFields}
use Rattle.fed_room_contract.specs.Prepared.{signer_of, is_own_user}
use Rattle.fed_room.specs.Made.{made_of}
use Rattle.fed_room.specs.Parts.{EventLinks}
use Rattle.fed_room.proofs.Made.{made-deep}
use Rattle.fed_room.proofs.drafting.check.Goals as goal

pub returns-in_err-check_depth-clause-told : goal.returns-in_err-check_depth-clause-told
returns-in_err-check_depth-clause-told g c =
    let keys = c.args.keys.now in
    let signer = signer_of (g.K.Keys.own_name keys) (g.K.Keys.own_key keys) (g.K.Keys.own_signature keys) (g.K.Keys.checks keys) in
    let draft = c.args.draft.now in
    let sender : c.deref.result.now ≡ draft.sender = c.deref.ensures ∙ ap (λ (d : DraftFields). d.sender) c.draft.view_is in
    let own : is_own_user signer.name draft.sender ≡ true = ap (is_own_user signer.name) (sym sender) ∙ sym c.is_own_user.ensures ∙ c.if-not-is_own_user.false in
    let told : c.from_residual.result ≡ Err (BadDraft TooDeep) = search rules in
    subst (λ (r : Result ⊤ Refusal). IfErr r (λ refusal. (links : EventLinks) → made_of signer links draft ≡ Err refusal)) (sym told) (made-deep signer draft own c.in_err-check_depth.ensures.told)
