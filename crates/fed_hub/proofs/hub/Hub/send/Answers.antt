use Rattle.std.proofs.Common.{rules, arith, ◌≡◌, true, Result, length, sym, ap, ◌∙◌, subst}
use Rattle.std.proofs.lemmas.Grind.{common_steps}
use Rattle.fed_room_contract.specs.Prepared.{signer_of}
use Rattle.fed_hub.specs.declared.faults.SendFault.{SendFault}
use Rattle.fed_hub.specs.declared.offering.Sent.{Sent}
use Rattle.fed_hub.specs.Hub.{HubShape}
use Rattle.fed_hub.specs.Offering.{IsSent}
use Rattle.fed_hub.specs.Setup.{has_room}
use Rattle.fed_hub.proofs.Sendings.{err_is, sent_so, full_so, refused_then, again}
use Rattle.fed_hub.proofs.hub.Hub.send.Goals as goal

pub wait_to_send-requires : goal.wait_to_send-requires
wait_to_send-requires g c =
    let keys = c.self.inside.keys in
    let signer = signer_of (g.K.Keys.own_name keys) (g.K.Keys.own_key keys) (g.K.Keys.own_signature keys) (g.K.Keys.checks keys) in
    full_so signer g.N.Naming.wires c.loop.draft c.deref_mut.result.now c.send_in-told.new.room c.loop.client c.send_in-told.new.client c.in-Err.unsent c.in-Err.ensures

pub loop-preserved : goal.loop-preserved
loop-preserved g c =
    let keys = c.self.inside.keys in
    let signer = signer_of (g.K.Keys.own_name keys) (g.K.Keys.own_key keys) (g.K.Keys.own_signature keys) (g.K.Keys.checks keys) in
    let told = c.send_in-told.new.client in
    let tried = again signer g.N.Naming.wires c.args.draft c.loop.draft c.in_ok-draft-in-Err.draft c.deref_mut.result.now c.send_in-told.new.room c.args.client.now c.loop.client told c.in-Err.unsent c.loop.invariant.draft c.loop.invariant.told
    (sym c.wait_to_send.ensures ∙ c.in_ok-draft-in-Err.was) c.in-Err.ensures in
    record { draft = tried.0; told = tried.1 }

pub returns-in-Ok : goal.returns-in-Ok
returns-in-Ok g c =
    let keys = c.self.inside.keys in
    let signer = signer_of (g.K.Keys.own_name keys) (g.K.Keys.own_key keys) (g.K.Keys.own_signature keys) (g.K.Keys.checks keys) in
    let has : has_room c.args.self.now.rooms c.args.draft.room ≡ true = first_of (search rules, grind (arith, common_steps)) in
    sent_so c.args.self.now signer g.N.Naming.wires c.args.draft c.loop.draft c.deref_mut.result.now c.send_in-told.new.room c.args.client.now c.loop.client c.send_in-told.new.client c.in-Ok.sent has
    (ap (λ (h : HubShape). h.name) c.self.view_is) c.loop.invariant.draft c.loop.invariant.told c.in-Ok.ensures

pub returns-in_err-draft-in-Err : goal.returns-in_err-draft-in-Err
returns-in_err-draft-in-Err g c =
    let keys = c.self.inside.keys in
    let signer = signer_of (g.K.Keys.own_name keys) (g.K.Keys.own_key keys) (g.K.Keys.own_signature keys) (g.K.Keys.checks keys) in
    let has : has_room c.args.self.now.rooms c.args.draft.room ≡ true = first_of (search rules, grind (arith, common_steps)) in
    let fault = c.in_err-draft-in-Err.field-0.0 in
    let told = c.send_in-told.new.client in
    subst (λ (r : Result Sent SendFault). IsSent c.args.self.now c.args.draft c.args.client.now r told) (sym (err_is c.from_residual.result fault c.from_residual.ensures.0 c.from_residual.ensures.1))
    (refused_then c.args.self.now signer g.N.Naming.wires c.args.draft c.loop.draft c.deref_mut.result.now c.send_in-told.new.room c.args.client.now c.loop.client told c.in-Err.unsent fault has
    (ap (λ (h : HubShape). h.name) c.self.view_is) c.loop.invariant.draft c.loop.invariant.told (sym c.wait_to_send.ensures ∙ c.in_err-draft-in-Err.was) c.in-Err.ensures)
