use Rattle.std.proofs.Common.{rules, ◌≡◌, ◌≢◌, Result, Err, IfErr, sym, ap, subst}
use Rattle.fed_event.specs.declared.fault.PduFault.{PduFault}
use Rattle.fed_event.specs.declared.fault.PduFault.TheVariants.{Memory, TooDeep}
use Rattle.fed_room_contract.specs.Prepared.{signer_of}
use Rattle.fed_room.specs.declared.line.Line.{Line}
use Rattle.fed_room.specs.Line.{links_after, if_made, after_draft}
use Rattle.fed_room.specs.LineParts.{line_seen}
use Rattle.fed_room.proofs.Made.{event-deep}
use Rattle.fed_room.proofs.line.Line.with_draft.Goals as goal

pub returns-in_err-check_depth-clause-fails : goal.returns-in_err-check_depth-clause-fails
returns-in_err-check_depth-clause-fails g c =
    let keys = c.args.keys.now in
    let signer = signer_of (g.K.Keys.own_name keys) (g.K.Keys.own_key keys) (g.K.Keys.own_signature keys) (g.K.Keys.checks keys) in
    let line = line_seen c.args.self in
    let draft = c.args.draft in
    let told : c.from_residual.result ≡ Err TooDeep = search rules in
    let deep : after_draft signer line draft ≡ Err TooDeep = ap (if_made line) (event-deep signer draft c.in_err-check_depth.ensures.told (links_after line draft)) in
    subst (λ (r : Result Line PduFault). IfErr r (λ fault. fault ≢ Memory → after_draft signer line draft ≡ Err fault)) (sym told) (λ _. deep)
