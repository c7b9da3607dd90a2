use Rattle.std.proofs.Common.{rules, ◌≡◌, ◌≢◌, None, Err, IfErr, map, string_bytes, sym, ap, ◌∙◌, subst}
use Rattle.fed_room_contract.specs.Prepared.{Signer, signer_of}
use Rattle.fed_room.specs.declared.started_fault.StartedFault.TheVariants.{Memory}
use Rattle.fed_room.specs.Creation.{keyless, drafts_of, events_in, started_of}
use Rattle.fed_room.specs.StartedFault.{started_fault_of}
use Rattle.fed_room.proofs.KeysOf.{started-is}
use Rattle.fed_room.proofs.creation.started.Goals as goal

pub returns-in_err-line-clause-fails : goal.returns-in_err-line-clause-fails
returns-in_err-line-clause-fails g c =
    let signer_by : g.row.K.Denot → Signer = λ k. signer_of (g.K.Keys.own_name k) (g.K.Keys.own_key k) (g.K.Keys.own_signature k) (g.K.Keys.checks k) in
    let keys = c.args.keys.now in
    let version = c.args.version in
    let room = c.args.room.now in
    let users = c.args.users.now in
    let none : keyless signer_by keys 1 (map string_bytes users) ≡ None = sym c.keyless.ensures ∙ c.in_default-keyless.is in
    let drafts : c.in_ok-drafts.drafts.items ≡ drafts_of version room (string_bytes c.in-Some.first.now) (map string_bytes c.in-Some.others.now) =
    c.in_ok-drafts.ensures ∙ ap (λ first. drafts_of version room first (map string_bytes c.in-Some.others.now)) c.deref.ensures in
    let started = started-is signer_by keys version room string_bytes users c.in-Some.first.now c.in-Some.others.now c.in_ok-drafts.drafts.items c.in-Some.ensures.cases.0 none drafts in
    let fault = c.in_err-line.field-0.0 in
    let told : c.from_residual-in_err-line.result ≡ Err (started_fault_of fault) = search rules in
    subst (λ r. IfErr r (λ f. f ≢ Memory → started_of signer_by keys version room (map string_bytes users) ≡ Err f)) (sym told)
    (λ other. started ∙ ap events_in (c.in_err-line.ensures.fails (λ same. other (ap started_fault_of same))))

pub returns-clause-ok : goal.returns-clause-ok
returns-clause-ok g c =
    let signer_by : g.row.K.Denot → Signer = λ k. signer_of (g.K.Keys.own_name k) (g.K.Keys.own_key k) (g.K.Keys.own_signature k) (g.K.Keys.checks k) in
    let keys = c.args.keys.now in
    let version = c.args.version in
    let room = c.args.room.now in
    let users = c.args.users.now in
    let none : keyless signer_by keys 1 (map string_bytes users) ≡ None = sym c.keyless.ensures ∙ c.in_default-keyless.is in
    let drafts : c.in_ok-drafts.drafts.items ≡ drafts_of version room (string_bytes c.in-Some.first.now) (map string_bytes c.in-Some.others.now) =
    c.in_ok-drafts.ensures ∙ ap (λ first. drafts_of version room first (map string_bytes c.in-Some.others.now)) c.deref.ensures in
    let started = started-is signer_by keys version room string_bytes users c.in-Some.first.now c.in-Some.others.now c.in_ok-drafts.drafts.items c.in-Some.ensures.cases.0 none drafts in
    started ∙ ap events_in c.in_ok-line.ensures.ok
