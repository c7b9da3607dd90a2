use Rattle.std.proofs.Common.{◌≡◌, Bor, Option, Some, option_map, sym, ap, ◌∙◌}
use Rattle.std.proofs.lemmas.Result.{IfOk-weaker, IfErr-weaker}
use Rattle.fed_room_contract.specs.Draft.{DraftFields}
use Rattle.fed_room_contract.specs.Prepared.{Signer, signer_of}
use Rattle.fed_room.specs.Creation.{keys_of, after_signed}
use Rattle.fed_room.specs.LineParts.{line_seen}
use Rattle.fed_room.proofs.KeysOf.{keys-own}
use Rattle.fed_room.proofs.creation.with_draft.Goals as goal

pub with_draft-requires : goal.with_draft-requires
with_draft-requires g c =
    let signer_by : g.row.K.Denot → Signer = λ k. signer_of (g.K.Keys.own_name k) (g.K.Keys.own_key k) (g.K.Keys.own_signature k) (g.K.Keys.checks k) in
    let keys = c.args.keys.now in
    let draft = c.args.draft in
    let sender : c.deref.result.now ≡ draft.sender = c.deref.ensures ∙ ap (λ (d : DraftFields). d.sender) c.draft.view_is in
    let found : keys_of signer_by keys draft.sender ≡ Some c.in-Some.own.now = ap (keys_of signer_by keys) (sym sender) ∙ sym c.keys_of.ensures ∙ ap (option_map (λ (k : Bor g.row.K.Denot). k.now)) c.in-Some.is in
    keys-own signer_by keys draft.sender c.in-Some.own.now found

pub returns-in-Some-clause-ok : goal.returns-in-Some-clause-ok
returns-in-Some-clause-ok g c =
    let signer_by : g.row.K.Denot → Signer = λ k. signer_of (g.K.Keys.own_name k) (g.K.Keys.own_key k) (g.K.Keys.own_signature k) (g.K.Keys.checks k) in
    let keys = c.args.keys.now in
    let draft = c.args.draft in
    let sender : c.deref.result.now ≡ draft.sender = c.deref.ensures ∙ ap (λ (d : DraftFields). d.sender) c.draft.view_is in
    let found : keys_of signer_by keys draft.sender ≡ Some c.in-Some.own.now = ap (keys_of signer_by keys) (sym sender) ∙ sym c.keys_of.ensures ∙ ap (option_map (λ (k : Bor g.row.K.Denot). k.now)) c.in-Some.is in
    IfOk-weaker c.with_draft.result _ _ (λ more same. ap (λ (o : Option g.row.K.Denot). after_signed signer_by keys o (line_seen c.args.line) draft) found ∙ same) c.with_draft.ensures.ok

pub returns-in-Some-clause-fails : goal.returns-in-Some-clause-fails
returns-in-Some-clause-fails g c =
    let signer_by : g.row.K.Denot → Signer = λ k. signer_of (g.K.Keys.own_name k) (g.K.Keys.own_key k) (g.K.Keys.own_signature k) (g.K.Keys.checks k) in
    let keys = c.args.keys.now in
    let draft = c.args.draft in
    let sender : c.deref.result.now ≡ draft.sender = c.deref.ensures ∙ ap (λ (d : DraftFields). d.sender) c.draft.view_is in
    let found : keys_of signer_by keys draft.sender ≡ Some c.in-Some.own.now = ap (keys_of signer_by keys) (sym sender) ∙ sym c.keys_of.ensures ∙ ap (option_map (λ (k : Bor g.row.K.Denot). k.now)) c.in-Some.is in
    IfErr-weaker c.with_draft.result _ _ (λ fault told other. ap (λ (o : Option g.row.K.Denot). after_signed signer_by keys o (line_seen c.args.line) draft) found ∙ told other) c.with_draft.ensures.fails
