use Rattle.std.proofs.Common.{rules, ◌≡◌, ◌⊎◌, Result, Ok, Err, sym, subst}
use Rattle.fed_event.specs.Checked.{CheckedEvent}
use Rattle.fed_room_contract.specs.declared.refusal.Refusal.{Refusal}
use Rattle.fed_room_contract.specs.declared.refusal.Refusal.TheVariants.{Memory}
use Rattle.fed_room_contract.specs.Prepared.{signer_of, refusal_of}
use Rattle.fed_room.specs.LinksParts.{links_seen}
use Rattle.fed_room.specs.Made.{made_of}
use Rattle.fed_room.proofs.Made.{told-made}
use Rattle.fed_room.proofs.drafting.made.Goals as goal

pub returns-in_err-sealed-clause-told : goal.returns-in_err-sealed-clause-told
returns-in_err-sealed-clause-told g c =
    let keys = c.args.keys.now in
    let signer = signer_of (g.K.Keys.own_name keys) (g.K.Keys.own_key keys) (g.K.Keys.own_signature keys) (g.K.Keys.checks keys) in
    let links = links_seen c.args.links in
    let told : c.from_residual.result ≡ Err (refusal_of c.in_err-sealed.field-0.0) = search rules in
    subst (λ (r : Result CheckedEvent Refusal). (r ≡ made_of signer links c.args.draft) ⊎ (r ≡ Err Memory)) (sym told)
    (told-made signer links c.args.draft c.requires.own (Err c.in_err-sealed.field-0.0) c.in_err-sealed.ensures.told)

pub returns-clause-told : goal.returns-clause-told
returns-clause-told g c =
    let keys = c.args.keys.now in
    let signer = signer_of (g.K.Keys.own_name keys) (g.K.Keys.own_key keys) (g.K.Keys.own_signature keys) (g.K.Keys.checks keys) in
    told-made signer (links_seen c.args.links) c.args.draft c.requires.own (Ok c.in_ok-sealed.field-0) c.in_ok-sealed.ensures.told
