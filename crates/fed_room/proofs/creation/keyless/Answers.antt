use Rattle.std.proofs.Common.{rules, ◌≡◌, true, false, Bor, is_none, string_bytes, sym, ap, ◌∙◌}
use Rattle.fed_room_contract.specs.Prepared.{Signer, signer_of}
use Rattle.fed_room.specs.Creation.{keys_of}
use Rattle.fed_room.proofs.KeysOf.{none-mapped, keyless-here, keyless-next}
use Rattle.fed_room.proofs.creation.keyless.Goals as goal

pub returns-then-is_none : goal.returns-then-is_none
returns-then-is_none g c =
    let signer_by : g.row.K.Denot → Signer = λ k. signer_of (g.K.Keys.own_name k) (g.K.Keys.own_key k) (g.K.Keys.own_signature k) (g.K.Keys.checks k) in
    let keys = c.args.keys.now in
    let user = c.index-users-place.result in
    let looked : is_none (keys_of signer_by keys (string_bytes user)) ≡ is_none c.keys_of.result =
    ap is_none (ap (keys_of signer_by keys) (sym c.deref.ensures) ∙ sym c.keys_of.ensures) ∙ none-mapped (λ (k : Bor g.row.K.Denot). k.now) c.keys_of.result in
    let none : is_none c.keys_of.result ≡ true = search rules in
    keyless-here signer_by keys string_bytes c.args.users.now c.loop-place.place user c.loop-place-test.true c.index-users-place.is (looked ∙ none) c.loop-place.invariant

pub loop-place-preserved : goal.loop-place-preserved
loop-place-preserved g c =
    let signer_by : g.row.K.Denot → Signer = λ k. signer_of (g.K.Keys.own_name k) (g.K.Keys.own_key k) (g.K.Keys.own_signature k) (g.K.Keys.checks k) in
    let keys = c.args.keys.now in
    let user = c.index-users-place.result in
    let looked : is_none (keys_of signer_by keys (string_bytes user)) ≡ is_none c.keys_of.result =
    ap is_none (ap (keys_of signer_by keys) (sym c.deref.ensures) ∙ sym c.keys_of.ensures) ∙ none-mapped (λ (k : Bor g.row.K.Denot). k.now) c.keys_of.result in
    let some : is_none c.keys_of.result ≡ false = search rules in
    keyless-next signer_by keys string_bytes c.args.users.now c.loop-place.place user c.loop-place-test.true c.index-users-place.is (looked ∙ some) c.loop-place.invariant
