use Rattle.std.proofs.Common.{◌≡◌, drop}
use Rattle.fed_room_contract.specs.Prepared.{Signer, signer_of}
use Rattle.fed_room.specs.Creation.{keys_of}
use Rattle.fed_room.proofs.creation.keys_of.Given as goal

-- what is left decides
abbrev pub invariant-loop-own : goal.invariant-loop-own
invariant-loop-own g l =
    let signer_by : g.row.K.Denot → Signer = λ k. signer_of (g.K.Keys.own_name k) (g.K.Keys.own_key k) (g.K.Keys.own_signature k) (g.K.Keys.checks k) in
    keys_of signer_by (drop l.own-index l.keys) l.user ≡ keys_of signer_by l.keys l.user
