use Rattle.std.proofs.Common.{◌≡◌, ◌+◌, drop, map, string_bytes}
use Rattle.fed_room_contract.specs.Prepared.{Signer, signer_of}
use Rattle.fed_room.specs.Creation.{keyless}
use Rattle.fed_room.proofs.creation.keyless.Given as goal

-- what is left decides
abbrev pub invariant-loop-place : goal.invariant-loop-place
invariant-loop-place g l =
    let signer_by : g.row.K.Denot → Signer = λ k. signer_of (g.K.Keys.own_name k) (g.K.Keys.own_key k) (g.K.Keys.own_signature k) (g.K.Keys.checks k) in
    keyless signer_by l.keys (l.place + 1) (map string_bytes (drop l.place l.users)) ≡ keyless signer_by l.keys 1 (map string_bytes l.users)
