use Rattle.std.proofs.Common.{◌≡◌, Ok}
use Rattle.fed_room_contract.specs.Prepared.{Signer, signer_of}
use Rattle.fed_room.specs.Creation.{after_drafts}
use Rattle.fed_room.specs.Line.{empty_line}
use Rattle.fed_room.specs.LineParts.{line_seen}
use Rattle.fed_room.proofs.creation.line.Given as goal

-- the drafts that are left decide
abbrev pub invariant-loop-draft : goal.invariant-loop-draft
invariant-loop-draft g l =
    let signer_by : g.row.K.Denot → Signer = λ k. signer_of (g.K.Keys.own_name k) (g.K.Keys.own_key k) (g.K.Keys.own_signature k) (g.K.Keys.checks k) in
    after_drafts signer_by l.fn.keys (Ok (line_seen l.line)) l.draft-iterator.rest.items ≡ after_drafts signer_by l.fn.keys (Ok (empty_line l.fn.version)) l.fn.drafts.items
