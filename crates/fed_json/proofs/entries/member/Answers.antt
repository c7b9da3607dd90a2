use Rattle.std.proofs.Common.{sym}
use Rattle.fed_json.proofs.Places.{rises, found, not_found}
use Rattle.fed_json.proofs.entries.member.Goals as goal

pub returns-in-Ok : goal.returns-in-Ok
returns-in-Ok c = sym (found c.args.name.now c.args.members.now c.in-Ok.at c.index-members-at.result c.requires (c.in-Ok.ensures.range, c.in-Ok.ensures.place))

pub returns-in-Err : goal.returns-in-Err
returns-in-Err c =
    let gap = c.in-Err.ensures.place (rises c.args.name.now c.args.members.now c.requires) in
    sym (not_found c.args.name.now c.args.members.now c.in-Err.field-0 gap)
