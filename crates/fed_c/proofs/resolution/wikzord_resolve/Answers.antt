use Rattle.fed_redaction.specs.declared.version.Version.{Version}
use Rattle.fed_c.specs.Resolution.{resolved_answer}
use Rattle.fed_c.specs.RoomVersion.{by_version}
use Rattle.fed_c.specs.Values.{value_of}
use Rattle.fed_c.proofs.OtherVersions.{resolved_other, value_other, only_of_others}
use Rattle.fed_c.proofs.resolution.wikzord_resolve.Goals as goal

pub returns-clause-only : goal.returns-clause-only
returns-clause-only c =
    let events = value_of c.args.events.now in
    let rejected = value_of c.args.rejected.now in
    let states = value_of c.args.states.now in
    let answer = λ (v : Version). resolved_answer v events rejected states in
    only_of_others c.args.version answer _ _ (λ v. resolved_other v events rejected states (value_other c.args.events.now) (value_other c.args.rejected.now)
    (value_other c.args.states.now))
    (c.give.ensures.gives (by_version c.args.version answer) c.resolved.ensures.ok c.resolved.ensures.fault)
