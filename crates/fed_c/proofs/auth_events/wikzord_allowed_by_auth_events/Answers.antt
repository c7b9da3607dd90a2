use Rattle.fed_redaction.specs.declared.version.Version.{Version}
use Rattle.fed_event.specs.Reading.{read_of}
use Rattle.fed_c.specs.Events.{read_or_status}
use Rattle.fed_c.specs.AuthEvents.{auth_answer}
use Rattle.fed_c.specs.RoomVersion.{by_version}
use Rattle.fed_c.specs.Values.{value_of}
use Rattle.fed_c.proofs.OtherVersions.{auth_other, read_other, value_other, only_of_others}
use Rattle.fed_c.proofs.auth_events.wikzord_allowed_by_auth_events.Goals as goal

pub returns-clause-only : goal.returns-clause-only
returns-clause-only c =
    let rejected = value_of c.args.rejected.now in
    let events = value_of c.args.auth_events.now in
    let event = read_or_status (read_of c.args.text.now) in
    let answer = λ (v : Version). auth_answer v rejected events event c.args.authorised in
    only_of_others c.args.version answer _ _ (λ v. auth_other v rejected events event c.args.authorised (value_other c.args.rejected.now) (value_other c.args.auth_events.now)
    (read_other (read_of c.args.text.now)))
    (c.give.ensures.gives (by_version c.args.version answer) c.allowed-answer.ensures.ok c.allowed-answer.ensures.fault)
