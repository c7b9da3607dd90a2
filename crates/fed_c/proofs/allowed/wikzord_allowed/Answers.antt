use Rattle.fed_redaction.specs.declared.version.Version.{Version}
use Rattle.fed_event.specs.Reading.{read_of}
use Rattle.fed_c.specs.Events.{read_or_status}
use Rattle.fed_c.specs.Allowed.{allowed_answer}
use Rattle.fed_c.specs.RoomVersion.{by_version}
use Rattle.fed_c.specs.Values.{value_of}
use Rattle.fed_c.proofs.OtherVersions.{allowed_other, read_other, value_other, only_of_others}
use Rattle.fed_c.proofs.allowed.wikzord_allowed.Goals as goal

pub returns-clause-only : goal.returns-clause-only
returns-clause-only c =
    let state = value_of c.args.state.now in
    let event = read_or_status (read_of c.args.text.now) in
    let answer = λ (v : Version). allowed_answer v state event c.args.authorised in
    only_of_others c.args.version answer _ _ (λ v. allowed_other v state event c.args.authorised (value_other c.args.state.now) (read_other (read_of c.args.text.now)))
    (c.give.ensures.gives (by_version c.args.version answer) c.allowed.ensures.ok c.allowed.ensures.fault)
