use Rattle.fed_redaction.specs.declared.version.Version.{Version}
use Rattle.fed_c.specs.Texts.{of_value, event_id_in}
use Rattle.fed_c.specs.RoomVersion.{by_version}
use Rattle.fed_c.specs.Values.{value_of}
use Rattle.fed_c.proofs.OtherVersions.{of_value_other, value_other, only_of_others}
use Rattle.fed_c.proofs.texts.wikzord_event_id.Goals as goal

pub returns-clause-only : goal.returns-clause-only
returns-clause-only c =
    let value = value_of c.args.text.now in
    let answer = λ (v : Version). of_value (event_id_in v) value in
    only_of_others c.args.version answer _ _ (λ v. of_value_other (event_id_in v) value (value_other c.args.text.now))
    (c.give.ensures.gives (by_version c.args.version answer) c.event_id.ensures.ok c.event_id.ensures.fault)
