use Rattle.fed_redaction.specs.declared.version.Version.{Version}
use Rattle.fed_c.specs.Several.{cut, of_values}
use Rattle.fed_c.specs.Texts.{event_id_in}
use Rattle.fed_c.specs.RoomVersion.{by_version}
use Rattle.fed_c.proofs.OtherVersions.{of_values_other, only_of_others}
use Rattle.fed_c.proofs.several.wikzord_event_ids.Goals as goal

pub returns-clause-only : goal.returns-clause-only
returns-clause-only c =
    let texts = cut c.args.texts.now c.args.lens.now in
    let answer = λ (v : Version). of_values (event_id_in v) texts in
    only_of_others c.args.version answer _ _ (λ v. of_values_other (event_id_in v) texts)
    (c.give.ensures.gives (by_version c.args.version answer) c.event_ids.ensures.ok c.event_ids.ensures.fault)
