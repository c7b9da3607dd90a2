use Rattle.fed_redaction.specs.declared.version.Version.TheVariants.{V10}
use Rattle.fed_event.specs.Reading.{read_of}
use Rattle.fed_c.specs.Events.{read_or_status}
use Rattle.fed_c.specs.Selection.{selection_answer}
use Rattle.fed_c.proofs.AnyVersion.{gives_same, same_selection}
use Rattle.fed_c.proofs.selection.wikzord_auth_selection.Goals as goal

pub returns : goal.returns
returns c = λ version.
    let event = read_or_status (read_of c.args.text.now) in
    gives_same _ _ _ _ (same_selection V10 version event) (c.give.ensures.gives (selection_answer V10 event) c.selection.ensures.ok c.selection.ensures.fault)
