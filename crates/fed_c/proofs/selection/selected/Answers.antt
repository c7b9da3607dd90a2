use Rattle.fed_auth.specs.Selection.{selector_of, selection_keys}
use Rattle.fed_c.proofs.ListedItems.{keys_listed}
use Rattle.fed_c.proofs.selection.selected.Goals as goal

pub loop-key-init : goal.loop-key-init
loop-key-init c = let whole = keys_listed (selection_keys (selector_of c.args.event.now)) in cc
