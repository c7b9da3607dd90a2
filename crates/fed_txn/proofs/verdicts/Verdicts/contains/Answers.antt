use Rattle.std.proofs.Common.{◌∙◌, ap}
use Rattle.std.specs.FinMap as map
use Rattle.fed_txn.proofs.Entries.{contains_map_of}
use Rattle.fed_txn.proofs.verdicts.Verdicts.contains.Goals as goal

pub returns : goal.returns
returns c = c.contains_key.ensures ∙ contains_map_of _ c.self.invariant c.args.id.now ∙ ap (λ v. map.contains_key v c.args.id.now) c.self.view_is
