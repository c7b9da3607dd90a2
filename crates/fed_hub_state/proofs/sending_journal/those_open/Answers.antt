use Rattle.std.proofs.Common.{rules, not}
use Rattle.std.proofs.lemmas.Fn.{filter_same}
use Rattle.fed_journal.specs.Journal.{is_closed}
use Rattle.fed_hub_state.specs.declared.unplaced.Unplaced.{Unplaced}
use Rattle.fed_hub_state.proofs.sending_journal.those_open.Goals as goal

pub returns : goal.returns
returns c = filter_same _ (λ (u : Unplaced). not (is_closed c.args.journal.now.entries u.dest)) _ (λ x b f called. search rules) c.args.loads.items c.retain.new.self.items c.retain.ensures.filtered
