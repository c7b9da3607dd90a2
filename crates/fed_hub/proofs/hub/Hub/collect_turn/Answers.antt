use Rattle.std.proofs.Common.{sym, subst}
use Rattle.fed_hub.specs.declared.sending.Turn.{Turn}
use Rattle.fed_hub.specs.Sending.{LastsSo}
use Rattle.fed_hub.proofs.Nexts.{lasts_of}
use Rattle.fed_hub.proofs.hub.Hub.collect_turn.Goals as goal

pub returns-clause-collected : goal.returns-clause-collected
returns-clause-collected g c = record { told = c.collect.result; collects = c.collect.ensures.collected; made = c.turn_of.ensures }

pub returns-clause-drained : goal.returns-clause-drained
returns-clause-drained g c = subst (λ (t : Turn). LastsSo t c.collect.new.token) (sym c.turn_of.ensures) (lasts_of c.collect.result c.args.most c.collect.new.token)
