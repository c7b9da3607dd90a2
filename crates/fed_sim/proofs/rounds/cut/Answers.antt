use Rattle.std.proofs.Common.{true≢false, sym, ◌∙◌}
use Rattle.fed_sim.specs.WorldParts.{world_of}
use Rattle.fed_sim.proofs.CalmSteps.{no_cut}
use Rattle.fed_sim.proofs.rounds.cut.Goals.{in-Cut, in_default}
use Rattle.fed_sim.proofs.rounds.cut.Goals as goal

pub returns-clause-idle : goal.returns-clause-idle
returns-clause-idle c none =
    elim c.match-cut.branch [
      | in-Cut w ↦ absurd (true≢false (sym w.result-is ∙ none))
      | in_default w ↦ no_cut c.args.server c.args.dest (world_of c.args.world.now).now (world_of c.args.world.now) c.cut.result (world_of c.cut.new.self) c.cut.ensures.cut w.in_default.not-Cut
    ]
