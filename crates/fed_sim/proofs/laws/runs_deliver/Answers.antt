use Rattle.fed_sim.proofs.Beginning.{begins_sound}
use Rattle.fed_sim.proofs.Delivered.{all_delivered}
use Rattle.fed_sim.proofs.WayMoves.{Laws}
use Rattle.fed_sim.proofs.Runs.{run_sound, reached_sound, comes_sound}
use Rattle.fed_sim.proofs.Taken.{taken_once}
use Rattle.fed_sim.proofs.Journals.{as_many, all_kept}
use Rattle.fed_sim.proofs.laws.runs_deliver.Goals as goal

pub returns-clause-headline : goal.returns-clause-headline
returns-clause-headline c setup steps replies w is =
    let law = c.nothing_is_lost_on_the_way.ensures in
    let laws : Laws = record { entered = law.entered; collected = law.collected; events = law.events; edus = law.edus } in
    record {
      ran = is;
      count = as_many setup steps replies w is;
      delivered = all_delivered laws w (run_sound laws is.begin steps replies w is.ran (begins_sound setup is.begin is.begins));
      takes = λ earlier told old run then reached k server dest n bytes packet says new takes.
          taken_once then (reached_sound laws old then reached (run_sound laws run.begin earlier told old run.ran (begins_sound setup run.begin run.begins))) k server dest n bytes packet says new takes;
      destinations = all_kept setup steps replies w is;
    }

pub returns-clause-takes : goal.returns-clause-takes
returns-clause-takes c w comes then reached k server dest n bytes packet says new takes =
    let law = c.nothing_is_lost_on_the_way.ensures in
    let laws : Laws = record { entered = law.entered; collected = law.collected; events = law.events; edus = law.edus } in
    taken_once then (reached_sound laws w then reached (comes_sound laws w comes)) k server dest n bytes packet says new takes
