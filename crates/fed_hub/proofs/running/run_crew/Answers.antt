use Rattle.std.proofs.Common.{rules, arith}
use Rattle.std.proofs.lemmas.Grind.{common_steps}
use Rattle.fed_hub.proofs.Named.{named, is_place}
use Rattle.fed_hub.proofs.running.run_crew.Goals as goal

pub run_named_crew-requires-clause-named : goal.run_named_crew-requires-clause-named
run_named_crew-requires-clause-named g c κs within =
    named _ _ _ _ _ _ (first_of (search rules, grind (arith, common_steps))) (is_place _) (first_of (search rules, grind (arith, common_steps)))
