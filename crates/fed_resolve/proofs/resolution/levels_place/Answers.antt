use Rattle.std.proofs.Common.{option_map, sym, ap, ◌∙◌}
use Rattle.std.specs.Prelude.{option_and_then}
use Rattle.fed_resolve.specs.Chain.{place_of}
use Rattle.fed_resolve.proofs.resolution.levels_place.Goals as goal

pub returns-in-Some-clause-place : goal.returns-in-Some-clause-place
returns-in-Some-clause-place c =
    c.place.ensures.place ∙ ap (place_of c.args.graph.now.stored) c.as_str.ensures.text
    ∙ ap (option_and_then (place_of c.args.graph.now.stored)) (ap (option_map (λ id. id.now)) (sym c.in-Some.is) ∙ c.get.ensures)

pub returns-in-None-clause-place : goal.returns-in-None-clause-place
returns-in-None-clause-place c = ap (option_and_then (place_of c.args.graph.now.stored)) (ap (option_map (λ id. id.now)) (sym c.in-None.is) ∙ c.get.ensures)
