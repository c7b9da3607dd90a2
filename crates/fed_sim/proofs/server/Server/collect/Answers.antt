use Rattle.std.proofs.Common.{refl, sym, ap, ◌∙◌}
use Rattle.std.specs.Option.{option_map_or}
use Rattle.std.proofs.lemmas.Bool.{eqb-true, eqb-false}
use Rattle.fed_sim.specs.declared.outcome.Outcome.TheVariants.{Collected, NothingCollected}
use Rattle.fed_sim.specs.Ways.{collecting}
use Rattle.fed_sim.specs.ServerParts.{server_of}
use Rattle.fed_sim.proofs.OnWays.{none_to_own, none_there, way_made, way_kept}
use Rattle.fed_sim.proofs.Servers.{on_error}
use Rattle.fed_sim.proofs.server.Server.collect.Goals as goal

pub returns-then-eq-clause-collected : goal.returns-then-eq-clause-collected
returns-then-eq-clause-collected c = none_to_own c.args.dest (server_of c.args.self.now) collecting (eqb-true _ _ (sym c.if-eq.ensures))

pub returns-in_default-clause-collected : goal.returns-in_default-clause-collected
returns-in_default-clause-collected c =
    none_there c.args.dest (server_of c.args.self.now) c.args.self.now.ways refl c.place.result c.place.ensures.place c.get_mut.result c.get_mut.ensures.variant
    collecting c.in_default.is

pub returns-in_err-kind-clause-err : goal.returns-in_err-kind-clause-err
returns-in_err-kind-clause-err c =
    on_error c.from_residual.result
    (way_kept c.args.dest (server_of c.args.self.now) c.args.self.now.ways refl c.place.result c.place.ensures.place c.get_mut.result c.get_mut.ensures.variant
    c.in-Some.way.now c.collect.new.self c.in-Some.way c.in-Some.is c.in-Some.ensures.value c.in_err-kind.ensures.err)

pub returns-in-Some-2-clause-collected : goal.returns-in-Some-2-clause-collected
returns-in-Some-2-clause-collected c =
    way_made c.args.dest (server_of c.args.self.now) c.args.self.now.ways refl c.place.result c.place.ensures.place c.get_mut.result c.get_mut.ensures.variant
    c.in-Some.way.now c.collect.new.self c.in-Some.way c.in-Some.is c.in-Some.ensures.value collecting (Collected c.in-Some-2.kind) (eqb-false _ _ (sym c.if-eq.ensures))
    (ap (λ o. option_map_or Collected o NothingCollected) (sym c.in-Some-2.is ∙ c.in_ok-kind.ensures.told)) c.in_ok-kind.ensures.ok

pub returns-in-None-clause-collected : goal.returns-in-None-clause-collected
returns-in-None-clause-collected c =
    way_made c.args.dest (server_of c.args.self.now) c.args.self.now.ways refl c.place.result c.place.ensures.place c.get_mut.result c.get_mut.ensures.variant
    c.in-Some.way.now c.collect.new.self c.in-Some.way c.in-Some.is c.in-Some.ensures.value collecting NothingCollected (eqb-false _ _ (sym c.if-eq.ensures))
    (ap (λ o. option_map_or Collected o NothingCollected) (sym c.in-None.is ∙ c.in_ok-kind.ensures.told)) c.in_ok-kind.ensures.ok
