use Rattle.std.proofs.Common.{refl, sym, ap, ◌∙◌}
use Rattle.std.specs.Option.{option_map_or}
use Rattle.std.proofs.lemmas.Bool.{eqb-true, eqb-false}
use Rattle.fed_sim.specs.declared.outcome.Outcome.TheVariants.{Due, NotFailed}
use Rattle.fed_sim.specs.Ways.{failing}
use Rattle.fed_sim.specs.ServerParts.{server_of}
use Rattle.fed_sim.proofs.OnWays.{none_to_own, none_there, way_made}
use Rattle.fed_sim.proofs.server.Server.failed.Goals as goal

pub returns-then-eq : goal.returns-then-eq
returns-then-eq c = none_to_own c.args.dest (server_of c.args.self.now) (failing c.args.now) (eqb-true _ _ (sym c.if-eq.ensures))

pub returns-in_default : goal.returns-in_default
returns-in_default c =
    none_there c.args.dest (server_of c.args.self.now) c.args.self.now.ways refl c.place.result c.place.ensures.place c.get_mut.result c.get_mut.ensures.variant
    (failing c.args.now) c.in_default.is

pub returns-in-Some-failed : goal.returns-in-Some-failed
returns-in-Some-failed c =
    way_made c.args.dest (server_of c.args.self.now) c.args.self.now.ways refl c.place.result c.place.ensures.place c.get_mut.result c.get_mut.ensures.variant
    c.in-Some.way.now c.failed.new.self c.in-Some.way c.in-Some.is c.in-Some.ensures.value (failing c.args.now) (Due c.in-Some-failed.at_ms) (eqb-false _ _ (sym c.if-eq.ensures))
    (ap (λ o. option_map_or Due o NotFailed) (sym c.in-Some-failed.is ∙ c.failed.ensures.told))
    (λ i. record { queue = c.failed.ensures.queue i; outbox = c.failed.ensures.outbox i })

pub returns-in-None : goal.returns-in-None
returns-in-None c =
    way_made c.args.dest (server_of c.args.self.now) c.args.self.now.ways refl c.place.result c.place.ensures.place c.get_mut.result c.get_mut.ensures.variant
    c.in-Some.way.now c.failed.new.self c.in-Some.way c.in-Some.is c.in-Some.ensures.value (failing c.args.now) NotFailed (eqb-false _ _ (sym c.if-eq.ensures))
    (ap (λ o. option_map_or Due o NotFailed) (sym c.in-None.is ∙ c.failed.ensures.told))
    (λ i. record { queue = c.failed.ensures.queue i; outbox = c.failed.ensures.outbox i })
