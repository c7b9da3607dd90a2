use Rattle.std.proofs.Common.{refl, sym, ap}
use Rattle.std.proofs.lemmas.Bool.{eqb-true, eqb-false}
use Rattle.fed_sim.specs.declared.outcome.Outcome.TheVariants.{Settled}
use Rattle.fed_sim.specs.Ways.{settling}
use Rattle.fed_sim.specs.ServerParts.{server_of}
use Rattle.fed_sim.proofs.OnWays.{none_to_own, none_there, way_made}
use Rattle.fed_sim.proofs.server.Server.settle.Goals as goal

pub returns-then-eq : goal.returns-then-eq
returns-then-eq c = none_to_own c.args.dest (server_of c.args.self.now) (settling c.args.number c.args.status c.args.now) (eqb-true _ _ (sym c.if-eq.ensures))

pub returns-in_default : goal.returns-in_default
returns-in_default c =
    none_there c.args.dest (server_of c.args.self.now) c.args.self.now.ways refl c.place.result c.place.ensures.place c.get_mut.result c.get_mut.ensures.variant
    (settling c.args.number c.args.status c.args.now) c.in_default.is

pub returns : goal.returns
returns c =
    way_made c.args.dest (server_of c.args.self.now) c.args.self.now.ways refl c.place.result c.place.ensures.place c.get_mut.result c.get_mut.ensures.variant
    c.in-Some.way.now c.settle.new.self c.in-Some.way c.in-Some.is c.in-Some.ensures.value (settling c.args.number c.args.status c.args.now) (Settled c.settle.result) (eqb-false _ _ (sym c.if-eq.ensures))
    (ap Settled c.settle.ensures.told)
    (λ i. record { queue = c.settle.ensures.queue i; outbox = c.settle.ensures.outbox i })
