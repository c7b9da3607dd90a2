use Rattle.std.proofs.Common.{refl, sym, ap, ◌∙◌}
use Rattle.std.specs.Option.{option_map_or}
use Rattle.std.proofs.lemmas.Bool.{eqb-true, eqb-false}
use Rattle.fed_sim.specs.declared.way.Cut.{Cut}
use Rattle.fed_sim.specs.declared.outcome.Outcome.TheVariants as outcome
use Rattle.fed_sim.specs.Ways.{cutting}
use Rattle.fed_sim.specs.ServerParts.{server_of}
use Rattle.fed_sim.proofs.OnWays.{none_to_own, none_there, way_made}
use Rattle.fed_sim.proofs.server.Server.cut.Goals as goal

pub returns-then-eq : goal.returns-then-eq
returns-then-eq c = none_to_own c.args.dest (server_of c.args.self.now) (cutting c.args.now) (eqb-true _ _ (sym c.if-eq.ensures))

pub returns-in_default : goal.returns-in_default
returns-in_default c =
    none_there c.args.dest (server_of c.args.self.now) c.args.self.now.ways refl c.place.result c.place.ensures.place c.get_mut.result c.get_mut.ensures.variant
    (cutting c.args.now) c.in_default.is

pub returns-in-Some-cut : goal.returns-in-Some-cut
returns-in-Some-cut c =
    way_made c.args.dest (server_of c.args.self.now) c.args.self.now.ways refl c.place.result c.place.ensures.place c.get_mut.result c.get_mut.ensures.variant
    c.in-Some.way.now c.cut.new.self c.in-Some.way c.in-Some.is c.in-Some.ensures.value (cutting c.args.now) (outcome.Cut c.in-Some-cut.field-0.number c.in-Some-cut.field-0.pdus c.in-Some-cut.field-0.edus) (eqb-false _ _ (sym c.if-eq.ensures))
    (ap (λ o. option_map_or (λ (t : Cut). outcome.Cut t.number t.pdus t.edus) o outcome.NoCut) (sym c.in-Some-cut.is ∙ c.cut.ensures.told))
    (λ i. record { queue = c.cut.ensures.queue i; outbox = c.cut.ensures.outbox i })

pub returns-in-None : goal.returns-in-None
returns-in-None c =
    way_made c.args.dest (server_of c.args.self.now) c.args.self.now.ways refl c.place.result c.place.ensures.place c.get_mut.result c.get_mut.ensures.variant
    c.in-Some.way.now c.cut.new.self c.in-Some.way c.in-Some.is c.in-Some.ensures.value (cutting c.args.now) outcome.NoCut (eqb-false _ _ (sym c.if-eq.ensures))
    (ap (λ o. option_map_or (λ (t : Cut). outcome.Cut t.number t.pdus t.edus) o outcome.NoCut) (sym c.in-None.is ∙ c.cut.ensures.told))
    (λ i. record { queue = c.cut.ensures.queue i; outbox = c.cut.ensures.outbox i })
