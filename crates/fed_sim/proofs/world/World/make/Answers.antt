use Rattle.std.proofs.Common.{IfOk, sym, subst}
use Rattle.fed_sim.specs.declared.step.Step.{Step}
use Rattle.fed_sim.specs.Steps.{Does}
use Rattle.fed_sim.specs.Applying.{IsGivenTo}
use Rattle.fed_sim.specs.World.{AtServer}
use Rattle.fed_sim.specs.WorldParts.{world_of}
use Rattle.fed_sim.proofs.world.World.make.Goals as goal

pub returns-in-Offer-clause-made : goal.returns-in-Offer-clause-made
returns-in-Offer-clause-made c = subst (λ (s : Step). IfOk c.offer.result (λ told. Does s (world_of c.args.self.now) told (world_of c.offer.new.self))) (sym c.in-Offer.is) c.offer.ensures.offered

pub returns-in-OfferEdu-clause-made : goal.returns-in-OfferEdu-clause-made
returns-in-OfferEdu-clause-made c = subst (λ (s : Step). IfOk c.offer_edu.result (λ told. Does s (world_of c.args.self.now) told (world_of c.offer_edu.new.self))) (sym c.in-OfferEdu.is) c.offer_edu.ensures.offered

pub returns-in-Close-clause-made : goal.returns-in-Close-clause-made
returns-in-Close-clause-made c = subst (λ (s : Step). IfOk c.close.result (λ told. Does s (world_of c.args.self.now) told (world_of c.close.new.self))) (sym c.in-Close.is) c.close.ensures.closed

pub returns-in-Collect-clause-made : goal.returns-in-Collect-clause-made
returns-in-Collect-clause-made c = subst (λ (s : Step). IfOk c.collect.result (λ told. Does s (world_of c.args.self.now) told (world_of c.collect.new.self))) (sym c.in-Collect.is) c.collect.ensures.collected

pub returns-in-Cut-clause-made : goal.returns-in-Cut-clause-made
returns-in-Cut-clause-made c = subst (λ (s : Step). Does s (world_of c.args.self.now) c.cut.result (world_of c.cut.new.self)) (sym c.in-Cut.is) c.cut.ensures.cut

pub returns-in-Failed-clause-made : goal.returns-in-Failed-clause-made
returns-in-Failed-clause-made c = subst (λ (s : Step). Does s (world_of c.args.self.now) c.failed.result (world_of c.failed.new.self)) (sym c.in-Failed.is) c.failed.ensures

pub returns-in-Post-clause-made : goal.returns-in-Post-clause-made
returns-in-Post-clause-made c = subst (λ (s : Step). IfOk c.post.result (λ told. Does s (world_of c.args.self.now) told (world_of c.post.new.self))) (sym c.in-Post.is) c.post.ensures.posted

pub returns-in-Take-clause-made : goal.returns-in-Take-clause-made
returns-in-Take-clause-made c = subst (λ (s : Step). IfOk c.take.result (λ told. Does s (world_of c.args.self.now) told (world_of c.take.new.self))) (sym c.in-Take.is) c.take.ensures.taken

pub returns-in-Settle-clause-made : goal.returns-in-Settle-clause-made
returns-in-Settle-clause-made c = subst (λ (s : Step). IfOk c.settle.result (λ told. Does s (world_of c.args.self.now) told (world_of c.settle.new.self))) (sym c.in-Settle.is) c.settle.ensures.settled

pub returns-in-Apply-clause-made : goal.returns-in-Apply-clause-made
returns-in-Apply-clause-made c =
    subst (λ (s : Step). IfOk c.apply.result (λ told. Does s (world_of c.args.self.now) told (world_of c.apply.new.self))) (sym c.in-Apply.is)
    (subst (λ room. IfOk c.apply.result (λ told. AtServer c.in-Apply.server (IsGivenTo (world_of c.args.self.now).known room) (world_of c.args.self.now) told (world_of c.apply.new.self)))
    c.deref.ensures c.apply.ensures.applied)
