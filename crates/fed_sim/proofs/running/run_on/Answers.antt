use Rattle.std.proofs.Common.{arith, ◌++◌, ◌∷◌, length, List, take, [], slice_index_or, sym, ap, ◌∙◌, subst}
use Rattle.std.proofs.lemmas.List.{take_more, take_all, length-append}
use Rattle.fed_sim.specs.declared.outcome.Outcome.{Outcome}
use Rattle.fed_sim.specs.declared.step.Step.{Step}
use Rattle.fed_sim.specs.Steps.{Makes, Ran, begun, next}
use Rattle.fed_sim.specs.WorldParts.{world_of}
use Rattle.fed_sim.proofs.Packets.{if_ok}
use Rattle.fed_sim.proofs.running.run_on.Goals as goal

pub loop-step-init : goal.loop-step-init
loop-step-init g c = (
  c.in_ok-replies.ensures.len,
  c.in_ok-replies.ensures.capacity,
  subst (λ (rs : List Outcome). Ran (world_of c.args.world) [] rs (world_of c.args.world)) (sym c.in_ok-replies.ensures.items) begun,
)

pub loop-step-preserved : goal.loop-step-preserved
loop-step-preserved g c =
    let i = c.loop-step.step-index in
    let steps = c.args.steps.now in
    let more = if_ok c.push.result _ _ _ _ c.unwrap.ensures c.push.ensures.items in
    let longer = ap length more ∙ length-append c.loop-step.replies.items _ in
    let size = c.push.new.self.ok.0 in
    let before = c.loop-step.replies.ok.0 in
    let count = c.loop-step.invariant.0 in
    let room = c.loop-step.invariant.1 in (
      omega (arith, longer, size, before, count),
      omega (arith, room, c.push.ensures.capacity),
      subst (λ (ss : List Step). Ran (world_of c.args.world) ss c.push.new.self.items (world_of c.step-outcome.new.self)) (sym (take_more steps i c.step-item.result c.loop-step-test.true))
          (subst (λ (rs : List Outcome). Ran (world_of c.args.world) (take i steps ++ slice_index_or steps i c.step-item.result ∷ []) rs (world_of c.step-outcome.new.self)) (sym more)
          (next (take i steps) c.loop-step.replies.items (world_of c.loop-step.world) (world_of c.step-outcome.new.self) (slice_index_or steps i c.step-item.result) c.step-outcome.result c.loop-step.invariant.2
          (subst (λ (s : Step). Makes s (world_of c.loop-step.world) c.step-outcome.result (world_of c.step-outcome.new.self)) c.step-item.is c.step-outcome.ensures))),
    )

pub returns-clause-ran : goal.returns-clause-ran
returns-clause-ran g c =
    subst (λ (ss : List Step). Ran (world_of c.args.world) ss c.loop-step.replies.items (world_of c.loop-step.world)) (take_all c.loop-step.step-index c.args.steps.now c.loop-step-test.false) c.loop-step.invariant.2

pub returns-clause-headline : goal.returns-clause-headline
returns-clause-headline g c setup begins =
    c.runs_deliver.ensures.headline setup c.args.steps.now c.loop-step.replies.items (world_of c.loop-step.world) (record {
      begin = world_of c.args.world;
      begins = begins;
      ran = subst (λ (ss : List Step). Ran (world_of c.args.world) ss c.loop-step.replies.items (world_of c.loop-step.world)) (take_all c.loop-step.step-index c.args.steps.now c.loop-step-test.false)
          c.loop-step.invariant.2;
    })
