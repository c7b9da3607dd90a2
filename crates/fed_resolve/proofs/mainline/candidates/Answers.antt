use Rattle.std.proofs.Common.{arith, rules}
use Rattle.std.proofs.lemmas.Grind.{common_steps}
use Rattle.std.proofs.lemmas.List.Elements.{All-push, All-same}
use Rattle.fed_resolve.specs.Mainline.{mainline}
use Rattle.fed_resolve.specs.RankParts.{IsMainlineCandidate}
use Rattle.fed_resolve.proofs.mainline.candidates.Goals as goal

pub loop-place-preserved : goal.loop-place-preserved
loop-place-preserved c = record {
  places = first_of (search rules, grind (arith, common_steps));
  each = λ levels are.
      let line = mainline c.args.graph.now.stored levels in
      All-same (IsMainlineCandidate c.args.graph.now.stored line) c.push.new.self.items _ c.in_ok-push.ensures.items
      (All-push (IsMainlineCandidate c.args.graph.now.stored line) c.loop-place.candidates.items _ (c.loop-place.invariant.each levels are)
      (record { rank = c.rank-rank.ensures levels are; after = c.new-after.ensures.items }));
}
