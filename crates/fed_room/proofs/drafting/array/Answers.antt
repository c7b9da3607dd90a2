use Rattle.std.proofs.Common.{◌∙◌}
use Rattle.fed_room.proofs.Arrays.{with_ids, with_ids-all}
use Rattle.fed_room.proofs.drafting.array.Goals as goal

pub loop-id-init : goal.loop-id-init
loop-id-init c = (λ i. with_ids (c.into_iter-id-iterator.ensures.into_iter_gives.0 i) (c.empty_array-array.ensures i)) ∙ with_ids-all c.args.ids.items
