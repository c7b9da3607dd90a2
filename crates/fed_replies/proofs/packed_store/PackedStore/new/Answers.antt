use Rattle.std.proofs.Common.{[], ap, ◌∙◌}
use Rattle.std.specs.FinMap as finite
use Rattle.fed_replies.specs.PackedReplies.{PackedReplies}
use Rattle.fed_replies.proofs.Stored.{none_stored, stored-same, seen-same}
use Rattle.fed_replies.proofs.OtherValues.{no_places}
use Rattle.fed_replies.proofs.packed_store.PackedStore.new.Goals as goal

pub invariant_of-result : goal.invariant_of-result
invariant_of-result c = stored-same finite.empty c.new.result _ c.new-3.result [] c.new-2.result.items c.new.ensures c.new-3.ensures c.new-2.ensures.items none_stored

pub returns-clause-kept : goal.returns-clause-kept
returns-clause-kept c = ap (λ (s : PackedReplies). s.kept) (seen-same finite.empty c.new.result _ c.new-3.result [] c.new-2.result.items c.new.ensures c.new-3.ensures c.new-2.ensures.items) ∙ no_places []

pub returns-clause-replies : goal.returns-clause-replies
returns-clause-replies c = ap (λ (s : PackedReplies). s.replies) (seen-same finite.empty c.new.result _ c.new-3.result [] c.new-2.result.items c.new.ensures c.new-3.ensures c.new-2.ensures.items)
