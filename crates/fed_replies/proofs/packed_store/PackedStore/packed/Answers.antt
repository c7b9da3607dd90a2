use Rattle.std.proofs.Common.{List, ℕ, ap, sym, subst, ◌∙◌}
use Rattle.std.specs.List.{count_by}
use Rattle.fed_replies.specs.Forms.{is_packed}
use Rattle.fed_replies.specs.PackedReply.{ArePacked}
use Rattle.fed_replies.specs.PackedStore.{replies_in}
use Rattle.fed_replies.specs.PackedReplies.{PackedReplies}
use Rattle.fed_replies.proofs.packed_store.PackedStore.packed.Goals as goal

pub returns : goal.returns
returns c =
    let content = c.self.inside.pieces in
    let forms = c.self.inside.forms.items in (
      content.texts,
      subst (λ (rs : List (List ℕ)). ArePacked rs content.texts c.packed_count.result) (ap (λ (s : PackedReplies). s.replies) c.self.view_is)
          (subst (λ n. ArePacked (replies_in content forms) content.texts n) (sym (c.packed_count.ensures ∙ ap (count_by is_packed) c.deref.ensures.value)) c.self.invariant.counted),
    )
