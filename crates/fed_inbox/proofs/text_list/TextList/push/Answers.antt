use Rattle.std.proofs.Common.{◌≡◌, ◌++◌, ◌∷◌, [], ap, ◌∙◌, length, is_ok, if◌then◌else◌}
use Rattle.fed_inbox.specs.TextList.{texts_in}
use Rattle.fed_inbox.proofs.TextLists.{texts_in-push}
use Rattle.fed_inbox.proofs.text_list.TextList.push.Goals as goal

pub returns : goal.returns
returns c =
    let t = c.self.inside in
    let text = c.args.text.now in
    let lengths : c.push.new.self.items ≡ t.lengths.items ++ length text ∷ [] =
    c.push.ensures.items ∙ ap (λ r. if is_ok r then c.reserve.new.self.items ++ length text ∷ [] else c.reserve.new.self.items) c.unwrap.ensures ∙ ap (λ ns. ns ++ length text ∷ []) c.reserve.ensures.items in
    ap (λ ns. texts_in ns c.extend_from_slice.new.self.items) lengths
    ∙ ap (texts_in (t.lengths.items ++ length text ∷ [])) c.in_ok-extend_from_slice.ensures.items
    ∙ texts_in-push t.lengths.items t.bytes.items text c.self.invariant
    ∙ ap (λ texts. texts ++ text ∷ []) c.self.view_is
