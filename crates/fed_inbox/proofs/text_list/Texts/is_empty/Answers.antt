use Rattle.std.proofs.Common.{◌==◌, ap, sym, ◌∙◌}
use Rattle.fed_inbox.proofs.TextLists.{texts_in-length}
use Rattle.fed_inbox.proofs.text_list.Texts.is_empty.Goals as goal

pub returns : goal.returns
returns c = c.is_empty.ensures ∙ ap (λ n. n == 0) (sym (texts_in-length c.args.self.now.lengths.now c.args.self.now.bytes.now))
