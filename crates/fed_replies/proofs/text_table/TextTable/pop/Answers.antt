use Rattle.std.proofs.Common.{◌≡◌, List, [], ◌∷◌, ◌++◌, ℕ, None, ap, subst, ◌∙◌}
use Rattle.std.specs.Str.{bytes_eq}
use Rattle.std.specs.BTreeMap.{get_by_text}
use Rattle.std.specs.Map.{update}
use Rattle.std.proofs.lemmas.Map.Text.{btree_map_updates_text}
use Rattle.fed_replies.specs.Texts.{Texts}
use Rattle.fed_replies.specs.TextTable.{IsNumbered}
use Rattle.fed_replies.proofs.TextTables.{numbered-pop}
use Rattle.fed_replies.proofs.text_table.TextTable.pop.Goals as goal

pub invariant_of-self : goal.invariant_of-self
invariant_of-self c =
    let text : List ℕ = c.take_last-text.result in
    let rest : Texts = c.take_last-text.new.self.items in
    let numbers = c.self.inside.numbers in
    let is : c.self.inside.texts.items ≡ rest ++ text ∷ [] = c.take_last-text.ensures.items in
    numbered-pop rest text numbers c.remove.new.self (subst (λ (ts : Texts). IsNumbered ts numbers) is c.self.invariant) c.remove.ensures.ordered
    (λ q. btree_map_updates_text c.as_str.result.now numbers c.remove.new.self None c.remove.ensures.updates q ∙ ap (λ bs. update bytes_eq (get_by_text numbers) bs None q) c.as_str.ensures)
