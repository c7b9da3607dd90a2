use Rattle.std.proofs.Common.{◌≡◌, List, [], ◌∷◌, ◌++◌, ℕ, ◌<◌, false, length, Some, string_bytes, sym, ap, subst, ◌∙◌, arith}
use Rattle.std.proofs.lemmas.Grind.{common_steps}
use Rattle.std.specs.Str.{bytes_eq}
use Rattle.std.specs.List.{list_any}
use Rattle.std.specs.BTreeMap.{get_by_text}
use Rattle.std.specs.Map.{update}
use Rattle.std.proofs.lemmas.Map.Text.{btree_map_updates_text}
use Rattle.fed_replies.specs.Texts.{Texts}
use Rattle.fed_replies.specs.TextTable.{IsNumbered}
use Rattle.fed_replies.proofs.TextTables.{numbered-same, numbered-push}
use Rattle.fed_replies.proofs.text_table.TextTable.push.Goals as goal

pub invariant_of-self-in_err-insert : goal.invariant_of-self-in_err-insert
invariant_of-self-in_err-insert c =
    subst (λ (ts : Texts). IsNumbered ts c.insert.new.self) (sym c.reserve.ensures.items)
    (numbered-same c.self.inside.texts.items c.self.inside.numbers c.insert.new.self c.self.invariant c.insert.ensures.ordered c.in_err-insert.ensures.err)

pub invariant_of-self-2 : goal.invariant_of-self-2
invariant_of-self-2 c =
    let texts : Texts = c.self.inside.texts.items in
    let text : List ℕ = string_bytes c.in_ok-text.text in
    let numbers = c.self.inside.numbers in
    let number : c.len-number.result ≡ length texts = grind (arith, common_steps) in
    let error : c.in_ok-error.error ≡ text = c.in_ok-error.ensures ∙ sym c.in_ok-text.ensures.ok in
    let is : c.push_reserved.new.self.items ≡ texts ++ text ∷ [] =
    c.push_reserved.ensures.items ∙ ap (λ ts. ts ++ c.in_ok-error.error ∷ []) c.reserve.ensures.items ∙ ap (λ t. texts ++ t ∷ []) error in
    let absent : list_any (bytes_eq text) texts ≡ false =
    ap (λ t. list_any (bytes_eq t) texts) c.in_ok-text.ensures.ok ∙ ap (list_any (bytes_eq c.args.text.now)) c.self.view_is ∙ c.requires.absent in
    let few : length texts < 65535 = subst (λ (ts : Texts). length ts < 65535) (sym c.self.view_is) c.requires.few in
    subst (λ (ts : Texts). IsNumbered ts c.insert.new.self) (sym is) (numbered-push texts text numbers c.insert.new.self c.self.invariant absent few c.insert.ensures.ordered
    (λ q. btree_map_updates_text (string_bytes c.in_ok-text.text) numbers c.insert.new.self (Some c.len-number.result) c.in_ok-insert.ensures.updates q
    ∙ ap (λ n. update bytes_eq (get_by_text numbers) text (Some n) q) number))
