use Rattle.std.proofs.Common.{ℕ, List, [], ◌∷◌, ◌++◌, cond, Option, Bor, option_map, bytes_eq, sym, ◌∙◌, ap}
use Rattle.std.specs.List.{list_any}
use Rattle.fed_auth.specs.Selection.{with_id}
use Rattle.fed_auth.proofs.selector.add.Goals as goal

pub returns-then-contains : goal.returns-then-contains
unfolding with_id
returns-then-contains c =
    let items = c.args.ids.now.items in
    let id = c.in-Some.id.now in
    ap (λ b. cond b items (items ++ id ∷ [])) (c.if-contains.ensures.value ∙ ap (list_any (λ known. bytes_eq known id)) c.deref.ensures.value)
    ∙ ap (λ (o : Option (Bor (List ℕ))). with_id items (option_map (λ x. x.now) o)) (sym c.in-Some.is)
