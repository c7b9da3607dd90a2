use Rattle.std.proofs.Common.{sym, subst, ap, ◌∙◌}
use Rattle.fed_json.specs.Tree.{view, items_view}
use Rattle.fed_json.specs.Profile.{AreWithin}
use Rattle.fed_json.proofs.Parts.{within_after}
use Rattle.fed_json.proofs.Trees.{items_view-after}
use Rattle.fed_json.proofs.value.push_item.Goals as goal

pub returns-clause-ok : goal.returns-clause-ok
returns-clause-ok c = ap items_view c.in_ok-push.ensures.items ∙ items_view-after c.args.items.now.items c.args.value

pub returns-clause-within : goal.returns-clause-within
returns-clause-within c n value items =
    subst (AreWithin n) (sym (returns-clause-ok c)) (within_after n (view c.args.value) (items_view c.args.items.now.items) value items)
