use Rattle.std.proofs.Common.{◌≡◌, ◌∙◌, ap, sym, false, option_map, string_bytes}
use Rattle.std.specs.FinMap as map
use Rattle.fed_txn.proofs.Entries.{map_of_insert, with_verdict_new}
use Rattle.fed_txn.proofs.verdicts.Verdicts.insert.Goals as goal

pub invariant_of-self-then-not-contains : goal.invariant_of-self-then-not-contains
invariant_of-self-then-not-contains c = c.insert.ensures.ordered

pub returns-in_ok-insert-clause-ok : goal.returns-in_ok-insert-clause-ok
returns-in_ok-insert-clause-ok c =
    let id = string_bytes c.args.id in
    let error = option_map string_bytes c.args.error in
    let absent : map.contains_key c.args.self.now id ≡ false = cc (c.deref.ensures, c.contains.ensures, c.if-not-contains.true) in
    map_of_insert _ _ c.args.id c.args.error c.self.invariant c.insert.ensures.ordered c.in_ok-insert.ensures.entries ∙ ap (λ v. map.insert v id error) c.self.view_is ∙ sym (with_verdict_new c.args.self.now id error absent)
