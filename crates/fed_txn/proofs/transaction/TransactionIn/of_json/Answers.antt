use Rattle.std.proofs.Common.{◌≡◌, ◌∙◌, ap, sym, codes, arith, rules, to_z, of_z, w64}
use Rattle.std.proofs.lemmas.Int.{ints, to_z-of_z}
use Rattle.serde_json.specs.Find.{get}
use Rattle.fed_txn.specs.Transaction.{items_or_empty}
use Rattle.fed_txn.proofs.Bodies.{get-without, items_there, transaction_of-form}
use Rattle.fed_txn.proofs.transaction.TransactionIn.of_json.Goals as goal

pub take_items-requires-2 : goal.take_items-requires-2
take_items-requires-2 c = rw (ap (get (codes "edus")) c.take_items.ensures.rest ∙ get-without (codes "edus") (codes "pdus") c.args.body (λ e. cc)) c.in_ok-origin.ensures.ok.edus

pub returns-clause-ok : goal.returns-clause-ok
returns-clause-ok c =
    let form = c.in_ok-origin.ensures.ok in
    let pdus = items_there _ _ c.in_ok-pdus.ensures.items form.pdus in
    let edus = sym (ap items_or_empty (ap (get (codes "edus")) c.take_items.ensures.rest ∙ get-without (codes "edus") (codes "pdus") c.args.body (λ e. cc))) ∙ c.in_ok-edus.ensures.items in
    let whole = transaction_of-form c.args.body _ _ _ _ form pdus edus in
    let origin = c.in_ok-origin-2.ensures.ok in
    let at : to_z w64 (of_z w64 c.in_ok-origin.at_ms) ≡ c.in_ok-origin.at_ms = first_of (omega (arith, ints), grind (arith, to_z-of_z), search (rules, to_z-of_z)) in
    whole ∙ rw (origin, at)
