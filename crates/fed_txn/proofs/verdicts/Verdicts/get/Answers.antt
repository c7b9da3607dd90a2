use Rattle.std.proofs.Common.{◌∙◌, ap, sym}
use Rattle.std.specs.FinMap as map
use Rattle.fed_txn.proofs.Entries.{get_map_of}
use Rattle.fed_txn.proofs.verdicts.Verdicts.get.Goals as goal

pub returns-in_err-error : goal.returns-in_err-error
returns-in_err-error c =
    let found = ap (λ v. map.get v c.args.id.now) (sym c.self.view_is) ∙ get_map_of _ c.self.invariant c.args.id.now in
    rw (found, ← c.in_err-error.ensures.value, c.from_residual.ensures)

pub returns-in-Some : goal.returns-in-Some
returns-in-Some c =
    let found = ap (λ v. map.get v c.args.id.now) (sym c.self.view_is) ∙ get_map_of _ c.self.invariant c.args.id.now in
    rw (found, ← c.in_ok-error.ensures.value, c.in-Some.is, c.as_str.ensures.value)

pub returns-in-None : goal.returns-in-None
returns-in-None c =
    let found = ap (λ v. map.get v c.args.id.now) (sym c.self.view_is) ∙ get_map_of _ c.self.invariant c.args.id.now in
    rw (found, ← c.in_ok-error.ensures.value, c.in-None.is)
