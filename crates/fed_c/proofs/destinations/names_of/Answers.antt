use Rattle.std.proofs.Common.{◌≡◌, ◌∷◌, ◌++◌, [], All, map, sym, ap, subst, ◌∙◌, arith}
use Rattle.std.proofs.lemmas.List.Elements.{All-append, All-cons}
use Rattle.serde_json.specs.Data.{string}
use Rattle.fed_json.specs.Items.{left}
use Rattle.fed_json.specs.JsonRef.{seen}
use Rattle.fed_dest.specs.ServerName.{IsServerName}
use Rattle.fed_c.proofs.Servers.{fault_passed, has_no_names, one_more}
use Rattle.fed_c.proofs.destinations.names_of.Goals as goal

pub returns-in_err-name-clause-fault : goal.returns-in_err-name-clause-fault
returns-in_err-name-clause-fault c =
    let before = c.loop-item.names.items in
    let read : left c.args.items ≡ map string before ++ seen c.in-Some.item ∷ left c.next.new.self = c.loop-item.invariant.read ∙ ap (λ ds. map string before ++ ds) c.in-Some.ensures.steps in
    fault_passed (left c.args.items) c.from_residual.result c.in_err-name.field-0.0 c.from_residual.ensures.1 (λ other.
    let none = c.in_err-name.ensures.fault other in
    (none.0, has_no_names (left c.args.items) before (seen c.in-Some.item) (left c.next.new.self) read none.1))

pub loop-item-preserved : goal.loop-item-preserved
loop-item-preserved c =
    let before = c.loop-item.names.items in
    let name = c.in_ok-name.name in
    let added : c.add.new.names.items ≡ before ++ name ∷ [] = c.in_ok-add.ensures in
    let alone : All IsServerName (name ∷ []) = All-cons IsServerName name [] c.in_ok-name.ensures.name (λ k d within. absurd (omega arith)) in
    record {
      read = c.loop-item.invariant.read ∙ ap (λ ds. map string before ++ ds) c.in-Some.ensures.steps
          ∙ one_more before name (seen c.in-Some.item) (left c.next.new.self) c.in_ok-name.ensures.ok ∙ ap (λ names. map string names ++ left c.next.new.self) (sym added);
      each = subst (All IsServerName) (sym added) (All-append IsServerName before (name ∷ []) c.loop-item.invariant.each alone);
    }
