use Rattle.std.proofs.Common.{◌≡◌, true, is_none, option_map, unwrap_or, subst, sym, ◌∙◌, ap}
use Rattle.serde_json.specs.Data.{Data, null}
use Rattle.fed_json.specs.JsonRef.{seen}
use Rattle.fed_event.specs.Fields.{value_at}
use Rattle.fed_event.specs.Tests.{part, has_kind}
use Rattle.fed_event.proofs.Faults.{there_passed, kind_passed}
use Rattle.fed_event.proofs.pdu.Pdu.value_at.Goals as goal

pub returns-clause-kind : goal.returns-clause-kind
returns-clause-kind c =
    let event = c.args.self.now.value in
    let is : seen c.in-Some.value ≡ value_at c.args.field event =
    ap (λ o. unwrap_or (option_map seen o) null) (sym c.in-Some.is) ∙ ap (λ o. unwrap_or o null) c.part.ensures ∙ ap (λ d. value_at c.args.field d) c.json.ensures.value in
    let P : Data → Type 0 = λ d. has_kind c.args.field d ≡ true in
    subst P (sym is) (kind_passed event c.args.field c.json.ensures.passes c.requires)

pub unreachable-requires : goal.unreachable-requires
unreachable-requires c =
    let event = c.args.self.now.value in
    let none : is_none (part c.args.field event) ≡ true =
    ap (λ d. is_none (part c.args.field d)) (sym c.json.ensures.value) ∙ ap is_none (sym c.part.ensures) ∙ ap (λ o. is_none (option_map seen o)) c.in-None.is in
    let some = there_passed event c.args.field c.json.ensures.passes c.requires in
    absurd (cc)
