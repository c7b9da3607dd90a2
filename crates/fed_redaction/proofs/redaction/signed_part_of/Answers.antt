use Rattle.std.proofs.Common.{◌≡◌, ◌≤◌, Some, IfSome, option_map, codes, arith, sym, ap, ◌∙◌, subst}
use Rattle.serde_json.specs.Data.{depth}
use Rattle.serde_json.specs.Find.{get}
use Rattle.fed_json.specs.JsonRef.{seen}
use Rattle.fed_redaction.proofs.Parts.{get-depth}
use Rattle.fed_redaction.proofs.redaction.signed_part_of.Goals as goal

pub put-requires : goal.put-requires
put-requires c =
    let d = seen c.args.value in
    let there : get (codes "signed") d ≡ Some (seen c.in-Some.signed) = sym c.member.ensures ∙ ap (option_map seen) c.in-Some.is in
    let low : depth (seen c.in-Some.signed) ≤ depth d = subst (λ o. IfSome o (λ v. depth v ≤ depth d)) there (get-depth (codes "signed") d) in
    let same = ap depth c.in_ok-to_json.ensures in
    omega (arith, low, same, c.requires)
