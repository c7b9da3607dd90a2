use Rattle.std.proofs.Common.{◌≡◌, ◌≤◌, Some, IfSome, arith, sym, ◌∙◌, subst}
use Rattle.serde_json.specs.Data.{depth}
use Rattle.fed_json.specs.JsonRef.{seen}
use Rattle.fed_redaction.specs.Redaction.{signed_alone}
use Rattle.fed_redaction.proofs.Parts.{signed_alone-depth}
use Rattle.fed_redaction.proofs.redaction.put_kept.Goals as goal

pub put-requires-2 : goal.put-requires-2
put-requires-2 c =
    let d = seen c.args.value in
    let there : signed_alone d ≡ Some c.in-Some.part = sym c.in_ok-part.ensures ∙ c.in-Some.is in
    let low : depth c.in-Some.part ≤ depth d = subst (λ o. IfSome o (λ v. depth v ≤ depth d)) there (signed_alone-depth d) in
    omega (arith, low, c.requires)
