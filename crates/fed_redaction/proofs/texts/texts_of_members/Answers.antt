use Rattle.std.proofs.Common.{◌≡◌, sym, ap, ◌∙◌}
use Rattle.serde_json.specs.Data.{member}
use Rattle.fed_json.specs.JsonRef.{seen}
use Rattle.fed_json.specs.Members.{members_left}
use Rattle.fed_redaction.specs.Names.{members_of}
use Rattle.fed_redaction.specs.TextsParts.{completed, covered_members, signed_members, kept_by}
use Rattle.fed_redaction.proofs.texts.texts_of_members.Goals as goal

pub loop-name-preserved : goal.loop-name-preserved
loop-name-preserved c =
    let rest = members_of (members_left c.next.new.self) in
    let value = seen c.in-Some.value in
    let kept = kept_by c.args.rule in
    let here : member c.in-Some.name.now value rest ≡ members_of (members_left c.loop-name.name-iterator) = ap members_of (sym c.in-Some.ensures.steps) in (
      c.in_ok-start.ensures.written rest ∙ ap (completed c.loop-name.whole) here ∙ c.loop-name.invariant.0,
      c.in_ok-signed_with.ensures rest ∙ ap (λ ms. completed c.loop-name.signed (signed_members c.args.version kept ms)) here ∙ c.loop-name.invariant.1,
      c.in_ok-covered_with.ensures value rest (c.text_from-member.ensures ∙ c.in_ok-start.ensures.member) ∙ ap (λ ms. completed c.loop-name.covered (covered_members ms)) here ∙ c.loop-name.invariant.2,
    )
