use Rattle.std.proofs.Common.{sym, ap, ◌∙◌}
use Rattle.fed_json.specs.Members.{members_left}
use Rattle.fed_redaction.specs.Names.{keep, members_of}
use Rattle.fed_redaction.specs.Redaction.{kept_value}
use Rattle.fed_redaction.specs.TextsParts.{completed, kept_by}
use Rattle.fed_redaction.proofs.signed.with_kept.Goals as goal

pub loop-name-preserved : goal.loop-name-preserved
loop-name-preserved c =
    let left = kept_value (kept_by c.args.rule) in
    let here = ap members_of (sym c.in-Some.ensures.steps) in
    c.in_ok-add_kept.ensures (members_of (members_left c.next.new.self)) ∙ ap (λ ms. completed c.loop-name.kept (keep left ms)) here ∙ c.loop-name.invariant
