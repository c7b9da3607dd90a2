use Rattle.std.proofs.Common.{◌<◌, codes, ap, ◌∙◌, subst, sym, arith}
use Rattle.serde_json.specs.Data.{Data, depth, members_depth}
use Rattle.serde_json.specs.Read.{max_depth}
use Rattle.fed_json.specs.JsonRef.{seen}
use Rattle.fed_json.specs.Members.{members_left}
use Rattle.fed_redaction.specs.Names.{is_one_of, members_of}
use Rattle.fed_redaction.specs.Version.{event_keys}
use Rattle.fed_redaction.specs.Redaction.{kept_content, redacted_members}
use Rattle.fed_redaction.specs.TextsParts.{kept_by, put_all}
use Rattle.fed_redaction.proofs.Building.{put_all-rises, Rises-select, Rises-at_name, Rises-left}
use Rattle.fed_redaction.proofs.Parts.{kept_content-depth}
use Rattle.fed_redaction.proofs.redaction.redacted_object.Goals as goal
use Rattle.fed_redaction.proofs.redaction.redacted_object.Goals.{then-eq+in_ok-member, else-eq+in_ok-member-2}

pub loop-name-init : goal.loop-name-init
loop-name-init c =
    let members = c.args.members in
    let version = c.args.version in
    let kept = kept_by c.args.rule in
    let whole = c.into_iter-name-iterator.ensures.into_iter_gives in
    record {
      goes = (tt, tt);
      low = subst (λ s. members_depth (members_of (members_left s)) < max_depth) (sym whole) c.requires;
      done =
          ap (λ s. put_all (redacted_members version kept (members_of (members_left s))) c.empty_object-event.result) whole
          ∙ ap (put_all (redacted_members version kept (members_of (members_left members)))) c.empty_object-event.ensures
          ∙ put_all-rises _ (Rises-at_name (codes "content") (kept_content kept) _ (Rises-select (is_one_of (event_keys version)) _ (Rises-left members)));
    }

pub put-requires : goal.put-requires
put-requires c =
    let d = seen c.in-Some.value in
    let here = ap (λ ps. members_depth (members_of ps)) c.in-Some.ensures.steps in
    let low : depth d < max_depth = omega (arith, here, c.loop-name.invariant.low) in
    let P : Data → Type 0 = λ member. depth member < max_depth in
    elim c.if-eq.branch [
      | then-eq+in_ok-member w ↦ subst P (sym (w.member-is ∙ w.in_ok-member.ensures)) (kept_content-depth (kept_by c.args.rule) d low)
      | else-eq+in_ok-member-2 w ↦ subst P (sym (w.member-is ∙ w.in_ok-member-2.ensures)) low
    ]
