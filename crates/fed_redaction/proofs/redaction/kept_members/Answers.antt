use Rattle.std.proofs.Common.{◌<◌, arith, ap, ◌∙◌, subst, sym}
use Rattle.serde_json.specs.Data.{members_depth}
use Rattle.serde_json.specs.Read.{max_depth}
use Rattle.fed_json.specs.Members.{members_left}
use Rattle.fed_redaction.specs.Names.{keep, members_of}
use Rattle.fed_redaction.specs.Redaction.{kept_value}
use Rattle.fed_redaction.specs.TextsParts.{kept_by, put_all}
use Rattle.fed_redaction.proofs.Building.{put_all-rises, Rises-keep, Rises-left}
use Rattle.fed_redaction.proofs.redaction.kept_members.Goals as goal

pub loop-name-init : goal.loop-name-init
loop-name-init c =
    let members = c.args.members in
    let left = kept_value (kept_by c.args.rule) in
    let whole = c.into_iter-name-iterator.ensures.into_iter_gives in
    record {
      goes = (tt, tt);
      low = subst (λ s. members_depth (members_of (members_left s)) < max_depth) (sym whole) c.requires;
      done =
          ap (λ s. put_all (keep left (members_of (members_left s))) c.empty_object-kept.result) whole
          ∙ ap (put_all (keep left (members_of (members_left members)))) c.empty_object-kept.ensures
          ∙ put_all-rises _ (Rises-keep left _ (Rises-left members));
    }

pub loop-name-preserved : goal.loop-name-preserved
loop-name-preserved c =
    let left = kept_value (kept_by c.args.rule) in
    let rest = members_of (members_left c.next.new.self) in
    let here = ap members_of (sym c.in-Some.ensures.steps) in
    let deep = ap members_depth here in
    record {
      goes = (tt, tt);
      low = omega (arith, deep, c.loop-name.invariant.low);
      done = c.in_ok-put_kept.ensures rest ∙ ap (λ ms. put_all (keep left ms) c.loop-name.kept) here ∙ c.loop-name.invariant.done;
    }
