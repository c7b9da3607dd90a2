use Rattle.std.proofs.Common.{◌∙◌, ap, option_map, unwrap_or}
use Rattle.fed_event.specs.Fields.{content_of}
use Rattle.fed_auth.specs.declared.join_rule.JoinRule.TheVariants.{Invite}
use Rattle.fed_auth.specs.JoinRule.{join_rule_in}
use Rattle.fed_auth.specs.StateView.{room_join_rule}
use Rattle.fed_auth.proofs.state_view.StateView.join_rule.Goals as goal

pub returns-in-Some : goal.returns-in-Some
unfolding room_join_rule
returns-in-Some c =
    c.of_content.ensures ∙ ap join_rule_in c.content.ensures
    ∙ ap (λ o. unwrap_or (option_map (λ event. join_rule_in (content_of event)) o) Invite) c.in-Some.ensures

pub returns-in-None : goal.returns-in-None
unfolding room_join_rule
returns-in-None c = ap (λ o. unwrap_or (option_map (λ event. join_rule_in (content_of event)) o) Invite) c.in-None.ensures
