use Rattle.std.proofs.Common.{◌∙◌, ap, option_map, unwrap_or}
use Rattle.fed_event.specs.Fields.{content_of}
use Rattle.fed_auth.specs.declared.membership.Membership.TheVariants.{Other}
use Rattle.fed_auth.specs.Membership.{membership_in}
use Rattle.fed_auth.specs.StateView.{membership_of}
use Rattle.fed_auth.proofs.state_view.StateView.membership.Goals as goal

pub returns-in-Some : goal.returns-in-Some
unfolding membership_of
returns-in-Some c =
    c.of_content.ensures ∙ ap membership_in c.content.ensures
    ∙ ap (λ o. unwrap_or (option_map (λ event. membership_in (content_of event)) o) Other) c.in-Some.ensures

pub returns-in-None : goal.returns-in-None
unfolding membership_of
returns-in-None c = ap (λ o. unwrap_or (option_map (λ event. membership_in (content_of event)) o) Other) c.in-None.ensures
