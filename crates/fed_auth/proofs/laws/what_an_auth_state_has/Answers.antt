use Rattle.std.proofs.Common.{◌∙◌, cond, Ok, sym, ap}
use Rattle.std.specs.FinMap as finite
use Rattle.fed_event.specs.Fields.{auth_events_of}
use Rattle.fed_auth.specs.AuthState.{stored_of, with_all, auth_table, answer_of, auth_state_of}
use Rattle.fed_auth.specs.Table.{decide}
use Rattle.fed_auth.proofs.AuthStates.{entry-answer}
use Rattle.fed_auth.proofs.laws.what_an_auth_state_has.Goals as goal

pub returns : goal.returns
unfolding auth_state_of
returns c events event state kind key other h =
    let auth = stored_of events (auth_events_of event) in
    entry-answer kind key event auth state (sym (ap (λ b. cond b (Ok finite.empty) (answer_of (decide (auth_table event auth)) (with_all finite.empty auth))) other) ∙ h)
