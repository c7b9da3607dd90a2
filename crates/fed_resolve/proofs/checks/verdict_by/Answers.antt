use Rattle.fed_event.specs.Fields.{auth_events_of}
use Rattle.std.proofs.Common.{◌∙◌}
use Rattle.fed_auth.specs.AuthState.{stored_of}
use Rattle.fed_auth.specs.Selection.{selector_of, selection_keys}
use Rattle.fed_auth.proofs.Deciding.{allowed_alike}
use Rattle.fed_resolve.specs.Checks.{with_keys}
use Rattle.fed_resolve.proofs.Completed.{selected-same}
use Rattle.fed_resolve.proofs.checks.verdict_by.Goals as goal

pub returns : goal.returns
returns c =
    let events = c.args.graph.now.stored in
    let event = c.args.stored.now.event in
    let keys = selection_keys (selector_of event.event) in
    let whole = with_keys (stored_of events (auth_events_of event.event)) c.args.state.now keys in
    c.allowed.ensures ∙ allowed_alike events event c.in_ok-known.known whole (selected-same whole keys c.in_ok-known.known c.in_ok-known.ensures)
