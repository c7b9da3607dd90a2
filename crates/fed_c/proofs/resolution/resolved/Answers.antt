use Rattle.std.proofs.Common.{◌≡◌, ◌∙◌, Ok, ap, sym}
use Rattle.fed_json.specs.CanonicalText.{canonical_text}
use Rattle.fed_redaction.specs.declared.version.Version.{Version}
use Rattle.fed_resolve.specs.Resolution.{resolved_of}
use Rattle.fed_c.specs.Resolution.{ids_value, resolved_answer}
use Rattle.fed_c.specs.Results.{and_then}
use Rattle.fed_c.specs.Values.{value_of}
use Rattle.fed_c.proofs.Rooms.{resolved_gives}
use Rattle.fed_c.proofs.resolution.resolved.Goals as goal

pub returns-clause-ok : goal.returns-clause-ok
returns-clause-ok c =
    let stored = c.in_ok-graph.graph.stored in
    let made : c.in_ok-canonical.field-0.items ≡ canonical_text (ids_value (resolved_of stored c.in_ok-states.states.items)) =
    c.in_ok-canonical.ensures.exact ∙ ap canonical_text (c.in_ok-ids_of.ensures ∙ ap ids_value (c.in_ok-state.ensures ∙ ap (resolved_of stored) c.deref.ensures.value)) in
    let answer = λ (v : Version). resolved_answer v (value_of c.args.events.now) (value_of c.args.rejected.now) (value_of c.args.given.now) in
    ap (λ known. and_then known answer) c.in_ok-version.ensures.ok
    ∙ resolved_gives c.in_ok-version.version (value_of c.args.events.now) (value_of c.args.rejected.now) (value_of c.args.given.now) c.in_ok-rejected.rejected stored c.in_ok-states.states.items
    c.in_ok-rejected.ensures.ok c.in_ok-graph.ensures.ok c.in_ok-states.ensures.ok ∙ ap Ok (sym made)
