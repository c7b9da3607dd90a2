use Rattle.std.proofs.Common.{◌≡◌, List, Some, position, true, subst, sym, ap, ◌∙◌, refl}
use Rattle.std.specs.Str.{bytes_eq}
use Rattle.std.proofs.lemmas.Option.{slice_get_read}
use Rattle.fed_event.specs.EventId.{event_id_of}
use Rattle.fed_room_contract.specs.declared.graph.Stored.{Stored}
use Rattle.fed_room_contract.specs.Graph.{has_id, IsAuthGraph}
use Rattle.fed_room_contract.specs.GraphState.{GraphState}
use Rattle.fed_room_contract.proofs.GraphLinks.{place_known}
use Rattle.fed_room_contract.proofs.graph.Graph.is_at.Goals as goal

pub returns-in-Some : goal.returns-in-Some
returns-in-Some c t =
    let events = c.deref.result.now in
    let one = c.in-Some.stored.now in
    let there = slice_get_read events _ c.args.place one refl c.in-Some.ensures.lookup.3.0 c.in-Some.ensures.lookup.1 in
    let stored = c.deref.ensures.value ∙ ap (λ (g : GraphState). g.stored) c.self.view_is in
    let has : has_id c.args.id.now one ≡ true =
    ap (λ id. bytes_eq id c.args.id.now) (sym (c.as_str.ensures.text ∙ c.id.ensures ∙ ap event_id_of c.event.ensures.event)) ∙ sym c.eq.ensures ∙ t in
    subst (λ (es : List Stored). position (has_id c.args.id.now) es ≡ Some c.args.place) stored
    (place_known events c.args.place one c.args.id.now (subst IsAuthGraph (sym c.deref.ensures.value) c.self.invariant.graph) there has)
