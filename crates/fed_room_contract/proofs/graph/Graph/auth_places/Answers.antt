use Rattle.std.proofs.Common.{◌≡◌, ◌<◌, List, map, length, ap, subst, ◌∙◌}
use Rattle.fed_room_contract.specs.declared.graph.Stored.{Stored}
use Rattle.fed_room_contract.specs.Graph.{IsAuthGraph, auth_links, auth_places_at}
use Rattle.fed_room_contract.specs.GraphState.{GraphState}
use Rattle.std.proofs.lemmas.List.Elements.{All-same}
use Rattle.fed_room_contract.proofs.GraphLinks.{auths-at, auths-before, auths-within}
use Rattle.fed_room_contract.proofs.graph.Graph.auth_places.Goals as goal

pub returns : goal.returns
returns c =
    let inside = c.self.inside.events.items in
    let events = c.args.self.now.stored in
    let stored : inside ≡ events = ap (λ (g : GraphState). g.stored) c.self.view_is in
    let graph : IsAuthGraph events = subst IsAuthGraph stored c.self.invariant.graph in
    let here =
    c.get.ensures (map (auth_links inside) inside) c.self.invariant.auths ∙ auths-at inside c.args.place ∙ ap (λ (es : List Stored). auth_places_at es c.args.place) stored in
    record {
      places = here;
      before = All-same (λ a. a < c.args.place) c.get.result.now (auth_places_at events c.args.place) here (auths-before events c.args.place graph);
      within = All-same (λ a. a < length events) c.get.result.now (auth_places_at events c.args.place) here (auths-within events c.args.place graph);
    }
