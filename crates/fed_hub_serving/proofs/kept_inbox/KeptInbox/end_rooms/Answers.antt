use Rattle.std.proofs.Common.{◌≡◌, ℕ, true, length, List, Option, sym, ap, ◌∙◌, subst}
use Rattle.fed_hub_serving.specs.declared.end_place.EndPlace.{EndPlace}
use Rattle.fed_hub_serving.specs.Brought.{end_place}
use Rattle.fed_hub_serving.specs.Serving.{ServingState, ended_in, with_rooms_ended}
use Rattle.fed_hub_serving.specs.Wires.{WiresState, AreSent, all_ended}
use Rattle.fed_hub_serving.proofs.Sent.{all_end}
use Rattle.fed_hub_serving.proofs.KeptStates.{places_at_end}
use Rattle.fed_hub_serving.proofs.kept_inbox.KeptInbox.end_rooms.Goals as goal

pub invariant_of-self : goal.invariant_of-self
invariant_of-self g c =
    let k = c.self.inside in
    let here : c.len-points.result ≡ length k.points.items = c.len-points.ensures ∙ k.points.ok.0 in
    record {
      history = c.self.invariant.history;
      server = c.self.invariant.server;
      sent =
          subst (AreSent g.N.ServingNaming.rooms g.N.ServingNaming.known k.points.items) (sym (c.end_all.ensures ∙ ap (λ (n : ℕ). all_ended (end_place n 0) k.wires) here))
          (all_end g.N.ServingNaming.rooms g.N.ServingNaming.known k.points.items k.wires c.self.invariant.sent);
    }

pub returns : goal.returns
returns g c =
    let k = c.self.inside in
    let here : c.len-points.result ≡ length k.points.items = c.len-points.ensures ∙ k.points.ok.0 in
    let wires = c.end_all.ensures ∙ ap (λ (n : ℕ). all_ended (end_place n 0) k.wires) here in
    ap (λ (w : WiresState). record { inbox = k.inbox.state; points = k.points.items; ended = ended_in w; is_shut = w.is_shut }) wires
    ∙ ap (λ (es : List (Option EndPlace)). record { inbox = k.inbox.state; points = k.points.items; ended = es; is_shut = true }) (places_at_end (end_place (length k.points.items) 0) k.wires.wires)
    ∙ ap with_rooms_ended c.self.view_is
