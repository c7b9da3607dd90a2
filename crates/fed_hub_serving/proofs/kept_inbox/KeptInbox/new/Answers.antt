use Rattle.std.proofs.Common.{◌≡◌, [], false, List, Option, sym, ap, ◌∙◌, subst}
use Rattle.fed_inbox.specs.History.{Point, IsHistory, begun}
use Rattle.fed_inbox.specs.Inbox.{InboxState}
use Rattle.fed_hub_serving.specs.declared.end_place.EndPlace.{EndPlace}
use Rattle.fed_hub_serving.specs.Serving.{ended_in, IsServing}
use Rattle.fed_hub_serving.specs.Wires.{WiresState, AreSent}
use Rattle.fed_hub_serving.proofs.Sent.{none_sent}
use Rattle.fed_hub_serving.proofs.KeptStates.{none_ended}
use Rattle.fed_hub_serving.proofs.kept_inbox.KeptInbox.new.Goals as goal

pub invariant_of-result : goal.invariant_of-result
invariant_of-result g c =
    let N = g.N.ServingNaming in
    let inbox = c.args.inbox.state in
    subst (λ (ps : List Point). IsServing N.rooms N.known N.checks N.receiver N.beginning ps inbox c.in_ok-wires.wires) (sym c.new-2.ensures.items)
    (record {
      history = subst (λ (b : InboxState). IsHistory N.checks b [] inbox) c.requires.beginning begun;
      server = c.requires.receiver;
      sent = subst (AreSent N.rooms N.known []) (sym c.in_ok-wires.ensures) (none_sent N.rooms N.known c.args.ends.items c.requires.wires c.requires.unused);
    })

pub returns : goal.returns
returns g c =
    let inbox = c.args.inbox.state in
    let wires = c.in_ok-wires.wires in
    ap (λ (ps : List Point). record { inbox = inbox; points = ps; ended = ended_in wires; is_shut = wires.is_shut }) c.new-2.ensures.items
    ∙ ap (λ (w : WiresState). record { inbox = inbox; points = []; ended = ended_in w; is_shut = w.is_shut }) c.in_ok-wires.ensures
    ∙ ap (λ (es : List (Option EndPlace)). record { inbox = inbox; points = []; ended = es; is_shut = false }) (none_ended c.args.ends.items)
