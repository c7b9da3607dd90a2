use Rattle.std.proofs.Common.{◌≡◌, ◌++◌, ◌∷◌, [], ℕ, is_ok, if◌then◌else◌, List, length, sym, ap, ◌∙◌, subst}
use Rattle.fed_event.specs.Checked.{CheckedEvent}
use Rattle.fed_http.specs.Message.{Answer}
use Rattle.fed_inbox.specs.History.{Point}
use Rattle.fed_inbox.specs.Inbox.{InboxState}
use Rattle.fed_inbox.specs.WholeRequest.{IsAnsweredWhole}
use Rattle.fed_hub_serving.specs.declared.bound.Bound.{Bound}
use Rattle.fed_hub_serving.specs.JudgedRequest.{fresh_of}
use Rattle.fed_hub_serving.specs.Sections.{IsServed}
use Rattle.fed_hub_serving.specs.Serving.{ServingState, ended_in, IsServing}
use Rattle.fed_hub_serving.specs.Spreading.{SpreadAll}
use Rattle.fed_hub_serving.specs.WireRoom.{HaveRoom}
use Rattle.fed_hub_serving.proofs.WireRooms.{room_of_sent, full_named}
use Rattle.fed_hub_serving.proofs.KeptStates.{goes_as_bound, goes_on_serving, is_served, still_serving, same_state, on_err}
use Rattle.fed_hub_serving.proofs.Takes.{answers_request, still_of_server}
use Rattle.fed_hub_serving.proofs.kept_inbox.KeptInbox.serve.Goals as goal

pub pass_all_on-requires-clause-bound : goal.pass_all_on-requires-clause-bound
pass_all_on-requires-clause-bound g c =
    let so = c.in_ok-reply.field-0 in
    let value = c.deref-2.ensures.value in
    (goes_as_bound g.N.ServingNaming.known so.fresh.items (fresh_of c.args.judged.comes_to) c.args.judged.bound.items c.all_or_none-bound.result.items c.requires.bound c.in_ok-reply.ensures.fresh
    (λ none. c.all_or_none-bound.ensures.none (value ∙ none)) (λ some. c.all_or_none-bound.ensures.all (λ none. some (sym value ∙ none)))).0

pub pass_all_on-requires-clause-room : goal.pass_all_on-requires-clause-room
pass_all_on-requires-clause-room g c =
    let value = c.deref-2.ensures.value in
    room_of_sent c.in_ok-reply.field-0.fresh.items c.args.judged.bound.items c.all_or_none-bound.result.items c.full_among.new.self.wires
    (λ nothing. c.all_or_none-bound.ensures.none (value ∙ nothing)) (λ some. c.all_or_none-bound.ensures.all (λ nothing. some (sym value ∙ nothing)))
    (subst (λ (bound : List Bound). HaveRoom bound c.full_among.new.self.wires) c.deref.ensures.value c.in_default.ensures.full)

pub invariant_of-self-2 : goal.invariant_of-self-2
invariant_of-self-2 g c =
    let N = g.N.ServingNaming in
    let k = c.self.inside in
    let so = c.in_ok-reply.field-0 in
    let request = c.args.judged.request in
    let new = c.answer.new.inbox.state in
    let now = c.pass_all_on.new.self in
    let before_it = c.full_among.new.self in
    let point : Point = record { request = request; reply = so.copy; fresh = so.fresh.items } in
    let before = c.in_ok-reserve.ensures.items in
    let count : c.len-points.result ≡ length k.points.items = c.len-points.ensures ∙ c.reserve.new.self.ok.0 ∙ ap length before in
    let value = c.deref-2.ensures.value in
    let bound = goes_as_bound N.known so.fresh.items (fresh_of c.args.judged.comes_to) c.args.judged.bound.items c.all_or_none-bound.result.items c.requires.bound c.in_ok-reply.ensures.fresh
    (λ none. c.all_or_none-bound.ensures.none (value ∙ none)) (λ some. c.all_or_none-bound.ensures.all (λ none. some (sym value ∙ none))) in
    let spread : SpreadAll N.known (length k.points.items) so.fresh.items before_it now =
    subst (λ (n : ℕ). SpreadAll N.known n so.fresh.items before_it now) count (subst (λ (es : List CheckedEvent). SpreadAll N.known c.len-points.result es before_it now) bound.1 c.pass_all_on.ensures) in
    let whole : IsAnsweredWhole N.checks k.inbox.state request so.copy new so.fresh.items =
    subst (λ (a : Answer). IsAnsweredWhole N.checks k.inbox.state request a new so.fresh.items) (sym c.in_ok-reply.ensures.copy)
    (answers_request k.inbox.state so.reply new so.fresh.items N.receiver c.self.invariant.server N.checks request c.args.judged.comes_to c.requires.decided c.in_ok-reply.ensures.answers) in
    let items : c.push.new.self.items ≡ k.points.items ++ point ∷ [] =
    c.push.ensures.items ∙ ap (λ r. if is_ok r then c.reserve.new.self.items ++ c.new.result ∷ [] else c.reserve.new.self.items) c.unwrap.ensures
    ∙ (λ i. before i ++ c.new.ensures i ∷ []) in
    subst (λ (ps : List Point). IsServing N.rooms N.known N.checks N.receiver N.beginning ps new now) (sym items)
    (goes_on_serving N.rooms N.known N.checks N.receiver N.beginning k.points.items k.inbox.state before_it point new now whole spread
    (still_serving k.wires before_it c.full_among.ensures.same c.full_among.ensures.shut N.rooms N.known N.checks N.receiver N.beginning k.points.items k.inbox.state c.self.invariant)
    (still_of_server k.inbox.state so.reply new so.fresh.items N.receiver c.self.invariant.server c.args.judged.comes_to c.in_ok-reply.ensures.answers))

pub returns-clause-served : goal.returns-clause-served
returns-clause-served g c =
    let N = g.N.ServingNaming in
    let k = c.self.inside in
    let so = c.in_ok-reply.field-0 in
    let request = c.args.judged.request in
    let new = c.answer.new.inbox.state in
    let now = c.pass_all_on.new.self in
    let before_it = c.full_among.new.self in
    let point : Point = record { request = request; reply = so.copy; fresh = so.fresh.items } in
    let before = c.in_ok-reserve.ensures.items in
    let count : c.len-points.result ≡ length k.points.items = c.len-points.ensures ∙ c.reserve.new.self.ok.0 ∙ ap length before in
    let value = c.deref-2.ensures.value in
    let bound = goes_as_bound N.known so.fresh.items (fresh_of c.args.judged.comes_to) c.args.judged.bound.items c.all_or_none-bound.result.items c.requires.bound c.in_ok-reply.ensures.fresh
    (λ none. c.all_or_none-bound.ensures.none (value ∙ none)) (λ some. c.all_or_none-bound.ensures.all (λ none. some (sym value ∙ none))) in
    let spread : SpreadAll N.known (length k.points.items) so.fresh.items before_it now =
    subst (λ (n : ℕ). SpreadAll N.known n so.fresh.items before_it now) count (subst (λ (es : List CheckedEvent). SpreadAll N.known c.len-points.result es before_it now) bound.1 c.pass_all_on.ensures) in
    let whole : IsAnsweredWhole N.checks k.inbox.state request so.copy new so.fresh.items =
    subst (λ (a : Answer). IsAnsweredWhole N.checks k.inbox.state request a new so.fresh.items) (sym c.in_ok-reply.ensures.copy)
    (answers_request k.inbox.state so.reply new so.fresh.items N.receiver c.self.invariant.server N.checks request c.args.judged.comes_to c.requires.decided c.in_ok-reply.ensures.answers) in
    let items : c.push.new.self.items ≡ k.points.items ++ point ∷ [] =
    c.push.ensures.items ∙ ap (λ r. if is_ok r then c.reserve.new.self.items ++ c.new.result ∷ [] else c.reserve.new.self.items) c.unwrap.ensures
    ∙ (λ i. before i ++ c.new.ensures i ∷ []) in
    let after : List Point → ServingState = λ ps. record { inbox = new; points = ps; ended = ended_in now; is_shut = now.is_shut } in
    subst (λ (s : ServingState). IsServed N.checks N.known request s so.reply (after c.push.new.self.items))
    (same_state k.wires before_it c.full_among.ensures.same c.full_among.ensures.shut k.points.items k.inbox.state ∙ c.self.view_is)
    (subst (λ (ps : List Point). IsServed N.checks N.known request (record { inbox = k.inbox.state; points = k.points.items; ended = ended_in before_it; is_shut = before_it.is_shut }) so.reply (after ps)) (sym items)
    (subst (λ (a : Answer). IsServed N.checks N.known request (record { inbox = k.inbox.state; points = k.points.items; ended = ended_in before_it; is_shut = before_it.is_shut }) a (after (k.points.items ++ point ∷ []))) c.in_ok-reply.ensures.copy
    (is_served N.rooms N.known N.checks N.receiver N.beginning k.points.items k.inbox.state before_it point new now whole spread
    (λ e. c.in_ok-reply.ensures.served (ap (λ (a : Answer). a.status) (sym c.in_ok-reply.ensures.copy) ∙ e)))))

pub invariant_of-self : goal.invariant_of-self
invariant_of-self g c =
    let N = g.N.ServingNaming in
    let k = c.self.inside in
    still_serving k.wires c.full_among.new.self c.full_among.ensures.same c.full_among.ensures.shut N.rooms N.known N.checks N.receiver N.beginning k.points.items k.inbox.state c.self.invariant

pub returns-in-Some-clause-err : goal.returns-in-Some-clause-err
returns-in-Some-clause-err g c = let k = c.self.inside in same_state k.wires c.full_among.new.self c.full_among.ensures.same c.full_among.ensures.shut k.points.items k.inbox.state ∙ c.self.view_is

pub returns-in-Some-clause-unserved : goal.returns-in-Some-clause-unserved
returns-in-Some-clause-unserved g c =
    let N = g.N.ServingNaming in
    let k = c.self.inside in
    let new = c.full_among.new.self in
    let is = still_serving k.wires new c.full_among.ensures.same c.full_among.ensures.shut N.rooms N.known N.checks N.receiver N.beginning k.points.items k.inbox.state c.self.invariant in
    full_named N.rooms N.known k.points.items new c.args.judged c.deref.result.now _ is.sent c.deref.ensures.value c.in-Some.ensures.full

pub invariant_of-self-in_err-reserve : goal.invariant_of-self-in_err-reserve
invariant_of-self-in_err-reserve g c =
    let N = g.N.ServingNaming in
    let k = c.self.inside in
    subst (λ (ps : List Point). IsServing N.rooms N.known N.checks N.receiver N.beginning ps k.inbox.state c.full_among.new.self) (sym c.in_err-reserve.ensures.items)
    (still_serving k.wires c.full_among.new.self c.full_among.ensures.same c.full_among.ensures.shut N.rooms N.known N.checks N.receiver N.beginning k.points.items k.inbox.state c.self.invariant)

pub returns-in_err-reserve-clause-err : goal.returns-in_err-reserve-clause-err
returns-in_err-reserve-clause-err g c =
    let k = c.self.inside in
    let wires = c.full_among.new.self in
    let after : List Point → ServingState = λ points. record { inbox = k.inbox.state; points = points; ended = ended_in wires; is_shut = wires.is_shut } in
    on_err c.from_residual.result _ ((λ i. after (c.in_err-reserve.ensures.items i)) ∙ same_state k.wires wires c.full_among.ensures.same c.full_among.ensures.shut k.points.items k.inbox.state ∙ c.self.view_is)

pub invariant_of-self-in_err-reply : goal.invariant_of-self-in_err-reply
invariant_of-self-in_err-reply g c =
    let N = g.N.ServingNaming in
    let k = c.self.inside in
    subst (λ (y : List Point × InboxState). IsServing N.rooms N.known N.checks N.receiver N.beginning y.0 y.1 c.full_among.new.self) (λ i. (sym c.in_ok-reserve.ensures.items i, sym c.in_err-reply.ensures.err i))
    (still_serving k.wires c.full_among.new.self c.full_among.ensures.same c.full_among.ensures.shut N.rooms N.known N.checks N.receiver N.beginning k.points.items k.inbox.state c.self.invariant)

pub returns-in_err-reply-clause-err : goal.returns-in_err-reply-clause-err
returns-in_err-reply-clause-err g c =
    let k = c.self.inside in
    let wires = c.full_among.new.self in
    let after : List Point → InboxState → ServingState = λ points inbox. record { inbox = inbox; points = points; ended = ended_in wires; is_shut = wires.is_shut } in
    on_err c.from_residual-in_err-reply.result _ ((λ i. after (c.in_ok-reserve.ensures.items i) (c.in_err-reply.ensures.err i)) ∙ same_state k.wires wires c.full_among.ensures.same c.full_among.ensures.shut k.points.items k.inbox.state ∙ c.self.view_is)
