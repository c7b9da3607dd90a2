use Rattle.std.proofs.Common.{sym, ap, ◌∙◌}
use Rattle.std.specs.List.{slice_get}
use Rattle.fed_hub.specs.Hub.{HubShape}
use Rattle.fed_hub.proofs.Nexts.{next_at}
use Rattle.fed_hub.proofs.hub.Hub.next_act.Goals as goal

pub returns : goal.returns
returns g c =
    let hub = c.args.self.now in
    next_at hub c.args.dest c.args.now c.name-name.result.now (g.K.Keys.own_name c.self.inside.keys) (g.K.Keys.own_key c.self.inside.keys) (g.K.Keys.own_signature c.self.inside.keys) c.self.inside.epoch c.deref_mut.result.now c.act_of.new.outbox c.act_of.result
    (ap (λ (h : HubShape). slice_get h.list c.args.dest) (sym c.self.view_is) ∙ c.name-name.ensures.text) (ap (λ (h : HubShape). h.name) c.self.view_is) (ap (λ (h : HubShape). h.epoch) c.self.view_is) c.act_of.ensures.cut c.act_of.ensures.next
