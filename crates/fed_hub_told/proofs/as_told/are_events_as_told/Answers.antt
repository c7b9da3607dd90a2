use Rattle.std.proofs.Common.{◌≡◌, map, sym, ap, ◌∙◌}
use Rattle.std.proofs.lemmas.Simd.{map-map}
use Rattle.fed_journal.specs.Journal.{events_of}
use Rattle.fed_hub_told.specs.declared.told_event.ToldEvent.{ToldEvent}
use Rattle.fed_hub_told.specs.Told.{ToldState}
use Rattle.fed_hub_told.specs.AsTold.{IsEventOf}
use Rattle.fed_hub_told.proofs.Seen.{answer_seen}
use Rattle.fed_hub_told.proofs.as_told.are_events_as_told.Goals as goal

pub returns : goal.returns
returns g c =
    let clients = c.args.clients.now in
    let are : map (λ e. e.now) c.deref-2.result.now ≡ events_of c.args.entries.now = ap (map (λ e. e.now)) c.deref-2.ensures.value ∙ c.in_ok-events.ensures in
    let told : map (λ es. es.now) c.deref.result.now ≡ map (λ (t : ToldState). t.events) (map g.C.Client.told clients) =
    ap (map (λ es. es.now)) c.deref.ensures.value ∙ c.in_ok-told.ensures ∙ sym (map-map (λ (t : ToldState). t.events) g.C.Client.told clients) in
    answer_seen (λ (t : ToldEvent). t.number) IsEventOf (λ e. e.now) c.deref-2.result.now _ _ _ c.are_as_told.result are told c.are_as_told.ensures
