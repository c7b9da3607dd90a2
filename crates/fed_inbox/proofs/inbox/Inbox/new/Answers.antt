use Rattle.std.proofs.Common.{◌≡◌, ℕ, ◌∙◌, List, map, filter, not, bytes_eq, ap, sym}
use Rattle.fed_event.specs.Checked.{CheckedEvent}
use Rattle.fed_inbox.specs.Log.{LogState, origin_of, with_replies}
use Rattle.fed_inbox.specs.Inbox.{Held}
use Rattle.fed_inbox.specs.Receiver.{ReceiverState, others_of}
use Rattle.fed_inbox.specs.InboxParts.{nothing_from_all}
use Rattle.fed_inbox.proofs.Deliveries.{origins_of_nothing}
use Rattle.fed_inbox.proofs.Logs.{new_logs}
use Rattle.fed_inbox.proofs.inbox.Inbox.new.Goals as goal

same_held : {own own' : List ℕ} {rooms rooms' : List (List ℕ)} {logs logs' : List LogState} {fresh fresh' : List CheckedEvent} → own ≡ own' → rooms ≡ rooms' → logs ≡ logs' → fresh ≡ fresh'
    → ◌≡◌ {A = Held} (record { state = record { own = own; rooms = rooms; logs = logs }; fresh = fresh }) (record { state = record { own = own'; rooms = rooms'; logs = logs' }; fresh = fresh' })
same_held o a b c i = record { state = record { own = o i; rooms = a i; logs = b i }; fresh = c i }

pub returns : goal.returns
returns g c =
    let kept = g.S.ReplyStore.kept c.args.store in
    same_held (ap (λ (r : ReceiverState). r.own) c.in_ok-receiver.ensures) (ap (λ (r : ReceiverState). r.rooms) c.in_ok-receiver.ensures)
    (ap (map (with_replies kept)) (c.in_ok-logs.ensures.logs ∙ ap (nothing_from_all c.args.own) c.in_ok-copy.ensures)
    ∙ new_logs kept (filter (λ server. not (bytes_eq server c.args.own)) c.args.servers))
    c.new-2.ensures.items

pub invariant_of-result : goal.invariant_of-result
invariant_of-result g c = record {
  order = c.in_ok-logs.ensures.order;
  origins = ap (map origin_of) (c.in_ok-logs.ensures.logs ∙ ap (nothing_from_all c.args.own) c.in_ok-copy.ensures)
      ∙ origins_of_nothing (others_of c.args.own c.args.servers) ∙ sym (ap (λ (r : ReceiverState). others_of r.own r.servers) c.in_ok-receiver.ensures);
}
